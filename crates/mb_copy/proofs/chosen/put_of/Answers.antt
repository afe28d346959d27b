use Rattle.mb_copy.proofs.Common.{ap, Held, is_put, is_put_name, map, names_antisymmetric, names_to_put, nat_list_cmp_total, place_at, places_antisymmetric, places_total, removed_all, tiles_to_put}
use Rattle.mb_copy.proofs.Common.{times_to_put, ◌∙◌}
use Rattle.mb_copy.proofs.ClearedLemmas.{cleared, settled_as}
use Rattle.mb_copy.proofs.chosen.put_of.Goals as goal

pub returns-clause-tiles : goal.returns-clause-tiles
returns-clause-tiles c =
    settled_as (λ (h : Held). h.state.tiles) c.settle.result c.clear_names.new.set (tiles_to_put c.args.copier.now c.args.source.state.tiles c.args.base.now.state)
    (c.in_ok-clear_names.ensures.tiles
    ∙ (c.in_ok-clear_coords.ensures.tiles
    ∙ (ap (λ (h : Held). removed_all h.state.tiles (map place_at c.deref.result.now)) c.edit-set.ensures
    ∙ (ap (λ cs. removed_all c.args.source.state.tiles (map place_at cs)) c.deref.ensures.value
    ∙ (ap (removed_all c.args.source.state.tiles) c.in_ok-coords.ensures
    ∙ cleared places_total places_antisymmetric (is_put c.args.copier.now c.args.source.state.tiles c.args.base.now.state) c.args.source.state.tiles c.args.source.state.tiles (λ q h. h))))))
    c.settle.ensures

pub returns-clause-times : goal.returns-clause-times
returns-clause-times c =
    settled_as (λ (h : Held). h.state.dates) c.settle.result c.clear_names.new.set (times_to_put c.args.copier.now c.args.source.state c.args.base.now.state)
    (c.in_ok-clear_names.ensures.times
    ∙ (c.in_ok-clear_coords.ensures.times
    ∙ (ap (λ (h : Held). removed_all h.state.dates (map place_at c.deref.result.now)) c.edit-set.ensures
    ∙ (ap (λ cs. removed_all c.args.source.state.dates (map place_at cs)) c.deref.ensures.value
    ∙ (ap (removed_all c.args.source.state.dates) c.in_ok-coords.ensures
    ∙ cleared places_total places_antisymmetric (is_put c.args.copier.now c.args.source.state.tiles c.args.base.now.state) c.args.source.state.tiles c.args.source.state.dates c.requires.dated)))))
    c.settle.ensures

pub returns-clause-names : goal.returns-clause-names
returns-clause-names c =
    settled_as (λ (h : Held). h.state.metadata) c.settle.result c.clear_names.new.set (names_to_put c.args.copier.now c.args.source.state.metadata c.args.base.now.state.metadata)
    (c.in_ok-clear_names.ensures.names
    ∙ (ap (λ m. removed_all m c.deref-2.result.now) c.in_ok-clear_coords.ensures.names
    ∙ (ap (λ (h : Held). removed_all h.state.metadata c.deref-2.result.now) c.edit-set.ensures
    ∙ (ap (removed_all c.args.source.state.metadata) (c.deref-2.ensures.value ∙ c.in_ok-names.ensures)
    ∙ cleared nat_list_cmp_total names_antisymmetric (is_put_name c.args.copier.now c.args.base.now.state.metadata) c.args.source.state.metadata c.args.source.state.metadata (λ q h. h)))))
    c.settle.ensures
