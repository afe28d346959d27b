use Rattle.mb_load.proofs.Common.{ap, content_rows, err_from_is_err_and, index_missing, layout_of, List, Metadata, metadata_missing, patch_type_of, sym, TableDesc, Tables, tile_table, unasked, ◌∙◌}
use Rattle.mb_load.proofs.LoadsFrom.{answer_loaded, answer_named, answer_whole}
use Rattle.mb_load.proofs.StateLemmas.{answer_of, no_fault, never_faulted, own_of, own_of_store, own_refused}
use Rattle.mb_load.proofs.loading.load.Goals as goal

pub returns-in_err-descriptions-clause-own : goal.returns-in_err-descriptions-clause-own
returns-in_err-descriptions-clause-own g c =
    let p = err_from_is_err_and c.from_residual.result c.from_residual.ensures.1 in
    own_of_store c.from_residual.result _ p.0 p.1 p.2

pub returns-in_err-layout-clause-own : goal.returns-in_err-layout-clause-own
returns-in_err-layout-clause-own g c =
    let p = err_from_is_err_and c.from_residual-in_err-layout.result c.from_residual-in_err-layout.ensures.1 in
    own_refused c.from_residual-in_err-layout.result c.deref.result.now p.0 _ p.1 p.2 c.in_err-layout.ensures.refused

pub returns-in_err-layout-clause-fault : goal.returns-in_err-layout-clause-fault
returns-in_err-layout-clause-fault g c =
    let p = err_from_is_err_and c.from_residual-in_err-layout.result c.from_residual-in_err-layout.ensures.1 in
    unasked _ _ c.args.store.now _ _ _ c.in_ok-descriptions.ensures.fault.still
    (no_fault c.from_residual-in_err-layout.result p.0 _ p.1 p.2 c.in_err-layout.ensures.unfaulted)

pub returns-in_err-rows-clause-own : goal.returns-in_err-rows-clause-own
returns-in_err-rows-clause-own g c =
    let p = err_from_is_err_and c.from_residual-in_err-rows.result c.from_residual-in_err-rows.ensures.1 in
    own_of_store c.from_residual-in_err-rows.result _ p.0 p.1 p.2

pub returns-clause-answer : goal.returns-clause-answer
returns-clause-answer g c = λ t.
    let told = g.S.TileStore.told c.args.store.now in
    let tells = c.in_ok-descriptions.ensures.kept.tells ∙ t in
    let same = c.in_ok-descriptions.ensures.kept.told in
    answer_of told c.in_ok-layout.layout c.loaded_from.result c.in_ok-descriptions.descriptions.items c.get_patch_type-patch_type.result c.in_ok-rows.rows.metadata.items c.in_ok-rows.rows.contents.items c.in_ok-rows.rows.tiles.items
    (c.in_ok-descriptions.ensures.answer t)
    (c.get_patch_type-patch_type.ensures ∙ ap patch_type_of c.deref-2.ensures.value)
    (ap layout_of (sym c.deref.ensures.value) ∙ c.in_ok-layout.ensures.layout)
    (ap metadata_missing (sym c.deref.ensures.value) ∙ c.in_ok-layout.ensures.metadata)
    (ap (λ (ds : List TableDesc). index_missing ds c.in_ok-layout.layout) (sym c.deref.ensures.value) ∙ c.in_ok-layout.ensures.index)
    (c.in_ok-rows.ensures.metadata tells ∙ ap (λ (x : Tables). x.rows Metadata) same)
    (c.in_ok-rows.ensures.contents tells ∙ ap (λ (x : Tables). content_rows c.in_ok-layout.layout x) same)
    (c.in_ok-rows.ensures.tiles tells ∙ ap (λ (x : Tables). x.rows (tile_table c.in_ok-layout.layout)) same)
    c.loaded_from.ensures.loads

pub returns-clause-own : goal.returns-clause-own
returns-clause-own g c =
    own_of c.in_ok-layout.layout c.loaded_from.result c.in_ok-descriptions.descriptions.items c.get_patch_type-patch_type.result c.in_ok-rows.rows.metadata.items c.in_ok-rows.rows.contents.items c.in_ok-rows.rows.tiles.items
    (c.get_patch_type-patch_type.ensures ∙ ap patch_type_of c.deref-2.ensures.value)
    (ap layout_of (sym c.deref.ensures.value) ∙ c.in_ok-layout.ensures.layout)
    (ap metadata_missing (sym c.deref.ensures.value) ∙ c.in_ok-layout.ensures.metadata)
    (ap (λ (ds : List TableDesc). index_missing ds c.in_ok-layout.layout) (sym c.deref.ensures.value) ∙ c.in_ok-layout.ensures.index)
    c.in_ok-rows.ensures.none
    c.loaded_from.ensures.loads

pub returns-clause-loaded : goal.returns-clause-loaded
returns-clause-loaded g c = λ t.
    answer_loaded (g.S.TileStore.told c.args.store.now) c.loaded_from.result (g.met.S.TileStore.sound c.args.store.now t) (returns-clause-answer g c t)

pub returns-clause-whole : goal.returns-clause-whole
returns-clause-whole g c = answer_whole c.loaded_from.result (returns-clause-own g c)

pub returns-clause-named : goal.returns-clause-named
returns-clause-named g c = answer_named c.loaded_from.result (returns-clause-own g c)

pub returns-clause-fault : goal.returns-clause-fault
returns-clause-fault g c =
    unasked _ _ c.args.store.now _ _ _ (c.in_ok-rows.ensures.fault.still ∙ c.in_ok-descriptions.ensures.fault.still)
    (never_faulted c.loaded_from.result c.loaded_from.ensures.unfaulted)
