use Rattle.tile_streaming.proofs.Common.{ap, empty, MbtType, ◌∙◌}
use Rattle.mb_loaded.specs.Empty.{empty_state}
use Rattle.mb_loaded.specs.Held.{fresh, Held}
use Rattle.set_options.specs.SetNames.{names_put}
use Rattle.tile_streaming.proofs.HollowLemmas.{over_algorithm, over_contents, over_ids, has_layout, over_names, over_tiles, settled_as}
use Rattle.tile_streaming.specs.Layouts.{over_layout}
use Rattle.tile_streaming.proofs.overlaid.empty_over.Goals as goal

pub returns-clause-layout : goal.returns-clause-layout
returns-clause-layout c =
    let set = c.args.set.now in
    let made = c.in_ok-put_into.ensures ∙ ap (λ (h : Held). names_put h set.names) (c.edit-over.ensures ∙ c.empty.ensures ∙ ap (λ (l : MbtType). fresh (empty_state l set.algorithm)) c.over_layout.ensures.layout) in
    settled_as (λ (h : Held). h.state.layout) c.settle.result c.put_into.new.set (over_layout set.layout) (has_layout (over_layout set.layout) set.algorithm set.names c.put_into.new.set made) c.settle.ensures

pub returns-clause-algorithm : goal.returns-clause-algorithm
returns-clause-algorithm c =
    let set = c.args.set.now in
    let made = c.in_ok-put_into.ensures ∙ ap (λ (h : Held). names_put h set.names) (c.edit-over.ensures ∙ c.empty.ensures ∙ ap (λ (l : MbtType). fresh (empty_state l set.algorithm)) c.over_layout.ensures.layout) in
    settled_as (λ (h : Held). h.state.algorithm) c.settle.result c.put_into.new.set set.algorithm (over_algorithm (over_layout set.layout) set.algorithm set.names c.put_into.new.set made) c.settle.ensures

pub returns-clause-names : goal.returns-clause-names
returns-clause-names c =
    let set = c.args.set.now in
    let made = c.in_ok-put_into.ensures ∙ ap (λ (h : Held). names_put h set.names) (c.edit-over.ensures ∙ c.empty.ensures ∙ ap (λ (l : MbtType). fresh (empty_state l set.algorithm)) c.over_layout.ensures.layout) in
    settled_as (λ (h : Held). h.state.metadata) c.settle.result c.put_into.new.set set.names (over_names (over_layout set.layout) set.algorithm set.names c.put_into.new.set made) c.settle.ensures

pub returns-clause-tiles : goal.returns-clause-tiles
returns-clause-tiles c =
    let set = c.args.set.now in
    let made = c.in_ok-put_into.ensures ∙ ap (λ (h : Held). names_put h set.names) (c.edit-over.ensures ∙ c.empty.ensures ∙ ap (λ (l : MbtType). fresh (empty_state l set.algorithm)) c.over_layout.ensures.layout) in
    settled_as (λ (h : Held). h.state.tiles) c.settle.result c.put_into.new.set empty (over_tiles (over_layout set.layout) set.algorithm set.names c.put_into.new.set made) c.settle.ensures

pub returns-clause-ids : goal.returns-clause-ids
returns-clause-ids c =
    let set = c.args.set.now in
    let made = c.in_ok-put_into.ensures ∙ ap (λ (h : Held). names_put h set.names) (c.edit-over.ensures ∙ c.empty.ensures ∙ ap (λ (l : MbtType). fresh (empty_state l set.algorithm)) c.over_layout.ensures.layout) in
    settled_as (λ (h : Held). h.state.ids) c.settle.result c.put_into.new.set empty (over_ids (over_layout set.layout) set.algorithm set.names c.put_into.new.set made) c.settle.ensures

pub returns-clause-contents : goal.returns-clause-contents
returns-clause-contents c =
    let set = c.args.set.now in
    let made = c.in_ok-put_into.ensures ∙ ap (λ (h : Held). names_put h set.names) (c.edit-over.ensures ∙ c.empty.ensures ∙ ap (λ (l : MbtType). fresh (empty_state l set.algorithm)) c.over_layout.ensures.layout) in
    settled_as (λ (h : Held). h.state.contents) c.settle.result c.put_into.new.set empty (over_contents (over_layout set.layout) set.algorithm set.names c.put_into.new.set made) c.settle.ensures
