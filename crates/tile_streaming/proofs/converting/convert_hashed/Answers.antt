use Rattle.tile_streaming.proofs.Common.{ap, ConvertOptions, IsHeldWith, overflow_of, refl, stored_in, PartLeaves, StreamCauses, subst, sym, tested_due, unwrap_or, ◌∙◌}
use Rattle.tile_streaming.proofs.DueLemmas.{overflow_due}
use Rattle.tile_streaming.proofs.SizeLemmas.{overflow_same}
use Rattle.tile_streaming.proofs.StreamLemmas.{given_leaves}
use Rattle.tile_streaming.specs.Hashing.{IsRight}
use Rattle.tile_streaming.proofs.StandsLemmas.{medium_anyway, stores_anyway}
use Rattle.tile_streaming.proofs.converting.convert_hashed.Goals as goal

pub returns-then-mark_overflows-clause-causes : goal.returns-then-mark_overflows-clause-causes
returns-then-mark_overflows-clause-causes g c = λ begun from. (
  c.requires.empty,
  c.requires.plain,
  overflow_due (g.O.ArchiveOptions.asks c.args.options.now).verify begun from.state from.is_due (λ b. let u = from.told b in c.requires.right u from.state from.held (from.has u))
      (sym (overflow_same from.state.tiles c.args.set.now.marked.marks.items from.held.marks) ∙ sym (c.mark_overflows.ensures ∙ ap overflow_of c.deref.ensures.value) ∙ c.if-mark_overflows.true),
)

pub convert_held-requires-clause-right : goal.convert_held-requires-clause-right
convert_held-requires-clause-right g c = subst (λ (o : ConvertOptions). IsRight o.verify (g.S.TileStore.tells c.args.base.now) (stored_in c.args.set.now (g.S.TileStore.told c.args.base.now)) c.args.set.now.marked) (sym c.asked-asked.ensures) c.requires.right

pub returns-clause-causes : goal.returns-clause-causes
returns-clause-causes g c = λ begun from.
    subst (λ (o : ConvertOptions). StreamCauses o.writer (tested_due o.verify begun) (g.S.TileStore.tells c.args.base.now) (g.M.Backend.told c.args.medium.now) c.convert_held.result) c.asked-asked.ensures (c.convert_held.ensures.causes begun from)

pub returns-clause-leaves : goal.returns-clause-leaves
returns-clause-leaves g c = λ begun from.
    let asked = g.O.ArchiveOptions.asks c.args.options.now in
    let gives = g.O.ArchiveOptions.gives c.args.options.now in
    let old = g.M.Backend.told c.args.medium.now in
    let new = g.M.Backend.told c.convert_held.new.medium in
    let w = c.chosen-writer.result.now in
    let is = c.chosen-writer.ensures.writer ∙ ap (λ (o : ConvertOptions). unwrap_or c.in_ok-made.made o.writer) c.asked-asked.ensures in
    given_leaves c.args.part.now c.args.set.now.marked w gives (λ s held. subst (gives s) (sym is) (c.in_ok-made.ensures.given s held))
    (tested_due asked.verify begun) (g.S.TileStore.tells c.args.base.now) c.args.coords.now c.convert_held.result old new
    (subst (λ (o : ConvertOptions). PartLeaves c.args.part.now (IsHeldWith c.args.set.now.marked w) (tested_due o.verify begun) (g.S.TileStore.tells c.args.base.now) c.args.coords.now c.convert_held.result old new) c.asked-asked.ensures (c.convert_held.ensures.leaves begun from))

pub returns-then-mark_overflows-clause-base_still : goal.returns-then-mark_overflows-clause-base_still
returns-then-mark_overflows-clause-base_still g c = λ patches. refl

pub returns-then-mark_overflows-clause-medium_still : goal.returns-then-mark_overflows-clause-medium_still
returns-then-mark_overflows-clause-medium_still g c = refl

pub returns-in_err-made-clause-base_still : goal.returns-in_err-made-clause-base_still
returns-in_err-made-clause-base_still g c = λ patches. stores_anyway _ _ c.from_residual.result refl

pub returns-in_err-made-clause-medium_still : goal.returns-in_err-made-clause-medium_still
returns-in_err-made-clause-medium_still g c = medium_anyway _ _ c.from_residual.result refl

pub returns-in_err-found-clause-base_still : goal.returns-in_err-found-clause-base_still
returns-in_err-found-clause-base_still g c = λ patches. stores_anyway _ _ c.from_residual-in_err-found.result refl

pub returns-in_err-found-clause-medium_still : goal.returns-in_err-found-clause-medium_still
returns-in_err-found-clause-medium_still g c = medium_anyway _ _ c.from_residual-in_err-found.result refl

pub returns-clause-base_still : goal.returns-clause-base_still
returns-clause-base_still g c = c.convert_held.ensures.base_still
