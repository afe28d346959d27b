use Rattle.tile_streaming.proofs.Common.{ap, option_map, refl, row_bytes, sym, ◌∙◌}
use Rattle.tile_streaming.proofs.PatchedSetLemmas.{changed_under, held_answer, held_changed, held_found, stored_under}
use Rattle.tile_streaming.proofs.StandsLemmas.{base_anyway}
use Rattle.tile_streaming.proofs.finding.marked_row.Goals as goal

pub returns-then-holds-clause-found : goal.returns-then-holds-clause-found
returns-then-holds-clause-found g c = held_found c.args.set.now c.args.mark.now c.held_row.result c.held_row.ensures.held c.held_row.ensures.fits

pub returns-then-holds-clause-answer : goal.returns-then-holds-clause-answer
returns-then-holds-clause-answer g c = λ u. held_answer c.args.set.now (g.S.TileStore.told c.args.store.now) c.args.mark.now.id c.held_row.result (sym c.holds.ensures ∙ c.if-holds.true) c.held_row.ensures.held

pub returns-then-holds-clause-causes : goal.returns-then-holds-clause-causes
returns-then-holds-clause-causes g c =
    held_changed c.args.set.now (g.S.TileStore.told c.args.store.now) c.args.mark.now (g.S.TileStore.tells c.args.store.now) (g.S.TileStore.faults c.args.store.now) c.held_row.result (sym c.holds.ensures ∙ c.if-holds.true) c.held_row.ensures.refused c.held_row.ensures.other

pub returns-in-Ok-clause-answer : goal.returns-in-Ok-clause-answer
returns-in-Ok-clause-answer g c = λ u.
    stored_under c.args.set.now (g.S.TileStore.told c.args.store.now) c.args.mark.now.id (sym c.holds.ensures ∙ c.if-holds.false) ∙ ap (option_map (row_bytes c.args.set.now.marked.layout)) (c.in-Ok.ensures.answer u)

pub returns-in-Err-clause-causes : goal.returns-in-Err-clause-causes
returns-in-Err-clause-causes g c =
    changed_under c.args.set.now (g.S.TileStore.told c.args.store.now) c.args.mark.now (g.S.TileStore.tells c.args.store.now) (g.S.TileStore.faults c.args.store.now) (g.S.TileStore.faults c.stored_row.new.store) c.in-Err.error (sym c.holds.ensures ∙ c.if-holds.false) c.in-Err.ensures.causes

pub returns-then-holds-clause-still : goal.returns-then-holds-clause-still
returns-then-holds-clause-still g c = base_anyway _ _ c.held_row.result refl
