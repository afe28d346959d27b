use Rattle.tile_streaming.proofs.Common.{bytes_in, place_at, Some, stored_in, subst, sym, [], ◌++◌, ◌∙◌}
use Rattle.tile_hash.specs.HashStream.{HasTaken}
use Rattle.tile_streaming.proofs.HashedLemmas.{again_fits, again_none, hashed_as}
use Rattle.tile_streaming.proofs.KeyLemmas.{coord_is}
use Rattle.tile_streaming.specs.Common.{tile_text}
use Rattle.tile_streaming.proofs.StepLemmas.{same_error}
use Rattle.tile_streaming.specs.Stands.{BaseStands}
use Rattle.tile_streaming.proofs.hashing.hash_mark.Goals as goal

pub returns-then-is_empty-clause-hashed : goal.returns-then-is_empty-clause-hashed
returns-then-is_empty-clause-hashed g c = λ a before taken.
    let tells = g.S.TileStore.tells c.args.store.now in
    let t = stored_in c.args.set.now (g.S.TileStore.told c.args.store.now) in
    let m = c.args.mark.now in
    hashed_as tells t a before m c.hash_tile.new.stream c.from-coord.result [] (coord_is m.id c.from-coord.result c.from-coord.ensures) (again_none tells t m (sym c.is_empty.ensures ∙ c.if-is_empty.true)) (c.hash_tile.ensures a before taken)

pub returns-clause-hashed : goal.returns-clause-hashed
returns-clause-hashed g c = λ a before taken.
    let tells = g.S.TileStore.tells c.args.store.now in
    let t = stored_in c.args.set.now (g.S.TileStore.told c.args.store.now) in
    let m = c.args.mark.now in
    let bytes = bytes_in c.args.set.now m.id c.in_ok-row.row in
    hashed_as tells t a before m c.hash_tile-2.new.stream c.from-coord.result bytes (coord_is m.id c.from-coord.result c.from-coord.ensures)
    (again_fits tells t m bytes c.in_ok-row.ensures.found c.in_ok-row.ensures.answer)
    (subst (λ bytes. HasTaken a c.hash_tile-2.new.stream (before ++ tile_text (place_at c.from-coord.result, Some bytes))) c.bytes_in.ensures (c.hash_tile-2.ensures a before taken))

pub returns-in_err-row-clause-still : goal.returns-in_err-row-clause-still
returns-in_err-row-clause-still g c = same_error c.in_err-row.field-0.0 _ (BaseStands (g.S.TileStore.faults c.args.store.now) (g.S.TileStore.faults c.marked_row.new.store)) c.in_err-row.ensures.still c.from_residual.ensures.1
