use Rattle.mb_copy.proofs.Common.{arith, blob_cell, len-entries, place_at, ◌≡◌}
use Rattle.mb_copy.proofs.EntryLemmas.{entry_there}
use Rattle.mb_copy.proofs.edits.put_time.Goals as goal

pub put_times_at-requires-clause-there : goal.put_times_at-requires-clause-there
put_times_at-requires-clause-there c =
    c.requires.there (place_at c.tile_at-coord.result.0)
    (entry_there (λ v. blob_cell v ≡ c.tile_at-coord.result.1.now) c.args.put.now.state.tiles c.args.index (place_at c.tile_at-coord.result.0) (omega (arith, c.requires.index, len-entries c.args.put.now.state.tiles)) c.tile_at-coord.ensures)
