use Rattle.archive_rows.proofs.Common.{IsTied, ◌≡◌}
use Rattle.archive_rows.proofs.sweep.tiles.Given as goal

abbrev pub invariant-loop-word : goal.invariant-loop-word
invariant-loop-word g l = (IsTied g.B.Backend.told g.C.DirectoryCache.held g.C.DirectoryCache.idle l.reader) × (l.reader.backend.ghost_name ≡ l.initial.reader.backend.ghost_name)
