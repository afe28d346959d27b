-- what is left is refused as all are
use Rattle.mb_constraints.proofs.Common.{bad_tile, drop, first_refused, rows_kept, ◌≡◌}
use Rattle.mb_constraints.proofs.tile_rows.test_tiles.Given as goal

abbrev pub invariant-loop-row : goal.invariant-loop-row
invariant-loop-row l = first_refused (bad_tile l.layout (rows_kept l.contents.items.items)) l.rows ≡ first_refused (bad_tile l.layout (rows_kept l.contents.items.items)) (drop l.row-index l.rows)
