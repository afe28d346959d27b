use Rattle.tile_extract.proofs.Common.{block_start, Bool, Gathered, Wants, ℕ, ◌+◌, ◌-◌}
use Rattle.tile_extract.proofs.quadrants.+add_quadrant.Given as goal

abbrev pub decreases-add_quadrant : goal.decreases-add_quadrant
decreases-add_quadrant l = l.zoom - l.level

abbrev pub invariant-loop-child : goal.invariant-loop-child
invariant-loop-child l = (wanted : ℕ → Bool) → Wants l.boxes l.zoom wanted → Gathered wanted (block_start l.zoom l.level l.number) l.fn.found.items → Gathered wanted (block_start l.zoom (l.level + 1) l.child) l.found.items
