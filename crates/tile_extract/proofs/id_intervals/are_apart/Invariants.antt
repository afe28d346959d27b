use Rattle.tile_extract.proofs.Common.{AreApart, length, low_behind, ◌↔◌}
use Rattle.tile_extract.proofs.id_intervals.are_apart.Given as goal

abbrev pub invariant-loop-first : goal.invariant-loop-first
invariant-loop-first l = AreApart 0 l.items ↔ AreApart (low_behind l.before) l.rest

abbrev pub decreases-loop-first : goal.decreases-loop-first
decreases-loop-first l = length l.rest
