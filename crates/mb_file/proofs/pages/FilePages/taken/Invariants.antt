use Rattle.std.proofs.Common.{false, length, slice_index_or, true, ◌+◌, ◌≡◌}
use Rattle.mb_file.proofs.pages.FilePages.taken.Given as goal

abbrev pub invariant-loop-before : goal.invariant-loop-before
invariant-loop-before g l = record { long : length l.taken.items ≡ l.before + 1; first : slice_index_or l.taken.items 0 false ≡ true }
