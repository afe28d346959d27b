-- what is left makes of these contents what all make of the first, and their ids and cells are those of the first
use Rattle.mb_lists.proofs.Common.{drop, marked_unnamed, ◌≡◌}
use Rattle.mb_lists.proofs.Dropped.{AreLike}
use Rattle.mb_lists.proofs.dropping.mark_all.Given as goal

abbrev pub invariant-loop-index : goal.invariant-loop-index
invariant-loop-index l = record {
  rest : marked_unnamed l.tiles l.contents (drop l.index-index l.order) ≡ marked_unnamed l.tiles l.fn.contents l.order;
  like : AreLike l.fn.contents l.contents;
}
