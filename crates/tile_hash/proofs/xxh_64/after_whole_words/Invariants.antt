use Rattle.tile_hash.proofs.Common.{after_words, ◌≡◌}
use Rattle.tile_hash.proofs.xxh_64.after_whole_words.Given as goal

abbrev pub invariant-loop-i : goal.invariant-loop-i
invariant-loop-i l = l.hash ≡ after_words l.fn.begun l.rest l.i
