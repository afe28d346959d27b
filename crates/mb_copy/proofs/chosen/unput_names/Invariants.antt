-- the names so far are those that aren't put
use Rattle.mb_copy.proofs.Common.{entries, map, take, unput_names, ◌≡◌}
use Rattle.mb_copy.proofs.ClearedLemmas.{itself}
use Rattle.mb_copy.proofs.chosen.unput_names.Given as goal

abbrev pub invariant-loop-index : goal.invariant-loop-index
invariant-loop-index l = map itself l.unput.items ≡ unput_names l.copier l.base.state.metadata (take l.index (entries l.source.state.metadata))
