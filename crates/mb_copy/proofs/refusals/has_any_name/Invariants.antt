-- none so far is copied and there
use Rattle.mb_copy.proofs.Common.{drop, entries, list_any, name_there, ◌≡◌}
use Rattle.mb_copy.proofs.refusals.has_any_name.Given as goal

abbrev pub invariant-loop-index : goal.invariant-loop-index
invariant-loop-index l =
    list_any (name_there l.copier l.base.state) (entries l.source.state.metadata) ≡ list_any (name_there l.copier l.base.state) (drop l.index (entries l.source.state.metadata))
