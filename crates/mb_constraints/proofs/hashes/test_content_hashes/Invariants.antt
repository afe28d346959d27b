-- what is left is refused as all are
use Rattle.mb_constraints.proofs.Common.{drop, first_refused, wrong_id, ◌≡◌}
use Rattle.mb_constraints.proofs.hashes.test_content_hashes.Given as goal

abbrev pub invariant-loop-content : goal.invariant-loop-content
invariant-loop-content l = first_refused (wrong_id l.layout l.algorithm) l.contents ≡ first_refused (wrong_id l.layout l.algorithm) (drop l.content-index l.contents)
