use Rattle.mb_loaded.proofs.Common.{content_id, map, take, ◌≡◌}
use Rattle.mb_loaded.proofs.given_ids.content_ids.Given as goal

abbrev pub invariant-loop-content : goal.invariant-loop-content
invariant-loop-content l = l.ids.items ≡ map (content_id l.layout l.algorithm) (take l.content-index l.contents)
