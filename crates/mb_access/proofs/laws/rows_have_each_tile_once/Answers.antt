use Rattle.mb_access.proofs.Common.{sym}
use Rattle.mb_access.proofs.StreamRows.{as_many, found_at, has_passed}
use Rattle.mb_access.proofs.laws.rows_have_each_tile_once.Goals as goal

pub returns-clause-once : goal.returns-clause-once
returns-clause-once c = λ t s h. (has_passed t s h).apart

pub returns-clause-all : goal.returns-clause-all
returns-clause-all c = λ t s h p. sym (found_at t s (has_passed t s h) p)

pub returns-clause-count : goal.returns-clause-count
returns-clause-count c = λ t s h. as_many t s (has_passed t s h)
