use Rattle.pm_format.proofs.Common.{u64_at}
use Rattle.pm_format.proofs.varint.read_varint_u64.Goals as goal

pub returns-clause-found : goal.returns-clause-found
unfolding u64_at
returns-clause-found c = c.read_number.ensures.found

pub returns-clause-none : goal.returns-clause-none
unfolding u64_at
returns-clause-none c = c.read_number.ensures.none
