use Rattle.pm_format.proofs.Common.{u32_at}
use Rattle.pm_format.proofs.varint.read_varint_u32.Goals as goal

pub returns-clause-found : goal.returns-clause-found
unfolding u32_at
returns-clause-found c = c.in-Ok.ensures.found

pub returns-in_default-clause-none : goal.returns-in_default-clause-none
unfolding u32_at
returns-in_default-clause-none c = c.in_default.ensures.none
