use Rattle.pm_reader.proofs.OneLengthLemmas.{cacheable}
use Rattle.pm_reader.proofs.laws.archives_are_cacheable.Goals as goal

pub returns : goal.returns
returns c = cacheable
