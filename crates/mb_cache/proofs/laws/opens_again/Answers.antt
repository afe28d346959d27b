use Rattle.mb_cache.proofs.SetLemmas.{opens}
use Rattle.mb_cache.proofs.laws.opens_again.Goals as goal

pub returns : goal.returns
returns c = opens
