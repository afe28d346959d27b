use Rattle.tile_hash.proofs.UpperCaseLemmas.{digest_stays}
use Rattle.tile_hash.proofs.laws.digests_have_no_lower_case.Goals as goal

pub returns : goal.returns
returns c = digest_stays
