use Rattle.mb_lists.proofs.AddressLemmas.{same_address}
use Rattle.mb_lists.proofs.laws.places_have_own_ids.Goals as goal

pub returns : goal.returns
returns c = same_address
