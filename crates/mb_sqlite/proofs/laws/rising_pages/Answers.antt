use Rattle.mb_sqlite.proofs.RisingLemmas.{rises_on}
use Rattle.mb_sqlite.proofs.laws.rising_pages.Goals as goal

pub returns : goal.returns
returns c = rises_on
