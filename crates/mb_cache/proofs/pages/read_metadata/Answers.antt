use Rattle.mb_store.proofs.FaultLemmas.{counted_then}
use Rattle.mb_cache.proofs.pages.read_metadata.Goals as goal

pub returns-clause-fault : goal.returns-clause-fault
returns-clause-fault g c = counted_then _ _ _ _ _ _ c.in_ok-count.ensures.fault.still c.rows.ensures.fault
