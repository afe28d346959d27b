use Rattle.mb_store.proofs.FaultLemmas.{counted_then}
use Rattle.mb_cache.proofs.opening.begin.Goals as goal

pub returns-then-is_empty-clause-fault : goal.returns-then-is_empty-clause-fault
returns-then-is_empty-clause-fault g c = counted_then _ _ _ _ _ _ c.in_ok-tables.ensures.fault.still c.create_cache_schema.ensures.fault
