use Rattle.mb_access.proofs.Common.{detected, err_from_is_err_and, StoreFault, ◌∙◌}
use Rattle.mb_store.proofs.FaultLemmas.{unasked}
use Rattle.mb_access.proofs.DescribedLemmas.{described_err}
use Rattle.mb_access.proofs.mbtiles.Mbtiles.detect_type.Goals as goal

pub returns-in_err-tables-clause-answer : goal.returns-in_err-tables-clause-answer
returns-in_err-tables-clause-answer g c =
    let p = err_from_is_err_and c.from_residual.result c.from_residual.ensures.1 in
    rw (p.1, p.2) (described_err detected (g.S.TileStore.tells c.args.store.now) (g.S.TileStore.told c.args.store.now) _)

pub returns-clause-answer : goal.returns-clause-answer
returns-clause-answer g c = record { tables = c.deref.result.now; is_told = λ t. c.deref.ensures.value ∙ c.in_ok-tables.ensures.answer t; answers = c.detected_in.ensures.answer }

pub returns-clause-fault : goal.returns-clause-fault
returns-clause-fault g c = unasked g.S.TileStore.faults c.args.store.now c.args.store.now c.describe.new.self c.detected_in.result StoreFault c.in_ok-tables.ensures.fault.still c.detected_in.ensures.fault
