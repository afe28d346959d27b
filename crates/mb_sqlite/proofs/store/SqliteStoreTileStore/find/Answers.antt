use Rattle.mb_sqlite.proofs.Common.{IsFound, refl}
use Rattle.mb_sqlite.proofs.KeepingLemmas.{reads_store}
use Rattle.mb_sqlite.proofs.ReadyLemmas.{handed, sees_ready}
use Rattle.mb_sqlite.proofs.store.SqliteStoreTileStore.find.Goals as goal

pub returns-clause-found : goal.returns-clause-found
returns-clause-found g c described =
    handed _ _ _ c.counted.ensures.answer (sees_ready g.S.Store _ (λ row old seen. IsFound g.S.Store c.args.table old seen c.args.key.now row) _ _ _ _ c.find-answer.result c.in_ok-begin.ensures.ready c.begin.ensures.kept.once c.find-answer.ensures.kept.survives c.find-answer.ensures.found)

pub returns-clause-kept : goal.returns-clause-kept
returns-clause-kept g c =
    reads_store g.S.Store c.args.self.now c.begin.new.self _ c.find-answer.result c.counted.result c.in_ok-begin.ensures.outside c.in_ok-begin.ensures.ended c.in_ok-begin.ensures.ready c.in_ok-begin.ensures.kept c.find-answer.ensures.kept refl refl c.counted.ensures.faults c.counted.ensures.fault c.counted.ensures.still
