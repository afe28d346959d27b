use Rattle.mb_sqlite.proofs.Common.{IsCounted, refl}
use Rattle.mb_sqlite.proofs.KeepingLemmas.{reads_store}
use Rattle.mb_sqlite.proofs.ReadyLemmas.{handed, sees_ready}
use Rattle.mb_sqlite.proofs.store.SqliteStoreTileStore.count_rows.Goals as goal

pub returns-clause-counted : goal.returns-clause-counted
returns-clause-counted g c described =
    handed _ _ _ c.counted.ensures.answer (sees_ready g.S.Store _ (λ count old seen. IsCounted g.S.Store c.args.table old seen count) _ _ _ _ c.count-answer.result c.in_ok-begin.ensures.ready c.begin.ensures.kept.once c.count-answer.ensures.kept.survives c.count-answer.ensures.counted)

pub returns-clause-kept : goal.returns-clause-kept
returns-clause-kept g c =
    reads_store g.S.Store c.args.self.now c.begin.new.self _ c.count-answer.result c.counted.result c.in_ok-begin.ensures.outside c.in_ok-begin.ensures.ended c.in_ok-begin.ensures.ready c.in_ok-begin.ensures.kept c.count-answer.ensures.kept refl refl c.counted.ensures.faults c.counted.ensures.fault c.counted.ensures.still
