use Rattle.mb_sqlite.proofs.Common.{IfOk, MovesPast, OnceReady, refl, Sees, subst}
use Rattle.mb_sqlite.proofs.KeepingLemmas.{reads_store}
use Rattle.mb_sqlite.proofs.ReadyLemmas.{handed, sees_ready}
use Rattle.mb_sqlite.proofs.store.SqliteStoreTileStore.rows.Goals as goal

pub returns-clause-paged : goal.returns-clause-paged
returns-clause-paged g c described =
    handed _ _ _ c.counted.ensures.answer (subst (λ cursor. IfOk c.page-answer.result (λ rows. OnceReady g.S.Store c.args.self.now.layout c.args.self.now.is_made c.args.self.now.connection (Sees g.S.Store (λ old seen. MovesPast g.S.Store c.args.table old seen c.args.from c.args.limit cursor c.page-answer.new.cursor rows.items) c.page-answer.new.connection))) c.in_ok-begin.ensures.cursor
    (sees_ready g.S.Store _ (λ rows old seen. MovesPast g.S.Store c.args.table old seen c.args.from c.args.limit c.begin.new.self.cursor c.page-answer.new.cursor rows.items) _ _ _ _ c.page-answer.result c.in_ok-begin.ensures.ready c.begin.ensures.kept.once c.page-answer.ensures.kept.survives c.page-answer.ensures.paged))

pub returns-clause-kept : goal.returns-clause-kept
returns-clause-kept g c =
    reads_store g.S.Store c.args.self.now c.begin.new.self _ c.page-answer.result c.counted.result c.in_ok-begin.ensures.outside c.in_ok-begin.ensures.ended c.in_ok-begin.ensures.ready c.in_ok-begin.ensures.kept c.page-answer.ensures.kept refl refl c.counted.ensures.faults c.counted.ensures.fault c.counted.ensures.still
