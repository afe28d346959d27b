use Rattle.mb_sqlite.proofs.Common.{IfOk, IsLiveSize, OnceReady, refl, Sees, subst}
use Rattle.mb_sqlite.proofs.KeepingLemmas.{reads_store}
use Rattle.mb_sqlite.proofs.ReadyLemmas.{handed, sees_ready}
use Rattle.mb_sqlite.proofs.store.SqliteStoreTileStore.live_size.Goals as goal

pub returns-clause-sized : goal.returns-clause-sized
returns-clause-sized g c =
    handed _ _ _ c.counted.ensures.answer (subst (λ layout. IfOk c.size-answer.result (λ size. OnceReady g.S.Store c.args.self.now.layout c.args.self.now.is_made c.args.self.now.connection (Sees g.S.Store (λ old seen. IsLiveSize g.S.Store layout old seen size) c.size-answer.new.connection))) c.in_ok-begin.ensures.kept.layout
    (sees_ready g.S.Store _ (λ size old seen. IsLiveSize g.S.Store c.begin.new.self.layout old seen size) _ _ _ _ c.size-answer.result c.in_ok-begin.ensures.ready c.begin.ensures.kept.once c.size-answer.ensures.kept.survives c.size-answer.ensures.sized))

pub returns-clause-kept : goal.returns-clause-kept
returns-clause-kept g c =
    reads_store g.S.Store c.args.self.now c.begin.new.self _ c.size-answer.result c.counted.result c.in_ok-begin.ensures.outside c.in_ok-begin.ensures.ended c.in_ok-begin.ensures.ready c.in_ok-begin.ensures.kept c.size-answer.ensures.kept refl refl c.counted.ensures.faults c.counted.ensures.fault c.counted.ensures.still
