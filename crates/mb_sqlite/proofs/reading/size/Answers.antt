use Rattle.mb_sqlite.proofs.Common.{IsLiveSize, rules}
use Rattle.mb_sqlite.proofs.CommitLemmas.{seen_back}
use Rattle.mb_sqlite.proofs.KeepingLemmas.{reads_back}
use Rattle.mb_sqlite.proofs.reading.size.Goals as goal

pub returns-clause-sized : goal.returns-clause-sized
returns-clause-sized g c clean =
    let d = c.drop-transaction-2 in
    seen_back g.S.Store (λ old seen. IsLiveSize g.S.Store c.args.layout old seen c.in_ok-size.size) c.args.connection.now _ c.size.new.transaction.conn.now d.new.self.0 c.connection-2-1.given.0 c.transaction-transaction.ensures.begun c.in_ok-size.ensures.size d.ensures.survives (search rules) clean

pub returns-in_err-size-clause-kept : goal.returns-in_err-size-clause-kept
returns-in_err-size-clause-kept g c =
    let d = c.drop-transaction in
    reads_back g.S.Store c.args.connection.now _ c.size.new.transaction.conn.now d.new.self.0 _ _ _ (search rules) c.transaction-transaction.ensures.begun c.size.ensures.kept d.ensures.survives d.ensures.undone d.ensures.ended (search rules)

pub returns-clause-kept : goal.returns-clause-kept
returns-clause-kept g c =
    let d = c.drop-transaction-2 in
    reads_back g.S.Store c.args.connection.now _ c.size.new.transaction.conn.now d.new.self.0 _ _ _ (search rules) c.transaction-transaction.ensures.begun c.size.ensures.kept d.ensures.survives d.ensures.undone d.ensures.ended (search rules)
