use Rattle.mb_sqlite.proofs.Common.{IsCounted, rules}
use Rattle.mb_sqlite.proofs.CommitLemmas.{seen_back}
use Rattle.mb_sqlite.proofs.KeepingLemmas.{reads_back}
use Rattle.mb_sqlite.proofs.reading.count.Goals as goal

pub returns-clause-counted : goal.returns-clause-counted
returns-clause-counted g c clean =
    let d = c.drop-transaction-2 in
    seen_back g.S.Store (λ old seen. IsCounted g.S.Store c.args.table old seen c.in_ok-count.count) c.args.connection.now _ c.count.new.transaction.conn.now d.new.self.0 c.connection-2-1.given.0 c.transaction-transaction.ensures.begun c.in_ok-count.ensures.counted d.ensures.survives (search rules) clean

pub returns-in_err-count-clause-kept : goal.returns-in_err-count-clause-kept
returns-in_err-count-clause-kept g c =
    let d = c.drop-transaction in
    reads_back g.S.Store c.args.connection.now _ c.count.new.transaction.conn.now d.new.self.0 _ _ _ (search rules) c.transaction-transaction.ensures.begun c.count.ensures.kept d.ensures.survives d.ensures.undone d.ensures.ended (search rules)

pub returns-clause-kept : goal.returns-clause-kept
returns-clause-kept g c =
    let d = c.drop-transaction-2 in
    reads_back g.S.Store c.args.connection.now _ c.count.new.transaction.conn.now d.new.self.0 _ _ _ (search rules) c.transaction-transaction.ensures.begun c.count.ensures.kept d.ensures.survives d.ensures.undone d.ensures.ended (search rules)
