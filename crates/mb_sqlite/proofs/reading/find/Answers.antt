use Rattle.mb_sqlite.proofs.Common.{IsFound, rules}
use Rattle.mb_sqlite.proofs.CommitLemmas.{seen_back}
use Rattle.mb_sqlite.proofs.KeepingLemmas.{reads_back}
use Rattle.mb_sqlite.proofs.reading.find.Goals as goal

pub returns-clause-found : goal.returns-clause-found
returns-clause-found g c clean =
    let d = c.drop-transaction-2 in
    seen_back g.S.Store (λ old seen. IsFound g.S.Store c.args.table old seen c.args.key.now c.in_ok-row.row) c.args.connection.now _ c.find.new.transaction.conn.now d.new.self.0 c.connection-2-1.given.0 c.transaction-transaction.ensures.begun c.in_ok-row.ensures.found d.ensures.survives (search rules) clean

pub returns-in_err-row-clause-kept : goal.returns-in_err-row-clause-kept
returns-in_err-row-clause-kept g c =
    let d = c.drop-transaction in
    reads_back g.S.Store c.args.connection.now _ c.find.new.transaction.conn.now d.new.self.0 _ _ _ (search rules) c.transaction-transaction.ensures.begun c.find.ensures.kept d.ensures.survives d.ensures.undone d.ensures.ended (search rules)

pub returns-clause-kept : goal.returns-clause-kept
returns-clause-kept g c =
    let d = c.drop-transaction-2 in
    reads_back g.S.Store c.args.connection.now _ c.find.new.transaction.conn.now d.new.self.0 _ _ _ (search rules) c.transaction-transaction.ensures.begun c.find.ensures.kept d.ensures.survives d.ensures.undone d.ensures.ended (search rules)
