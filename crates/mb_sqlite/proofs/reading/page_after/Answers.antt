use Rattle.mb_sqlite.proofs.Common.{ArePaged, rules}
use Rattle.mb_sqlite.proofs.CommitLemmas.{seen_back}
use Rattle.mb_sqlite.proofs.KeepingLemmas.{reads_back}
use Rattle.mb_sqlite.proofs.reading.page_after.Goals as goal

pub returns-clause-paged : goal.returns-clause-paged
returns-clause-paged g c clean =
    let d = c.drop-transaction-2 in
    seen_back g.S.Store (λ old seen. ArePaged g.S.Store c.args.table old seen c.args.start c.args.limit c.in_ok-page.page.0.items c.in_ok-page.page.1) c.args.connection.now _ c.page.new.transaction.conn.now d.new.self.0 c.connection-2-1.given.0 c.transaction-transaction.ensures.begun c.in_ok-page.ensures.paged d.ensures.survives (search rules) clean

pub returns-in_err-page-clause-kept : goal.returns-in_err-page-clause-kept
returns-in_err-page-clause-kept g c =
    let d = c.drop-transaction in
    reads_back g.S.Store c.args.connection.now _ c.page.new.transaction.conn.now d.new.self.0 _ _ _ (search rules) c.transaction-transaction.ensures.begun c.page.ensures.kept d.ensures.survives d.ensures.undone d.ensures.ended (search rules)

pub returns-clause-kept : goal.returns-clause-kept
returns-clause-kept g c =
    let d = c.drop-transaction-2 in
    reads_back g.S.Store c.args.connection.now _ c.page.new.transaction.conn.now d.new.self.0 _ _ _ (search rules) c.transaction-transaction.ensures.begun c.page.ensures.kept d.ensures.survives d.ensures.undone d.ensures.ended (search rules)
