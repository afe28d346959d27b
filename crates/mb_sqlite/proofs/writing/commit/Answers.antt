use Rattle.mb_sqlite.proofs.Common.{AreChanged, begun, Commits, CommitsOnce, HasCleanDisk, KeepsCommitted, refl, Rests, rules, state, subst, ◌≡◌}
use Rattle.mb_sqlite.proofs.CommitLemmas.{commits_made, nothing_once, undone_nothing, undone_keeps, failed_keeps, done_once}
use Rattle.mb_sqlite.proofs.ReadyLemmas.{on_err}
use Rattle.mb_sqlite.proofs.RestingLemmas.{rests_back, rests_failed}
use Rattle.mb_sqlite.proofs.writing.commit.Goals as goal

pub returns-in_err-change-clause-once : goal.returns-in_err-change-clause-once
returns-in_err-change-clause-once g c =
    let old = c.args.connection.now in
    let Ends = AreChanged g.S.Store c.args.layout c.args.changes.now (begun old) in
    let end = c.drop-transaction.new.self.0 in
    let began = c.transaction-transaction.ensures.begun in
    let whole = nothing_once g.S.Store Ends old end
    (undone_nothing g.S.Store old c.change.new.transaction.conn.now end (rw began at c.change.ensures.kept.survives) c.drop-transaction.ensures.survives) in
    let same : end ≡ c.connection-1.given.0 = search rules in
    subst (λ h. CommitsOnce g.S.Store Ends old h) same whole

pub returns-in_err-change-clause-refused : goal.returns-in_err-change-clause-refused
returns-in_err-change-clause-refused g c =
    let old = c.args.connection.now in
    let end = c.drop-transaction.new.self.0 in
    let began = c.transaction-transaction.ensures.begun in
    let whole = undone_keeps g.S.Store old c.change.new.transaction.conn.now end (rw began at c.change.ensures.kept.stands) c.drop-transaction.ensures.survives c.drop-transaction.ensures.undone in
    let same : end ≡ c.connection-1.given.0 = search rules in
    let kept = subst (λ h. KeepsCommitted g.S.Store old h) same whole in
    search rules

pub returns-in_err-commit-clause-once : goal.returns-in_err-commit-clause-once
returns-in_err-commit-clause-once g c =
    let old = c.args.connection.now in
    let began = c.transaction-transaction.ensures.begun in
    done_once g.S.Store (AreChanged g.S.Store c.args.layout c.args.changes.now (begun old)) old c.change.new.transaction.conn.now c.commit.new.self.0 _ (rw began at c.change.ensures.kept.survives) (rw began at c.in_ok-change.ensures.changed) c.commit.ensures.survives (search rules)

pub returns-in_err-commit-clause-refused : goal.returns-in_err-commit-clause-refused
returns-in_err-commit-clause-refused g c =
    let old = c.args.connection.now in
    let end = c.commit.new.self.0 in
    let began = c.transaction-transaction.ensures.begun in
    let whole = failed_keeps g.S.Store old c.change.new.transaction.conn.now end _ _ (rw began at c.change.ensures.kept.stands) c.commit.ensures.survives c.in_err-commit.ensures.err in
    let same : end ≡ c.connection-2-1.given.0 = search rules in
    let kept = subst (λ h. KeepsCommitted g.S.Store old h) same whole in
    search rules

pub returns-clause-once : goal.returns-clause-once
returns-clause-once g c =
    let old = c.args.connection.now in
    let began = c.transaction-transaction.ensures.begun in
    done_once g.S.Store (AreChanged g.S.Store c.args.layout c.args.changes.now (begun old)) old c.change.new.transaction.conn.now c.commit.new.self.0 _ (rw began at c.change.ensures.kept.survives) (rw began at c.in_ok-change.ensures.changed) c.commit.ensures.survives (search rules)

pub returns-clause-changed : goal.returns-clause-changed
returns-clause-changed g c clean =
    let old = c.args.connection.now in
    let Ends = AreChanged g.S.Store c.args.layout c.args.changes.now (begun old) in
    let end = c.commit.new.self.0 in
    let began = c.transaction-transaction.ensures.begun in
    let same : end ≡ c.connection-2-1.given.0 = search rules in
    let whole = commits_made g.S.Store Ends c.change.new.transaction.conn.now end _ _ _ _ (rw began at c.in_ok-change.ensures.changed) c.commit.ensures.survives c.in_ok-commit.ensures.ok in
    subst (λ h. HasCleanDisk (state g.S.Store h) → Commits g.S.Store Ends h) same whole clean

pub returns-in_err-change-clause-rests : goal.returns-in_err-change-clause-rests
returns-in_err-change-clause-rests g c outside =
    let old = c.args.connection.now in
    let d = c.drop-transaction in
    let kept = rw c.transaction-transaction.ensures.begun at c.change.ensures.kept.stands in
    on_err _ _ (rests_back g.S.Store old (begun old) c.change.new.transaction.conn.now d.new.self.0 _ refl kept d.ensures.survives d.ensures.undone d.ensures.ended (search rules))

pub returns-in_err-commit-clause-rests : goal.returns-in_err-commit-clause-rests
returns-in_err-commit-clause-rests g c outside =
    let old = c.args.connection.now in
    let end = c.commit.new.self.0 in
    let began = c.transaction-transaction.ensures.begun in
    let same : end ≡ c.connection-2-1.given.0 = search rules in
    let kept = rw began at c.change.ensures.kept.stands in
    let stays = rw began at c.in_ok-change.ensures.kept.inside in
    on_err _ _ (subst (λ h. Rests g.S.Store old h) same (rests_failed g.S.Store old c.change.new.transaction.conn.now end _ _ kept stays c.commit.ensures.survives c.in_err-commit.ensures.err c.commit.ensures.ended))
