use Rattle.mb_sqlite.proofs.Common.{AreMade, ArePrepared, arith, begun, Commits, HasCleanDisk, inl, inr, Rests, rules, state, subst, ◌≡◌}
use Rattle.mb_sqlite.proofs.CommitLemmas.{commits_made, done_once}
use Rattle.mb_sqlite.proofs.ReadyLemmas.{on_err}
use Rattle.mb_sqlite.proofs.RestingLemmas.{rests_back, rests_failed, rests_undone}
use Rattle.mb_sqlite.proofs.making.make.Goals as goal

pub returns-in_err-commit-clause-once : goal.returns-in_err-commit-clause-once
returns-in_err-commit-clause-once g c =
    let old = c.args.connection.now in
    let began = c.transaction-transaction.ensures.begun in
    done_once g.S.Store (AreMade g.S.Store c.args.layout (begun old)) old c.make_missing.new.transaction.conn.now c.commit.new.self.0 _ (rw began at c.make_missing.ensures.kept.survives) (λ clean. (rw began at c.in_ok-make_missing.ensures.passed clean).passed) c.commit.ensures.survives (search rules)

pub returns-in_err-commit-clause-rests : goal.returns-in_err-commit-clause-rests
returns-in_err-commit-clause-rests g c outside =
    let old = c.args.connection.now in
    let end = c.commit.new.self.0 in
    let began = c.transaction-transaction.ensures.begun in
    let same : end ≡ c.connection-then-branch-1.given.0 = search rules in
    let kept = rw began at c.make_missing.ensures.kept.stands in
    let stays = rw began at c.in_ok-make_missing.ensures.kept.inside in
    on_err _ _ (subst (λ h. Rests g.S.Store old h) same (rests_failed g.S.Store old c.make_missing.new.transaction.conn.now end _ _ kept stays c.commit.ensures.survives c.in_err-commit.ensures.err c.commit.ensures.ended))

pub returns-in_ok-commit-clause-once : goal.returns-in_ok-commit-clause-once
returns-in_ok-commit-clause-once g c =
    let old = c.args.connection.now in
    let began = c.transaction-transaction.ensures.begun in
    done_once g.S.Store (AreMade g.S.Store c.args.layout (begun old)) old c.make_missing.new.transaction.conn.now c.commit.new.self.0 _ (rw began at c.make_missing.ensures.kept.survives) (λ clean. (rw began at c.in_ok-make_missing.ensures.passed clean).passed) c.commit.ensures.survives (search rules)

pub returns-in_ok-commit-clause-prepared : goal.returns-in_ok-commit-clause-prepared
unfolding ArePrepared
returns-in_ok-commit-clause-prepared g c clean =
    let old = c.args.connection.now in
    let Ends = AreMade g.S.Store c.args.layout (begun old) in
    let mid = c.make_missing.new.transaction.conn.now in
    let end = c.commit.new.self.0 in
    let began = c.transaction-transaction.ensures.begun in
    let made = commits_made g.S.Store Ends mid end _ _ _ _ (λ (clean : HasCleanDisk (state g.S.Store mid)). (rw began at c.in_ok-make_missing.ensures.passed clean).passed) c.commit.ensures.survives c.in_ok-commit.ensures.ok in
    let same : end ≡ c.connection-then-branch-1.given.0 = search rules in
    inr (subst (λ h. HasCleanDisk (state g.S.Store h) → Commits g.S.Store Ends h) same made clean)

pub returns-else-branch-clause-prepared : goal.returns-else-branch-clause-prepared
unfolding ArePrepared
returns-else-branch-clause-prepared g c =
    let old = c.args.connection.now in
    let mid = c.make_missing.new.transaction.conn.now in
    let end = c.drop-transaction-else-branch.new.self.0 in
    let began = c.transaction-transaction.ensures.begun in
    let passed = rw began at c.in_ok-make_missing.ensures.passed in
    let same : end ≡ c.connection-else-branch-1.given.0 = search rules in
    let rests = rests_undone g.S.Store old mid end (rw began at c.make_missing.ensures.kept.stands) c.drop-transaction-else-branch.ensures.survives c.drop-transaction-else-branch.ensures.undone c.drop-transaction-else-branch.ensures.ended in
    let whole : HasCleanDisk (state g.S.Store end) → ArePrepared g.S.Store c.args.layout old end =
    λ clean. inl (mid, (passed (omega (arith, clean, c.drop-transaction-else-branch.ensures.survives.clean))).there c.if-branch.false, c.drop-transaction-else-branch.ensures.undone clean, rests) in
    subst (λ h. HasCleanDisk (state g.S.Store h) → ArePrepared g.S.Store c.args.layout old h) same whole

pub returns-in_err-make_missing-clause-rests : goal.returns-in_err-make_missing-clause-rests
returns-in_err-make_missing-clause-rests g c outside =
    let d = c.drop-transaction in
    on_err _ _ (rests_back g.S.Store c.args.connection.now _ c.make_missing.new.transaction.conn.now d.new.self.0 _ c.transaction-transaction.ensures.begun c.make_missing.ensures.kept.stands d.ensures.survives d.ensures.undone d.ensures.ended (search rules))
