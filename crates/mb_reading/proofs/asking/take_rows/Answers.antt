use Rattle.mb_reading.proofs.Common.{ap, CommitsShowing, FailsToQuery, HasCleanDisk, NeverFails, None, option_copied, refl, Refuses, row_if, rules, Some, state, subst, Survives, sym, told_of, []}
use Rattle.mb_reading.proofs.Common.{◌++◌, ◌∙◌, ◌∷◌, ◌≡◌}
use Rattle.mb_reading.proofs.AskLemmas.{begun, clean_before, commits_nothing, commits_then, ends, goes_on, refuses, refuses_on}
use Rattle.mb_reading.proofs.asking.take_rows.Goals as goal
use Rattle.mb_reading.proofs.asking.take_rows.Goals.{else-rows-test, then-rows-test+in_ok-advance+in-Some+then-is_err}

pub returns-in_err-rows-clause-survives : goal.returns-in_err-rows-clause-survives
returns-in_err-rows-clause-survives g c =
    let old = state g.S.Store c.args.connection.now in
    let new = state g.S.Store c.query.follows.lender-at-none in
    let held = c.query.follows.holds-at-none in
    let kept : Survives old new (CommitsShowing c.args.text.now [] old) = search rules in
    commits_nothing c.args.text.now c.requires.asks old new kept

pub returns-in_err-rows-clause-refuses : goal.returns-in_err-rows-clause-refuses
returns-in_err-rows-clause-refuses g c clean =
    let old = state g.S.Store c.args.connection.now in
    let new = state g.S.Store c.query.follows.lender-at-none in
    let held = c.query.follows.holds-at-none in
    let fails : FailsToQuery c.args.text.now [] old new c.in_err-rows.field-0.0 = search rules in
    let refused : Refuses c.args.text.now old new c.in_err-rows.field-0.0 = refuses c.args.text.now c.requires.asks old new _ fails in
    search rules

pub rows-init : goal.rows-init
rows-init g c =
    let made = c.in_ok-rows.ensures in (
      refl,
      commits_nothing c.args.text.now c.requires.asks _ _ made.survives,
      ap (λ s. (told_of s.store).descriptions) c.new-filling.ensures.same,
      subst (λ s. NeverFails s.store) (sym c.new-filling.ensures.same) c.requires.unfailing,
      [],
      c.new-filling.ensures.taken c.args.table,
      λ clean. begun c.args.text.now c.requires.asks g.S.Store c.args.connection.now _ (made.begun clean),
    )

pub returns-in_err-advance-clause-refuses : goal.returns-in_err-advance-clause-refuses
returns-in_err-advance-clause-refuses g c clean =
    let old = c.args.connection.now in
    let now = c.advance.new.self.conn.now in
    let late : HasCleanDisk (state g.S.Store now) = search rules in
    let was = c.rows.invariant.6 (clean_before g.S.Store c.rows.rows.conn.now now c.advance.ensures.survives late) in
    let refused : Refuses c.args.text.now (state g.S.Store old) (state g.S.Store now) c.in_err-advance.field-0.0 =
    refuses_on c.args.text.now c.requires.asks g.S.Store old c.rows.rows.conn.now now c.rows.invariant.4 _ was.0 was.1 (c.in_err-advance.ensures.err late) in
    search rules

pub returns-in_err-advance-clause-survives : goal.returns-in_err-advance-clause-survives
returns-in_err-advance-clause-survives g c =
    let now = c.advance.new.self.conn.now in
    let kept = commits_then g.S.Store c.args.connection.now c.rows.rows.conn.now now c.rows.invariant.1 c.advance.ensures.survives in
    search rules

pub returns-in_default-clause-survives : goal.returns-in_default-clause-survives
returns-in_default-clause-survives g c =
    let now = c.advance.new.self.conn.now in
    let kept = commits_then g.S.Store c.args.connection.now c.rows.rows.conn.now now c.rows.invariant.1 c.advance.ensures.survives in
    search rules

pub returns-clause-survives : goal.returns-clause-survives
returns-clause-survives g c =
    elim c.rows-test.branch [
      | else-rows-test w ↦ search rules
      | then-rows-test+in_ok-advance+in-Some+then-is_err w ↦ let kept = commits_then g.S.Store c.args.connection.now c.rows.rows.conn.now w.advance.new.self.conn.now c.rows.invariant.1 w.advance.ensures.survives in search rules
    ]

pub returns-in_default-clause-shown : goal.returns-in_default-clause-shown
returns-in_default-clause-shown g c clean =
    let now = c.advance.new.self.conn.now in
    let late : HasCleanDisk (state g.S.Store now) = search rules in
    let was = c.rows.invariant.6 (clean_before g.S.Store c.rows.rows.conn.now now c.advance.ensures.survives late) in
    let none : row_if c.advance.new.self.has_row now ≡ None = sym c.get.ensures ∙ ap option_copied c.in_default.is in
    let done = ends c.args.text.now c.requires.asks g.S.Store c.args.connection.now c.rows.rows.conn.now now c.rows.invariant.4 _ was.0 was.1 (c.in_ok-advance.ensures.ok late) none in
    (c.rows.invariant.4, done.0, c.rows.invariant.5)

pub rows-preserved : goal.rows-preserved
rows-preserved g c =
    let before = c.rows.rows.conn.now in
    let now = c.advance.new.self.conn.now in
    let inv = c.rows.invariant in
    let answer = c.in-Some.answer.now in
    let some : row_if c.advance.new.self.has_row now ≡ Some answer = sym c.get.ensures ∙ ap option_copied c.in-Some.is in (
      c.advance.ensures.same_reference ∙ inv.0,
      commits_then g.S.Store c.args.connection.now before now inv.1 c.advance.ensures.survives,
      c.take.ensures.described ∙ inv.2,
      c.take.ensures.unfailing inv.3,
      inv.4 ++ answer ∷ [],
      search (rules, inv.5),
      λ clean. (let was = inv.6 (clean_before g.S.Store before now c.advance.ensures.survives clean) in
          goes_on c.args.text.now c.requires.asks g.S.Store c.args.connection.now before now inv.4 _ answer was.0 was.1 (c.in_ok-advance.ensures.ok clean) some (c.in_ok-advance.ensures.same clean)),
    )
