use Rattle.pm_format.proofs.Common.{arith, rules, subst, sym, ℕ, [], ◌++◌, ◌+◌, ◌^◌, ◌∙◌, ◌∷◌, ◌≡◌, ◌≤◌}
use Rattle.pm_format.proofs.ColumnLemmas.{IdsReading, ids_step, ids_stop, ids_pass, u64_number}
use Rattle.pm_format.proofs.directory.decode.read_ids.Goals as goal

pub returns-in_err-step-clause-none : goal.returns-in_err-step-clause-none
returns-in_err-step-clause-none c = λ _. ids_stop _ _ _ _ _ _ _ c.loop-i-test.true (sym (u64_number _) ∙ c.in_err-step.ensures.none) c.loop-i.invariant

pub returns-in_default-clause-none : goal.returns-in_default-clause-none
returns-in_default-clause-none c =
    let past : 2 ^ 64 ≤ c.loop-i.last + c.in_ok-step.step = omega (arith, c.in_default.ensures) in
    λ _. ids_pass _ _ _ _ _ _ _ _ _ c.loop-i-test.true (sym (u64_number _) ∙ c.in_ok-step.ensures.found) past c.loop-i.invariant

pub loop-i-preserved : goal.loop-i-preserved
loop-i-preserved c =
    let e : c.push.new.self.items ≡ c.loop-i.ids.items ++ c.in-Some.id ∷ [] = search rules in
    rw e
    (subst (λ (x : ℕ). IdsReading c.args.bytes.now c.args.start c.args.count (c.loop-i._i + 1) c.in_ok-step.next x (c.loop-i.ids.items ++ x ∷ [])) (sym c.in-Some.ensures.1)
    (ids_step _ _ _ _ _ _ _ _ _ c.loop-i-test.true c.in_ok-step.ensures.place.1 (sym (u64_number _) ∙ c.in_ok-step.ensures.found) c.in-Some.ensures.0 c.loop-i.invariant))
