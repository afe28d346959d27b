use Rattle.mb_loaded.proofs.Common.{arith, cases_lt, inl, inr, IsSpent, subst, ℕ, ◌-◌, ◌≡◌}
use Rattle.mb_loaded.proofs.spending.unspent_count.Goals as goal

pub loop-left-init : goal.loop-left-init
loop-left-init c = record {
  within = omega arith;
  spent = λ k le lt. absurd (omega (arith, le, lt));
}

pub loop-left-preserved : goal.loop-left-preserved
loop-left-preserved c = record {
  within = omega (arith, c.loop-left.invariant.within);
  spent = λ k le lt. elim (cases_lt k c.loop-left.left) [
    | inl less ↦
        let here : c.loop-left.left - 1 ≡ k = omega (arith, le, less) in
        subst (λ (z : ℕ). IsSpent c.args.contents.now c.args.last.now z c.args.index) here (c.is_spent.ensures c.if-not-is_spent.false)
    | inr more ↦ c.loop-left.invariant.spent k more lt
  ];
}

pub returns-then-not-is_spent : goal.returns-then-not-is_spent
returns-then-not-is_spent c = c.loop-left.invariant.spent

pub returns : goal.returns
returns c = c.loop-left.invariant.spent
