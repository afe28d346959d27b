use Rattle.mb_sqlite.proofs.Common.{answer_size, ap, arith, column, drop, Int, min, RisesTo, rules, Some, subst, sum_by, sym, take, to_z-of_z, w64, width, ◌+◌, ◌-◌, ◌^◌, ◌∙◌, ◌≡◌}
use Rattle.mb_sqlite.proofs.RisingLemmas.{RisesTo-enough, RisesTo-next, rises_beyond, rises_none}
use Rattle.mb_sqlite.proofs.SizingLemmas.{sum_enough, sum_taken}
use Rattle.mb_sqlite.proofs.sizing.with_rows.Goals as goal

pub loop-answer-preserved : goal.loop-answer-preserved
loop-answer-preserved c = record {
  long = omega (arith, c.loop-answer.invariant.long);
  limit = omega (arith, c.if-count-limit.false);
  sum = sum_taken (answer_size c.args.table) (2 ^ 64 - 1) c.args.size c.loop-answer.sum c.in_ok-sum.sum c.args.answers.now c.loop-answer.answer-index c.answer-item.result c.answer-item.result c.loop-answer-test.true c.answer-item.is c.loop-answer.invariant.sum c.in_ok-sum.ensures;
  rises = subst (λ z. RisesTo c.args.table c.args.from (take (c.loop-answer.answer-index + 1) c.args.answers.now) (Some z)) (sym (to_z-of_z w64 c.in_ok-number.number (search rules))) (RisesTo-next c.args.table c.args.from c.args.answers.now c.loop-answer.answer-index c.loop-answer.last c.in_ok-number.number c.answer-item.result c.loop-answer-test.true c.loop-answer.invariant.rises
      (subst (λ answer. column answer (width c.args.table) ≡ Int c.in_ok-number.number) c.answer-item.is c.in_ok-number.ensures.is) c.in_ok-number.ensures.above);
}

pub returns-then-count-limit-clause-sum : goal.returns-then-count-limit-clause-sum
returns-then-count-limit-clause-sum c =
    let full : c.loop-answer.answer-index ≡ c.args.limit = omega (arith, c.loop-answer.invariant.long, c.loop-answer.invariant.limit, c.if-count-limit.true) in
    subst (λ n. c.loop-answer.sum ≡ min (c.args.size + sum_by (answer_size c.args.table) (take n c.args.answers.now)) (2 ^ 64 - 1)) full c.loop-answer.invariant.sum

pub returns-clause-sum : goal.returns-clause-sum
returns-clause-sum c =
    c.loop-answer.invariant.sum ∙ ap (λ n. min (c.args.size + n) (2 ^ 64 - 1)) (sum_enough (answer_size c.args.table) c.args.answers.now c.loop-answer.answer-index c.args.limit (omega (arith, c.loop-answer-test.false)) (omega (arith, c.loop-answer-test.false, c.loop-answer.invariant.long, c.loop-answer.invariant.limit)))

pub returns-then-count-limit-clause-rises : goal.returns-then-count-limit-clause-rises
returns-then-count-limit-clause-rises c =
    let full : c.loop-answer.answer-index ≡ c.args.limit = omega (arith, c.loop-answer.invariant.long, c.loop-answer.invariant.limit, c.if-count-limit.true) in
    subst (λ n. RisesTo c.args.table c.args.from (take n c.args.answers.now) c.loop-answer.last) full c.loop-answer.invariant.rises

pub returns-clause-rises : goal.returns-clause-rises
returns-clause-rises c =
    RisesTo-enough c.args.table c.args.from c.args.answers.now c.loop-answer.answer-index c.args.limit c.loop-answer.last (omega (arith, c.loop-answer-test.false)) (omega (arith, c.loop-answer-test.false, c.loop-answer.invariant.long, c.loop-answer.invariant.limit)) c.loop-answer.invariant.rises

pub returns-then-count-limit-clause-beyond : goal.returns-then-count-limit-clause-beyond
returns-then-count-limit-clause-beyond c =
    let full : c.loop-answer.answer-index ≡ c.args.limit = omega (arith, c.loop-answer.invariant.long, c.loop-answer.invariant.limit, c.if-count-limit.true) in (
      Some c.in_ok-number.number,
      subst (λ n. RisesTo c.args.table c.loop-answer.last (take 1 (drop n c.args.answers.now)) (Some c.in_ok-number.number)) full
          (rises_beyond c.args.table c.args.answers.now c.loop-answer.answer-index c.loop-answer.last c.in_ok-number.number c.answer-item.result c.loop-answer-test.true
          (subst (λ answer. column answer (width c.args.table) ≡ Int c.in_ok-number.number) c.answer-item.is c.in_ok-number.ensures.is) c.in_ok-number.ensures.above),
    )

pub returns-clause-beyond : goal.returns-clause-beyond
returns-clause-beyond c =
    (c.loop-answer.last, rises_none c.args.table c.args.answers.now c.args.limit c.loop-answer.last (omega (arith, c.loop-answer-test.false, c.loop-answer.invariant.long, c.loop-answer.invariant.limit)))
