use Rattle.mb_sqlite.proofs.Common.{All, AllZip, ap, arith, Cell, column, drop, Int, IsRowOf, length, length-append, List, RisesTo, rules, Some, subst, sym, take, to_z-of_z, w64, width, [], ◌++◌, ◌+◌}
use Rattle.mb_sqlite.proofs.Common.{◌∙◌, ◌∷◌, ◌≡◌}
use Rattle.std.proofs.lemmas.List.Elements.{All-push}
use Rattle.mb_sqlite.proofs.ReadingLemmas.{AllZip-enough, AllZip-next}
use Rattle.mb_sqlite.proofs.RisingLemmas.{RisesTo-enough, RisesTo-next, rises_beyond, rises_none}
use Rattle.mb_sqlite.proofs.paging.rows_of.Goals as goal

pub loop-answer-preserved : goal.loop-answer-preserved
loop-answer-preserved c =
    let rows : List (List Cell) = c.loop-answer.rows.items in
    let row : List Cell = c.in_ok-row_of.field-0 in
    let pushed : c.push.new.self.items ≡ rows ++ row ∷ [] = c.in_ok-push.ensures.items in
    let long : length c.push.new.self.items ≡ length rows + 1 = ap length pushed ∙ length-append rows (row ∷ []) in
    record {
      long = omega (arith, long, c.loop-answer.invariant.long);
      limit = omega (arith, long, c.if-len-limit.false, c.len.ensures);
      widths = subst (λ (rs : List (List Cell)). All (λ row. length row ≡ width c.args.table) rs) (sym pushed) (All-push (λ row. length row ≡ width c.args.table) rows row c.loop-answer.invariant.widths c.in_ok-row_of.ensures.wide);
      read = subst (λ (rs : List (List Cell)). AllZip (IsRowOf c.args.table) (take (c.loop-answer.answer-index + 1) c.args.answers.now) rs) (sym pushed)
          (AllZip-next (IsRowOf c.args.table) c.args.answers.now rows c.loop-answer.answer-index row c.answer-item.result c.loop-answer-test.true c.loop-answer.invariant.read
          (subst (λ answer. IsRowOf c.args.table answer row) c.answer-item.is c.in_ok-row_of.ensures.cells));
      rises = subst (λ z. RisesTo c.args.table c.args.from (take (c.loop-answer.answer-index + 1) c.args.answers.now) (Some z)) (sym (to_z-of_z w64 c.in_ok-number.number (search rules))) (RisesTo-next c.args.table c.args.from c.args.answers.now c.loop-answer.answer-index c.loop-answer.last c.in_ok-number.number c.answer-item.result c.loop-answer-test.true c.loop-answer.invariant.rises
          (subst (λ answer. column answer (width c.args.table) ≡ Int c.in_ok-number.number) c.answer-item.is c.in_ok-number.ensures.is) c.in_ok-number.ensures.above);
    }

pub returns-then-len-limit-clause-rows : goal.returns-then-len-limit-clause-rows
returns-then-len-limit-clause-rows c =
    let full : c.loop-answer.answer-index ≡ c.args.limit = omega (arith, c.loop-answer.invariant.long, c.loop-answer.invariant.limit, c.if-len-limit.true, c.len.ensures) in
    subst (λ n. AllZip (IsRowOf c.args.table) (take n c.args.answers.now) c.loop-answer.rows.items) full c.loop-answer.invariant.read

pub returns-clause-rows : goal.returns-clause-rows
returns-clause-rows c =
    AllZip-enough (IsRowOf c.args.table) c.args.answers.now c.loop-answer.rows.items c.loop-answer.answer-index c.args.limit (omega (arith, c.loop-answer-test.false)) (omega (arith, c.loop-answer-test.false, c.loop-answer.invariant.long, c.loop-answer.invariant.limit)) c.loop-answer.invariant.read

pub returns-then-len-limit-clause-rises : goal.returns-then-len-limit-clause-rises
returns-then-len-limit-clause-rises c =
    let full : c.loop-answer.answer-index ≡ c.args.limit = omega (arith, c.loop-answer.invariant.long, c.loop-answer.invariant.limit, c.if-len-limit.true, c.len.ensures) in
    subst (λ n. RisesTo c.args.table c.args.from (take n c.args.answers.now) c.loop-answer.last) full c.loop-answer.invariant.rises

pub returns-clause-rises : goal.returns-clause-rises
returns-clause-rises c =
    RisesTo-enough c.args.table c.args.from c.args.answers.now c.loop-answer.answer-index c.args.limit c.loop-answer.last (omega (arith, c.loop-answer-test.false)) (omega (arith, c.loop-answer-test.false, c.loop-answer.invariant.long, c.loop-answer.invariant.limit)) c.loop-answer.invariant.rises

pub returns-then-len-limit-clause-beyond : goal.returns-then-len-limit-clause-beyond
returns-then-len-limit-clause-beyond c =
    let full : c.loop-answer.answer-index ≡ c.args.limit = omega (arith, c.loop-answer.invariant.long, c.loop-answer.invariant.limit, c.if-len-limit.true, c.len.ensures) in (
      Some c.in_ok-number.number,
      subst (λ n. RisesTo c.args.table c.loop-answer.last (take 1 (drop n c.args.answers.now)) (Some c.in_ok-number.number)) full
          (rises_beyond c.args.table c.args.answers.now c.loop-answer.answer-index c.loop-answer.last c.in_ok-number.number c.answer-item.result c.loop-answer-test.true
          (subst (λ answer. column answer (width c.args.table) ≡ Int c.in_ok-number.number) c.answer-item.is c.in_ok-number.ensures.is) c.in_ok-number.ensures.above),
    )

pub returns-clause-beyond : goal.returns-clause-beyond
returns-clause-beyond c =
    (c.loop-answer.last, rises_none c.args.table c.args.answers.now c.args.limit c.loop-answer.last (omega (arith, c.loop-answer-test.false, c.loop-answer.invariant.long, c.loop-answer.invariant.limit)))
