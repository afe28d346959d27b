use Rattle.mb_sqlite.proofs.Common.{answer_size, min, RisesTo, sum_by, take, ◌+◌, ◌-◌, ◌^◌, ◌≡◌, ◌≤◌}
use Rattle.mb_sqlite.proofs.sizing.with_rows.Given as goal

abbrev pub invariant-loop-answer : goal.invariant-loop-answer
invariant-loop-answer l = record {
  long : l.count ≡ l.answer-index;
  limit : l.count ≤ l.limit;
  sum : l.sum ≡ min (l.size + sum_by (answer_size l.table) (take l.answer-index l.answers)) (2 ^ 64 - 1);
  rises : RisesTo l.table l.fn.from (take l.answer-index l.answers) l.last;
}
