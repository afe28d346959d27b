use Rattle.mb_sqlite.proofs.Common.{All, AllZip, IsRowOf, length, RisesTo, take, width, ◌≡◌, ◌≤◌}
use Rattle.mb_sqlite.proofs.paging.rows_of.Given as goal

abbrev pub invariant-loop-answer : goal.invariant-loop-answer
invariant-loop-answer l = record {
  long : length l.rows.items ≡ l.answer-index;
  limit : length l.rows.items ≤ l.limit;
  widths : All (λ row. length row ≡ width l.table) l.rows.items;
  read : AllZip (IsRowOf l.table) (take l.answer-index l.answers) l.rows.items;
  rises : RisesTo l.table l.fn.from (take l.answer-index l.answers) l.last;
}
