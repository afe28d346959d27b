use Rattle.std.proofs.Common.{w64}
use Rattle.std.proofs.lemmas.Int.{to_z-of_z}
use Rattle.mb_file.proofs.cursor.fill_empty.Goals as goal

pub returns-then-is_empty-clause-filled : goal.returns-then-is_empty-clause-filled
returns-then-is_empty-clause-filled g c = λ clean layout rows laid table valid rest parts.
    rw (to_z-of_z w64 c.args.next c.ranges.next) at (c.fill.ensures.done clean layout rows laid table)

pub returns-clause-filled : goal.returns-clause-filled
returns-clause-filled g c = λ clean layout rows laid table valid rest parts. record {
  valid = valid;
  rest = rest;
  parts = parts;
  ends = λ none. absurd (let t = c.is_empty.ensures.some layout _ _ valid none in let f = c.if-is_empty.false in cc);
}
