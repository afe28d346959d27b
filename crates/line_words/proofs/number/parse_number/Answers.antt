use Rattle.line_words.proofs.Common.{arith, number_to, sym, ◌∙◌}
use Rattle.line_words.proofs.NumberLemmas.{digit_refused}
use Rattle.line_words.proofs.number.parse_number.Goals as goal

pub returns-in_err-number-clause-value : goal.returns-in_err-number-clause-value
returns-in_err-number-clause-value c =
    c.from_residual.ensures ∙ sym (digit_refused c.args.limit c.loop-byte.number c.loop-byte.byte-index c.args.word.now (number_to c.args.limit c.args.word.now) (omega arith) (sym c.in_err-number.ensures) c.loop-byte.invariant.whole)
