use Rattle.hex_pairs.proofs.Common.{ap, AreDigits, paired, subst, take, ◌*◌, ◌++◌, ◌∙◌}
use Rattle.hex_pairs.proofs.ReadLemmas.{AreDigits-append, two_loads}
use Rattle.hex_pairs.proofs.decoding.read_block.Goals as goal

pub returns-clause-digits : goal.returns-clause-digits
returns-clause-digits c = λ _. subst AreDigits (two_loads c.args.digits.now (2 * c.args.at)) (AreDigits-append _ _ (c.are_digits.ensures c.if-not-are_digits.false) (c.are_digits-2.ensures c.if-not-are_digits-2.false))

pub returns-clause-read : goal.returns-clause-read
returns-clause-read c = λ _.
    let digits = AreDigits-append _ _ (c.are_digits.ensures c.if-not-are_digits.false) (c.are_digits-2.ensures c.if-not-are_digits-2.false) in
    c.store.ensures.written ∙ ap (λ l. take c.args.at c.args.bytes.now ++ l) (c.bytes_of_digits.ensures digits ∙ ap paired (two_loads c.args.digits.now (2 * c.args.at)))
