use Rattle.mb_reading.proofs.Common.{ap, None, rules, ◌∙◌, ◌≡◌}
use Rattle.mb_reading.proofs.FillLemmas.{full_store, odd_answers}
use Rattle.mb_reading.proofs.filling.finish.Goals as goal

pub returns-in-Some-clause-odd : goal.returns-in-Some-clause-odd
returns-in-Some-clause-odd c = odd_answers c.args.table c.args.filling c.in-Some.error (search rules) (search rules)

pub returns-clause-full : goal.returns-clause-full
returns-clause-full c x answers h =
    let none : c.args.filling.refused ≡ None = search rules in
    let it = full_store c.args.table c.args.filling none x answers h in
    (ap (λ t. (t, c.args.filling.so_far.left_out)) c.is_outside.ensures.told ∙ it.0, it.1)
