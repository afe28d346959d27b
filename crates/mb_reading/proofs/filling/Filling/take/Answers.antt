use Rattle.mb_reading.proofs.Common.{ap, counted, noted, read_of, refl, rules, Some, step_of, taken, told_of, true, ◌∙◌, ◌≡◌}
use Rattle.mb_reading.proofs.FillLemmas.{noted_by, takes_over, takes_row, takes_odd, none_by, some_by}
use Rattle.mb_reading.proofs.filling.Filling.take.Goals as goal

pub returns-then-is_some-clause-taken : goal.returns-then-is_some-clause-taken
returns-then-is_some-clause-taken c =
    let there = some_by c.args.self.now.refused (search rules) in
    takes_over c.args.table c.args.answer.now c.args.self.now (record { so_far = c.args.self.now.so_far; any = true; refused = c.args.self.now.refused }) there.0 there.1 refl

pub returns-in-Err-clause-taken : goal.returns-in-Err-clause-taken
returns-in-Err-clause-taken c =
    let none = none_by c.args.self.now.refused (search rules) in
    takes_odd c.args.table c.args.answer.now c.args.self.now (record { so_far = record { store = c.test_step.new.store; left_out = c.counted_answer-self.result }; any = true; refused = Some c.in-Err.error }) c.in-Err.error none refl (λ may. (let is = c.in_ok-step.ensures.fits in let odd = c.in-Err.ensures.odd may in cc))

pub returns-in_default-clause-taken : goal.returns-in_default-clause-taken
returns-in_default-clause-taken c =
    let none = none_by c.args.self.now.refused (search rules) in
    let took : told_of c.test_step.new.store ≡ taken c.args.table (told_of c.args.self.now.so_far.store) c.args.answer.now = search rules in
    let noted_it = noted_by c.args.table c.args.answer.now c.args.self.now.so_far (record { store = c.test_step.new.store; left_out = c.counted_answer-self.result }) c.in_ok-step.step took c.in_ok-step.ensures.step c.counted_answer-self.ensures in
    takes_row c.args.table c.args.answer.now c.args.self.now (record { so_far = record { store = c.test_step.new.store; left_out = c.counted_answer-self.result }; any = true; refused = c.args.self.now.refused }) none none noted_it
    (λ may. (let is = c.in_ok-step.ensures.fits in let fit = c.in_default.ensures.fits may in cc))
