use Rattle.tileset_script.proofs.Common.{arith, drafted, EndsAs, length, rules, subst, sym, ◌<◌}
use Rattle.std.proofs.lemmas.Bool.{eqb-false, eqb-true}
use Rattle.tileset_script.proofs.ScriptLemmas.{ends_bad, ends_bare, ends_last}
use Rattle.tileset_script.proofs.script.reading.end.Goals as goal

pub returns-then-is_empty-clause-ends : goal.returns-then-is_empty-clause-ends
returns-then-is_empty-clause-ends c = λ below none. subst (λ due. EndsAs due c.finish.result) (sym (ends_bare c.args.number (drafted c.args.draft) c.args.line.now (eqb-true (length c.args.line.now) 0 (sym c.if-is_empty.ensures)))) c.finish.ensures.ends

pub returns-then-not-branch-clause-ends : goal.returns-then-not-branch-clause-ends
returns-then-not-branch-clause-ends c =
    let some : 0 < length c.args.line.now = let apart = eqb-false (length c.args.line.now) 0 (sym c.if-is_empty.ensures) in omega (arith, apart) in
    λ below none. ends_bad c.args.number (drafted c.args.draft) (drafted c.take_line.new.draft) c.args.line.now some none (search rules)

pub returns-clause-ends : goal.returns-clause-ends
returns-clause-ends c =
    let some : 0 < length c.args.line.now = let apart = eqb-false (length c.args.line.now) 0 (sym c.if-is_empty.ensures) in omega (arith, apart) in
    λ below none. subst (λ due. EndsAs due c.finish-2.result)
    (sym (ends_last c.args.number c.saturating_add.result (drafted c.args.draft) (drafted c.take_line.new.draft) c.args.line.now some none (search rules) (omega (arith, c.saturating_add.ensures, below)))) c.finish-2.ensures.ends
