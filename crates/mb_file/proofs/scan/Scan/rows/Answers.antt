use Rattle.std.proofs.Common.{ap, arith, Bool, drop, IfOk, subst, sym, take, [], ◌∙◌, ◌≡◌}
use Rattle.std.specs.Prelude.{⊤}
use Rattle.std.proofs.lemmas.List.{take_all}
use Rattle.mb_file.specs.Scan.{Reaches}
use Rattle.mb_file.specs.SetTable.{set_rows}
use Rattle.mb_file.proofs.NotedLemmas.{still_after}
use Rattle.mb_file.proofs.ScanLemmas.{notes_then, scans_then}
use Rattle.mb_file.proofs.scan.Scan.rows.Goals as goal

pub returns-then-not-branch-clause-stands : goal.returns-then-not-branch-clause-stands
returns-then-not-branch-clause-stands g c = λ trusted layout rows laid stored scan.
    let passed = c.in_ok-pass.ensures.stands trusted layout rows laid stored scan in
    let none = subst (λ (found : Bool). Reaches (set_rows c.args.table c.args.of.now.columns rows) c.args.from c.pass.new.self.position found) c.if-not-branch.true passed.1 in
    (passed.0, c.new.ensures.items ∙ sym (ap (take c.args.limit) none ∙ take_all c.args.limit [] (omega arith)))

pub returns-clause-stands : goal.returns-clause-stands
returns-clause-stands g c =
    scans_then c.args.source.now.pages c.pass.new.source.pages c.gather.new.source.pages c.args.of.now.root c.args.table c.args.of.now.columns c.pass.ensures.kept c.pass.ensures.pages
    c.args.self.now c.pass.new.self (λ all. c.pass.new.self.position ≡ c.args.from)
    (λ Stands all. IfOk c.gather.result (λ got. Stands c.gather.new.self × (got.items ≡ take c.args.limit (drop c.pass.new.self.position all))))
    (λ Stands all. IfOk c.gather.result (λ got. Stands c.gather.new.self × (got.items ≡ take c.args.limit (drop c.args.from all)))) c.gather.ensures.kept
    (λ trusted layout rows laid stored scan.
    let passed = c.in_ok-pass.ensures.stands trusted layout rows laid stored scan in
    (passed.0, subst (λ (found : Bool). Reaches (set_rows c.args.table c.args.of.now.columns rows) c.args.from c.pass.new.self.position found) c.if-not-branch.false passed.1))
    c.gather.ensures.stands
    (λ Stands all at. subst (λ n. IfOk c.gather.result (λ got. Stands c.gather.new.self × (got.items ≡ take c.args.limit (drop n all)))) at)

pub returns-clause-notes : goal.returns-clause-notes
returns-clause-notes g c =
    notes_then c.args.source.now.pages c.pass.new.source.pages c.gather.new.source.pages c.args.of.now.root c.args.table c.args.of.now.columns c.pass.ensures.kept c.pass.ensures.pages
    c.args.source.now.secret c.pass.new.source.secret c.pass.ensures.secret c.args.self.now c.pass.new.self c.gather.new.self (λ all. ⊤) c.gather.ensures.kept
    (λ trusted layout rows laid stored scan. ((c.in_ok-pass.ensures.stands trusted layout rows laid stored scan).0, tt)) c.pass.ensures.notes c.gather.ensures.notes

pub returns-clause-still : goal.returns-clause-still
returns-clause-still g c =
    still_after c.args.self.now c.pass.new.self c.gather.new.self c.pass.ensures.still c.gather.ensures.still
