use Rattle.std.proofs.Common.{rules, sym, ◌∙◌, ◌≡◌}
use Rattle.mb_file.specs.Course.{has_key}
use Rattle.mb_file.proofs.course.Course.anew.Goals as goal

pub returns-clause-among : goal.returns-clause-among
returns-clause-among c = λ rowids.
    let kind : has_key c.new.result ≡ has_key c.args.self.now = search rules in
    c.new.ensures.among (sym c.new.ensures.kind ∙ kind ∙ rowids)

pub returns-clause-left : goal.returns-clause-left
returns-clause-left c = λ rowids.
    let kind : has_key c.new.result ≡ has_key c.args.self.now = search rules in
    c.new.ensures.left (sym c.new.ensures.kind ∙ kind ∙ rowids)
