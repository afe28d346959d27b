use Rattle.set_options.proofs.Common.{ap, Names, option_copied, text_at, ◌∙◌}
use Rattle.set_options.proofs.SetNameLemmas.{text_under}
use Rattle.set_options.proofs.set_names.SetNames.text.Goals as goal

pub returns : goal.returns
returns c =
    c.text_in.ensures
    ∙ (text_under c.self.inside.list.live c.self.inside.list.items.items c.self.invariant.0 c.args.name.now (option_copied c.get.result) c.get.ensures
    ∙ ap (λ (m : Names). text_at m c.args.name.now) c.self.view_is)
