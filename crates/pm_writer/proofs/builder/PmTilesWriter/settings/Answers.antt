use Rattle.pm_writer.proofs.Common.{options_with, OptionsFit, rules, subst, sym, ◌≡◌}
use Rattle.pm_writer.proofs.builder.PmTilesWriter.settings.Goals as goal

pub returns-clause-fit : goal.returns-clause-fit
returns-clause-fit c =
    let is : c.args.self.now ≡ options_with c.self.inside.settings c.args.self.now.metadata = search rules in
    subst OptionsFit (sym is) (c.fit.ensures c.args.self.now.metadata)
