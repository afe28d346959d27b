use Rattle.mb_lists.proofs.ReaderLemmas.{names_count}
use Rattle.set_options.proofs.Common.{ap, len, Names, sym, ◌∙◌}
use Rattle.set_options.proofs.set_names.SetNamesHasNames.name_count.Goals as goal

pub returns : goal.returns
returns c = sym (names_count c.self.inside.list.live c.self.inside.list.items.items c.self.invariant.0) ∙ ap (λ (m : Names). len m) c.self.view_is
