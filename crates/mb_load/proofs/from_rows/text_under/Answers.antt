use Rattle.mb_load.proofs.Common.{ap, List, Option, option_and_then, sym, ℕ, ◌∙◌}
use Rattle.mb_lists.proofs.ReaderLemmas.{name_found, name_missing}
use Rattle.mb_load.proofs.from_rows.text_under.Goals as goal

pub returns-in-Some : goal.returns-in-Some
returns-in-Some c = c.text_of.ensures ∙ ap (λ (o : Option (Option (List ℕ))). option_and_then {U = List ℕ} (λ text. text) o) (sym (name_found c.args.names.now.live c.args.names.now.items.items c.requires c.args.name.now c.in-Some.entry.now (sym c.in-Some.ensures)))

pub returns-in-None : goal.returns-in-None
returns-in-None c = ap (λ (o : Option (Option (List ℕ))). option_and_then {U = List ℕ} (λ text. text) o) (sym (name_missing c.args.names.now.live c.args.names.now.items.items c.requires c.args.name.now (sym c.in-None.ensures)))
