use Rattle.std.proofs.Common.{ap, sym, ◌∙◌}
use Rattle.sqlite_value.specs.Value.{owned}
use Rattle.std.specs.Prelude.{option_map}
use Rattle.mb_file.proofs.CatalogLemmas.{value_shown}
use Rattle.mb_file.proofs.catalog.value_at.Goals as goal

pub returns-in-None : goal.returns-in-None
returns-in-None c = value_shown _ c.args.at _ (sym (ap (λ o. option_map owned o) c.in-None.is) ∙ c.field.ensures)
