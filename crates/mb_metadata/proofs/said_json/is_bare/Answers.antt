use Rattle.mb_metadata.proofs.Common.{ap, is_bare, sym, view, view-Object, ◌∙◌}
use Rattle.mb_metadata.proofs.BareLemmas.{bare}
use Rattle.mb_metadata.proofs.said_json.is_bare.Goals as goal

pub returns-in-Object : goal.returns-in-Object
returns-in-Object c = bare c.in-Object.members.entries c.is_empty.result c.is_empty.ensures ∙ ap is_bare (sym (view-Object c.in-Object.members) ∙ (ap view (sym c.in-Object.is) ∙ c.as_value.ensures))
