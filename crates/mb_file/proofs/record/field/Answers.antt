use Rattle.std.proofs.Common.{ap, ◌∙◌}
use Rattle.std.specs.Prelude.{slice_get}
use Rattle.std.proofs.lemmas.Iterator.Consumers.{nth_from_yields_List}
use Rattle.mb_file.proofs.RecordLemmas.{fields_yield}
use Rattle.mb_file.proofs.record.field.Goals as goal

pub returns : goal.returns
returns c = nth_from_yields_List _ _ _ c.nth.ensures.ran (fields_yield _) ∙ ap (λ row. slice_get row c.args.at) c.new.ensures
