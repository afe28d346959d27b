use Rattle.mb_loaded.proofs.Common.{ap, Metadata, refl, Text, TextId, [], ◌∷◌}
use Rattle.mb_loaded.proofs.ChangeSteps.{keyed_row}
use Rattle.mb_loaded.proofs.changes.add_name.Goals as goal

pub put-requires-clause-own : goal.put-requires-clause-own
put-requires-clause-own c = keyed_row Metadata (TextId c.in_ok-try_clone-in-Put.field-0) (Text c.args.entry.now.name) c.args.entry.now.value c.in_ok-row-in-Put.row refl (ap (λ t. Text t ∷ []) c.in_ok-try_clone-in-Put.ensures) c.in_ok-row-in-Put.ensures
