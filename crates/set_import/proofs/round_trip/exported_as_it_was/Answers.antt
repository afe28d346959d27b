use Rattle.set_import.proofs.Common.{sym, ◌∙◌}
use Rattle.set_import.proofs.RoundTripLemmas.{canonical}
use Rattle.set_import.proofs.round_trip.exported_as_it_was.Goals as goal

pub returns-clause-map : goal.returns-clause-map
returns-clause-map c = canonical

pub returns-clause-same : goal.returns-clause-same
returns-clause-same c = λ b d s tiles o by_id none has is map own. canonical b d s tiles o by_id none has is map ∙ sym own
