use Rattle.set_import.proofs.RoundTripLemmas.{exported}
use Rattle.set_import.proofs.round_trip.imported_and_exported.Goals as goal

pub returns : goal.returns
returns c = exported
