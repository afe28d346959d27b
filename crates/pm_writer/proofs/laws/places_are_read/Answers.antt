use Rattle.pm_writer.proofs.PlacesRead.{places_are}
use Rattle.pm_writer.proofs.laws.places_are_read.Goals as goal

pub returns : goal.returns
returns c = places_are
