-- what holds after so many coordinates
use Rattle.pm_reader.specs.MapCaches.{held_in_map}
use Rattle.tile_bridge.proofs.ReadingBackLemmas.{SoFar}
use Rattle.tile_bridge.proofs.reading_back.read_answers.Given as goal

abbrev pub invariant-loop-coord : goal.invariant-loop-coord
invariant-loop-coord g l = SoFar g.B.Backend.told g.B.Backend.versions g.B.Backend.reads g.B.Backend.faults g.B.Backend.steady l.state l.fn.backend l.backend (held_in_map l.cache) l.coords l.coord-index l.tiles.items
