use Rattle.tile_bridge.proofs.StandsLemmas.{medium_handed}
use Rattle.tile_bridge.specs.declared.error.ConvertError.TheVariants.{MediumFault}
use Rattle.tile_streaming.proofs.streaming.test_medium.Goals as goal

pub returns-in_err-length-clause-still : goal.returns-in_err-length-clause-still
returns-in_err-length-clause-still g c = medium_handed _ _ MediumFault c.from_residual.result tt c.from_residual.ensures.1
