use Rattle.tileset.proofs.Common.{refl}
use Rattle.tileset.specs.Outcomes.{of_read}
use Rattle.tileset.proofs.StandsLemmas.{medium_ended, read_failed}
use Rattle.tileset.proofs.dump.write_piece.Goals as goal

pub returns-in_err-response-clause-medium_still : goal.returns-in_err-response-clause-medium_still
returns-in_err-response-clause-medium_still g c = medium_ended _ _ _ (of_read c.in_err-response.field-0.0) c.from_residual.result refl (read_failed _ _ c.in_err-response.field-0.0 c.in_err-response.ensures.still) c.from_residual.ensures.1
