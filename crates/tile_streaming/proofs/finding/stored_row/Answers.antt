use Rattle.tile_streaming.proofs.Common.{Cell, List, Option}
use Rattle.tile_streaming.proofs.StepLemmas.{same_error}
use Rattle.tile_streaming.proofs.StandsLemmas.{base_found}
use Rattle.tile_streaming.specs.Stands.{BaseStands}
use Rattle.tile_streaming.proofs.finding.stored_row.Goals as goal

pub returns-in_err-row-clause-still : goal.returns-in_err-row-clause-still
returns-in_err-row-clause-still g c = same_error c.in_err-row.field-0.0 _ (BaseStands (g.S.TileStore.faults c.args.store.now) (g.S.TileStore.faults c.find_row.new.store)) (base_found (Option (List Cell)) _ _ c.in_err-row.field-0.0 c.in_err-row.ensures.causes) c.from_residual.ensures.1
