use Rattle.pm_writer.proofs.MediumPieces.{wrote_by}
use Rattle.pm_writer.proofs.pieces.put.Goals as goal

pub returns-in-Ok-clause-part : goal.returns-in-Ok-clause-part
returns-in-Ok-clause-part g c = wrote_by c.args.offset c.args.piece.now _ _ _ c.in-Ok.ensures.leaves
