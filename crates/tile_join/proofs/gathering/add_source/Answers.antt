use Rattle.tile_join.proofs.GatherLemmas.{laid_ordered, told_added}
use Rattle.tile_join.proofs.Common.{arith, length}
use Rattle.tile_join.proofs.gathering.add_source.Goals as goal

pub returns-in-Ok-push-clause-added : goal.returns-in-Ok-push-clause-added
returns-in-Ok-push-clause-added g c =
    told_added c.args.max_tiles (length c.args.readers.now.items) c.len-number.result (g.B.Backend.told c.args.source.now) c.args.readers.now.items c.push.new.self.items c.args.pieces.now c.in_ok-laid.laid.items c.in-Ok.found.0 c.in-Ok.found.1.items c.deref.result.now
    (omega (arith, c.len-number.ensures)) c.in-Ok-push.ensures.items c.deref.ensures.value c.in_ok-laid.ensures c.in-Ok.ensures.found

pub returns-in-Ok-push-clause-ordered : goal.returns-in-Ok-push-clause-ordered
returns-in-Ok-push-clause-ordered g c =
    laid_ordered (length c.args.readers.now.items) c.len-number.result c.in-Ok.found.1.items c.deref.result.now c.args.pieces.now c.in_ok-laid.laid.items (omega (arith, c.len-number.ensures)) c.deref.ensures.value c.in_ok-laid.ensures c.in-Ok.ensures.ordered c.requires.pieces
