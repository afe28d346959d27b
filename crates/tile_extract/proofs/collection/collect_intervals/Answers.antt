use Rattle.tile_extract.proofs.Common.{AllLieIn, AreApart, CollectCauses, header_of, root_of, subst, sym}
use Rattle.tile_extract.proofs.ExtractLemmas.{told_collected, told_refused, walk_causes}
use Rattle.tile_extract.proofs.collection.collect_intervals.Goals as goal

pub returns-in-Ok-clause-collected : goal.returns-in-Ok-clause-collected
returns-in-Ok-clause-collected g c =
    told_collected (g.B.Backend.told c.args.source.now) (header_of c.args.state.now) c.args.intervals.now c.as_slice.result.now (root_of c.args.state.now) c.args.max_tiles c.in-Ok.parts.items
    c.as_slice.ensures.value c.in-Ok.ensures.gathered

pub returns-in-Err-clause-refused : goal.returns-in-Err-clause-refused
returns-in-Err-clause-refused g c =
    told_refused (g.B.Backend.told c.args.source.now) (header_of c.args.state.now) c.args.intervals.now c.as_slice.result.now (root_of c.args.state.now) c.args.max_tiles (g.B.Backend.faults c.args.source.now) (g.B.Backend.faults c.collect.new.backend) c.in-Err.error c.of_walk.result
    c.as_slice.ensures.value c.of_walk.ensures c.in-Err.ensures.causes c.in-Err.ensures.refused

pub returns-in-Ok-clause-ordered : goal.returns-in-Ok-clause-ordered
returns-in-Ok-clause-ordered g c = c.in-Ok.ensures.ordered (subst (AreApart 0) (sym c.as_slice.ensures.value) c.as_slice.ensures.apart)

pub returns-in-Ok-clause-within : goal.returns-in-Ok-clause-within
returns-in-Ok-clause-within g c = subst (λ l. AllLieIn l c.in-Ok.parts.items) c.as_slice.ensures.value c.in-Ok.ensures.within

pub returns-in-Err-clause-causes : goal.returns-in-Err-clause-causes
returns-in-Err-clause-causes g c =
    subst (CollectCauses c.args.max_tiles (g.B.Backend.faults c.args.source.now) (g.B.Backend.faults c.collect.new.backend)) (sym c.of_walk.ensures)
    (walk_causes c.args.max_tiles (g.B.Backend.faults c.args.source.now) (g.B.Backend.faults c.collect.new.backend) c.in-Err.error c.in-Err.ensures.causes)
