use Rattle.tile_join.proofs.Common.{arith, IfSome, InOrder, IsAdded, gathered_of, length, subst, sym, ◌+◌}
use Rattle.tile_join.proofs.GatherLemmas.{gather_causes, gather_count, gather_more, gather_read, gather_refused, gather_stands, gathered_all, gathered_none, no_more_reads}
use Rattle.tile_join.proofs.SourceLemmas.{as_many}
use Rattle.tile_join.proofs.gathering.gather.Goals as goal

pub loop-index-init : goal.loop-index-init
loop-index-init g c =
    gathered_none g.B.Backend.told g.B.Backend.versions g.B.Backend.faults g.B.Backend.reads g.B.Backend.steady c.args.max_tiles c.args.sources.now.items c.new-readers.result.items c.new-pieces.result.items c.new-readers.ensures.items c.new-pieces.ensures.items

pub add_source-requires : goal.add_source-requires
add_source-requires g c = record {
  whole = c.requires.whole;
  pieces = subst (InOrder (length c.loop-index.readers.items) 0) (sym c.deref.ensures.value) (subst (λ k. InOrder k 0 c.loop-index.pieces.items) (sym c.loop-index.invariant.many) c.loop-index.invariant.ordered);
}

pub loop-index-preserved : goal.loop-index-preserved
loop-index-preserved g c =
    gather_more g.B.Backend.told g.B.Backend.versions g.B.Backend.faults g.B.Backend.reads g.B.Backend.steady c.args.max_tiles c.args.sources.now.items c.loop-index.sources.items c.loop-index.index c.loop-index.readers.items c.loop-index.pieces.items c.loop-index.invariant
    c.index_mut.result.now c.add_source.new.source (omega (arith, c.loop-index-test.true, c.len-index-end.ensures, as_many g.B.Backend.told c.args.sources.now.items c.loop-index.sources.items c.loop-index.invariant.read.told)) c.index_mut.ensures.value c.add_source.ensures.kept
    c.add_source.new.readers.items c.in-Ok.laid.items c.in-Ok.ensures.still
    (subst (λ l. IfSome (g.B.Backend.told c.index_mut.result.now) (λ b. IsAdded c.args.max_tiles (length c.loop-index.readers.items) b (gathered_of c.loop-index.readers.items l) (gathered_of c.add_source.new.readers.items c.in-Ok.laid.items))) c.deref.ensures.value c.in-Ok.ensures.added)
    c.in-Ok.ensures.reads c.in-Ok.ensures.all c.in-Ok.ensures.ordered

pub returns-in-Err-clause-refused : goal.returns-in-Err-clause-refused
returns-in-Err-clause-refused g c =
    gather_refused g.B.Backend.told g.B.Backend.versions g.B.Backend.faults g.B.Backend.reads g.B.Backend.steady c.args.max_tiles c.args.sources.now.items c.loop-index.sources.items c.loop-index.index c.loop-index.readers.items c.loop-index.pieces.items c.loop-index.invariant
    c.index_mut.result.now c.add_source.new.source (omega (arith, c.loop-index-test.true, c.len-index-end.ensures, as_many g.B.Backend.told c.args.sources.now.items c.loop-index.sources.items c.loop-index.invariant.read.told)) c.index_mut.ensures.value c.add_source.ensures.kept c.in-Err.error c.in-Err.ensures.refused

pub returns-in-Err-clause-causes : goal.returns-in-Err-clause-causes
returns-in-Err-clause-causes g c =
    gather_causes g.B.Backend.told g.B.Backend.versions g.B.Backend.faults g.B.Backend.reads g.B.Backend.steady c.args.max_tiles c.args.sources.now.items c.loop-index.sources.items c.loop-index.index c.loop-index.readers.items c.loop-index.pieces.items c.loop-index.invariant
    c.index_mut.result.now c.add_source.new.source (omega (arith, c.loop-index-test.true, c.len-index-end.ensures, as_many g.B.Backend.told c.args.sources.now.items c.loop-index.sources.items c.loop-index.invariant.read.told)) c.index_mut.ensures.value c.add_source.ensures.kept c.in-Err.error c.in-Err.ensures.causes

pub returns-in-Err-clause-still : goal.returns-in-Err-clause-still
returns-in-Err-clause-still g c =
    gather_stands g.B.Backend.told g.B.Backend.versions g.B.Backend.faults g.B.Backend.reads g.B.Backend.steady c.args.max_tiles c.args.sources.now.items c.loop-index.sources.items c.loop-index.index c.loop-index.readers.items c.loop-index.pieces.items c.loop-index.invariant
    c.index_mut.result.now c.add_source.new.source (omega (arith, c.loop-index-test.true, c.len-index-end.ensures, as_many g.B.Backend.told c.args.sources.now.items c.loop-index.sources.items c.loop-index.invariant.read.told)) c.index_mut.ensures.value c.add_source.ensures.kept c.in-Err.error c.in-Err.ensures.causes c.in-Err.ensures.still

pub returns-in-Err-clause-kept : goal.returns-in-Err-clause-kept
returns-in-Err-clause-kept g c =
    gather_read g.B.Backend.told g.B.Backend.versions g.B.Backend.faults g.B.Backend.reads g.B.Backend.steady c.args.max_tiles c.args.sources.now.items c.loop-index.sources.items c.loop-index.index c.loop-index.readers.items c.loop-index.pieces.items c.loop-index.invariant
    c.index_mut.result.now c.add_source.new.source (omega (arith, c.loop-index-test.true, c.len-index-end.ensures, as_many g.B.Backend.told c.args.sources.now.items c.loop-index.sources.items c.loop-index.invariant.read.told)) c.index_mut.ensures.value c.add_source.ensures.kept

pub returns-in-Err-clause-reads : goal.returns-in-Err-clause-reads
returns-in-Err-clause-reads g c =
    no_more_reads g.B.Backend.told g.B.Backend.reads c.args.sources.now.items _ (c.loop-index.index + 1)
    (gather_count g.B.Backend.told g.B.Backend.versions g.B.Backend.faults g.B.Backend.reads g.B.Backend.steady c.args.max_tiles c.args.sources.now.items c.loop-index.sources.items c.loop-index.index c.loop-index.readers.items c.loop-index.pieces.items c.loop-index.invariant
    c.index_mut.result.now c.add_source.new.source (omega (arith, c.loop-index-test.true, c.len-index-end.ensures, as_many g.B.Backend.told c.args.sources.now.items c.loop-index.sources.items c.loop-index.invariant.read.told)) c.index_mut.ensures.value c.add_source.ensures.kept c.in-Err.ensures.reads)

pub returns-clause-gathered : goal.returns-clause-gathered
returns-clause-gathered g c =
    gathered_all g.B.Backend.told g.B.Backend.versions g.B.Backend.faults g.B.Backend.reads g.B.Backend.steady c.args.max_tiles c.args.sources.now.items c.loop-index.sources.items c.loop-index.index c.loop-index.readers.items c.loop-index.pieces.items c.loop-index.invariant (omega (arith, c.loop-index-test.false, c.len-index-end.ensures, as_many g.B.Backend.told c.args.sources.now.items c.loop-index.sources.items c.loop-index.invariant.read.told))

pub returns-clause-reads : goal.returns-clause-reads
returns-clause-reads g c = no_more_reads g.B.Backend.told g.B.Backend.reads c.args.sources.now.items c.loop-index.sources.items c.loop-index.index c.loop-index.invariant.count
