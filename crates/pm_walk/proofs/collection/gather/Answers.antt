use Rattle.pm_walk.proofs.Common.{Err, header_of, Ok, root_of}
use Rattle.pm_walk.proofs.GatheredLemmas.{root_gathered, root_reads, root_refused, root_too_many}
use Rattle.pm_walk.proofs.collection.gather.Goals as goal

pub returns-in-Err-clause-refused : goal.returns-in-Err-clause-refused
returns-in-Err-clause-refused g c = root_refused g.T.TakesEntries.holds c.args.extent (g.B.Backend.told c.args.backend.now) (header_of c.args.state.now) c.args.intervals.now c.root-root.result.now (root_of c.args.state.now) c.args.max_tiles c.args.taker c.walk.new.collecting.taker c.walk.new.collecting.room (g.B.Backend.reads c.args.backend.now) (g.B.Backend.reads c.walk.new.backend) c.in-Err.error c.root-root.ensures c.requires.begun c.in-Err.ensures.walks

pub returns-in-Err-clause-reads : goal.returns-in-Err-clause-reads
returns-in-Err-clause-reads g c = root_reads g.T.TakesEntries.holds c.args.extent (g.B.Backend.told c.args.backend.now) (header_of c.args.state.now) c.args.intervals.now c.root-root.result.now (root_of c.args.state.now) c.args.max_tiles c.args.taker c.walk.new.collecting.taker c.walk.new.collecting.room (g.B.Backend.reads c.args.backend.now) (g.B.Backend.reads c.walk.new.backend) (Err c.in-Err.error) c.root-root.ensures c.requires.begun c.in-Err.ensures.walks

pub returns-in-Ok-all_of-clause-gathered : goal.returns-in-Ok-all_of-clause-gathered
returns-in-Ok-all_of-clause-gathered g c = root_gathered g.T.TakesEntries.holds c.args.extent (g.B.Backend.told c.args.backend.now) (header_of c.args.state.now) c.args.intervals.now c.root-root.result.now (root_of c.args.state.now) c.args.max_tiles c.args.taker c.walk.new.collecting.taker c.in-Ok-all_of.taker c.walk.new.collecting.room (g.B.Backend.reads c.args.backend.now) (g.B.Backend.reads c.walk.new.backend) c.root-root.ensures c.requires.begun c.in-Ok.ensures.walks c.in-Ok-all_of.ensures.ok

pub returns-in-Ok-all_of-clause-reads : goal.returns-in-Ok-all_of-clause-reads
returns-in-Ok-all_of-clause-reads g c = root_reads g.T.TakesEntries.holds c.args.extent (g.B.Backend.told c.args.backend.now) (header_of c.args.state.now) c.args.intervals.now c.root-root.result.now (root_of c.args.state.now) c.args.max_tiles c.args.taker c.walk.new.collecting.taker c.walk.new.collecting.room (g.B.Backend.reads c.args.backend.now) (g.B.Backend.reads c.walk.new.backend) (Ok tt) c.root-root.ensures c.requires.begun c.in-Ok.ensures.walks

pub returns-in-Err-all_of-clause-refused : goal.returns-in-Err-all_of-clause-refused
returns-in-Err-all_of-clause-refused g c = root_too_many g.T.TakesEntries.holds c.args.extent (g.B.Backend.told c.args.backend.now) (header_of c.args.state.now) c.args.intervals.now c.root-root.result.now (root_of c.args.state.now) c.args.max_tiles c.args.taker c.walk.new.collecting.taker c.walk.new.collecting.room (g.B.Backend.reads c.args.backend.now) (g.B.Backend.reads c.walk.new.backend) c.in-Err-all_of.error c.root-root.ensures c.requires.begun c.in-Ok.ensures.walks c.in-Err-all_of.ensures.err

pub returns-in-Err-all_of-clause-reads : goal.returns-in-Err-all_of-clause-reads
returns-in-Err-all_of-clause-reads g c = root_reads g.T.TakesEntries.holds c.args.extent (g.B.Backend.told c.args.backend.now) (header_of c.args.state.now) c.args.intervals.now c.root-root.result.now (root_of c.args.state.now) c.args.max_tiles c.args.taker c.walk.new.collecting.taker c.walk.new.collecting.room (g.B.Backend.reads c.args.backend.now) (g.B.Backend.reads c.walk.new.backend) (Ok tt) c.root-root.ensures c.requires.begun c.in-Ok.ensures.walks
