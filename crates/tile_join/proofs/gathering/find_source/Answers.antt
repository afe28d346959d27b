use Rattle.tile_join.proofs.FindLemmas.{told_found, told_uncollected, told_unopened}
use Rattle.tile_join.proofs.gathering.find_source.Goals as goal

pub returns-in-Err-clause-refused : goal.returns-in-Err-clause-refused
returns-in-Err-clause-refused g c =
    told_unopened c.args.max_tiles c.args.number (g.B.Backend.faults c.args.source.now) (g.B.Backend.faults c.open.new.backend) (g.B.Backend.told c.args.source.now) c.in-Err.error c.of_reader.result c.of_reader.ensures c.in-Err.ensures.causes c.in-Err.ensures.answer

pub returns-in-Ok-collect_intervals-clause-found : goal.returns-in-Ok-collect_intervals-clause-found
returns-in-Ok-collect_intervals-clause-found g c =
    told_found c.args.max_tiles c.args.number (g.B.Backend.told c.args.source.now) (g.B.Backend.told c.open.new.backend) c.args.ids.now c.in-Ok.reader c.in-Ok-collect_intervals.entries.items c.open.ensures.kept.told c.requires.whole c.in-Ok.ensures.answer c.in-Ok-collect_intervals.ensures.collected

pub returns-in-Err-collect_intervals-clause-refused : goal.returns-in-Err-collect_intervals-clause-refused
returns-in-Err-collect_intervals-clause-refused g c =
    told_uncollected c.args.max_tiles c.args.number (g.B.Backend.faults c.open.new.backend) (g.B.Backend.faults c.collect_intervals.new.source) (g.B.Backend.told c.args.source.now) (g.B.Backend.told c.open.new.backend) c.args.ids.now c.in-Ok.reader c.in-Err-collect_intervals.error c.of_collecting.result
    c.of_collecting.ensures c.open.ensures.kept.told c.requires.whole c.in-Err-collect_intervals.ensures.causes c.in-Ok.ensures.answer c.in-Err-collect_intervals.ensures.refused
