use Rattle.mb_load.proofs.DescribedLemmas.{all_refused, indexes_found, layouts_found, never_fault}
use Rattle.tile_streaming.proofs.Common.{rules, sym, ◌∙◌}
use Rattle.tile_streaming.proofs.described.layout_in.Goals as goal

pub returns-clause-layout : goal.returns-clause-layout
returns-clause-layout c = layouts_found c.args.tables.now c.detect_type-detected.result c.detect_type-detected.ensures

pub returns-clause-index : goal.returns-clause-index
returns-clause-index c = indexes_found c.args.tables.now c.detect_type-detected.result c.detect_type-detected.ensures

pub returns-clause-refused : goal.returns-clause-refused
returns-clause-refused c = all_refused c.args.tables.now c.detect_type-detected.result c.detect_type-detected.ensures (sym c.has_metadata.ensures ∙ search rules)

pub returns-clause-unfaulted : goal.returns-clause-unfaulted
returns-clause-unfaulted c = never_fault c.args.tables.now c.detect_type-detected.result c.detect_type-detected.ensures
