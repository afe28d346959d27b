use Rattle.tileset.proofs.Common.{outcome_of, refl}
use Rattle.tileset.proofs.ReportLemmas.{bulk_front, file_all, file_front, lines_end, no_medium_fault}
use Rattle.tileset.proofs.PrintedLemmas.{printed_bulk, printed_file, printed_hex}
use Rattle.tileset.proofs.StandsLemmas.{medium_stands}
use Rattle.tileset.proofs.report.write_report.Goals as goal

pub returns-in-ConvertFile-clause-all : goal.returns-in-ConvertFile-clause-all
returns-in-ConvertFile-clause-all g c = file_all _ _ _ _ c.args.queries.now c.args.report.now c.write_summary.result c.in-ConvertFile.is c.requires.reported c.write_summary.ensures.all

pub returns-in-ConvertFile-clause-front : goal.returns-in-ConvertFile-clause-front
returns-in-ConvertFile-clause-front g c = file_front _ _ _ _ c.args.queries.now c.args.report.now c.in-ConvertFile.is c.requires.reported c.write_summary.ensures.front

pub returns-in-ConvertFile-clause-causes : goal.returns-in-ConvertFile-clause-causes
returns-in-ConvertFile-clause-causes g c = lines_end _ _ c.write_summary.ensures.causes

pub returns-in-ConvertFile-clause-medium_fault : goal.returns-in-ConvertFile-clause-medium_fault
returns-in-ConvertFile-clause-medium_fault g c = λ is. absurd (no_medium_fault _ c.write_summary.ensures.causes is)

pub returns-in-Bulk-clause-front : goal.returns-in-Bulk-clause-front
returns-in-Bulk-clause-front g c = bulk_front _ c.in-Bulk.tiles c.in-Bulk.repeat c.in-Bulk.leaf_entries c.is_some.result _ _ _ c.args.queries.now c.args.report.now c.in-Bulk.is c.is_some.ensures c.requires.reported c.write_places.ensures.front

pub returns-in-Bulk-clause-causes : goal.returns-in-Bulk-clause-causes
returns-in-Bulk-clause-causes g c = lines_end _ _ c.write_places.ensures.causes

pub returns-in-Bulk-clause-medium_fault : goal.returns-in-Bulk-clause-medium_fault
returns-in-Bulk-clause-medium_fault g c = λ is. absurd (no_medium_fault _ c.write_places.ensures.causes is)

pub returns-in-ConvertHex-clause-printed : goal.returns-in-ConvertHex-clause-printed
returns-in-ConvertHex-clause-printed g c = printed_hex _ c.args.queries.now c.args.report.now _ _ c.write_hex_report.result c.in-ConvertHex.is c.write_hex_report.ensures.printed

pub returns-in-ConvertFile-clause-printed : goal.returns-in-ConvertFile-clause-printed
returns-in-ConvertFile-clause-printed g c = printed_file _ c.args.queries.now c.args.report.now _ _ c.write_summary.result c.in-ConvertFile.is c.write_summary.ensures.all

pub returns-in-Bulk-clause-printed : goal.returns-in-Bulk-clause-printed
returns-in-Bulk-clause-printed g c = printed_bulk _ c.in-Bulk.tiles c.in-Bulk.repeat c.in-Bulk.leaf_entries c.is_some.result c.args.queries.now c.args.report.now _ _ c.write_places.result c.in-Bulk.is c.is_some.ensures c.write_places.ensures.all

pub returns-in-ConvertFile-clause-medium_still : goal.returns-in-ConvertFile-clause-medium_still
returns-in-ConvertFile-clause-medium_still g c = medium_stands _ _ (outcome_of c.write_summary.result) refl

pub returns-in-Bulk-clause-medium_still : goal.returns-in-Bulk-clause-medium_still
returns-in-Bulk-clause-medium_still g c = medium_stands _ _ (outcome_of c.write_places.result) refl
