use Rattle.tileset.proofs.Common.{outcome_of, refl}
use Rattle.tileset.proofs.ReportLemmas.{report_all, report_front, report_further}
use Rattle.tileset.proofs.PrintedLemmas.{gains_then}
use Rattle.tileset.proofs.StandsLemmas.{medium_ended, medium_stands, output_ended}
use Rattle.tileset.proofs.report.write_hex_report.Goals as goal

pub returns-in_err-write_summary-clause-front : goal.returns-in_err-write_summary-clause-front
returns-in_err-write_summary-clause-front g c = report_front _ _ _ c.args.queries.now c.args.report.now c.requires.reported c.in_err-write_summary.ensures.front

pub returns-clause-all : goal.returns-clause-all
returns-clause-all g c = report_all _ _ _ _ c.args.queries.now c.args.report.now c.requires.reported c.in_ok-write_summary.ensures.all c.in_ok-write_dump.ensures.all

pub returns-in_err-write_dump-clause-front : goal.returns-in_err-write_dump-clause-front
returns-in_err-write_dump-clause-front g c = report_further _ _ _ _ c.args.queries.now c.args.report.now c.requires.reported c.in_ok-write_summary.ensures.all c.in_err-write_dump.ensures.front

pub returns-clause-front : goal.returns-clause-front
returns-clause-front g c = report_further _ _ _ _ c.args.queries.now c.args.report.now c.requires.reported c.in_ok-write_summary.ensures.all c.in_ok-write_dump.ensures.front

pub returns-clause-printed : goal.returns-clause-printed
returns-clause-printed g c = gains_then _ _ _ _ c.in_ok-write_summary.ensures.all c.in_ok-write_dump.ensures.grows

pub returns-in_err-write_summary-clause-output_still : goal.returns-in_err-write_summary-clause-output_still
returns-in_err-write_summary-clause-output_still g c = output_ended _ _ _ c.in_err-write_summary.field-0.0 c.from_residual.result refl c.in_err-write_summary.ensures.output_still c.from_residual.ensures.1

pub returns-in_err-write_summary-clause-medium_still : goal.returns-in_err-write_summary-clause-medium_still
returns-in_err-write_summary-clause-medium_still g c = medium_stands _ _ (outcome_of c.from_residual.result) refl

pub returns-in_err-write_dump-clause-output_still : goal.returns-in_err-write_dump-clause-output_still
returns-in_err-write_dump-clause-output_still g c =
    output_ended _ _ _ c.in_err-write_dump.field-0.0 c.from_residual-in_err-write_dump.result c.in_ok-write_summary.ensures.output_still c.in_err-write_dump.ensures.output_still c.from_residual-in_err-write_dump.ensures.1

pub returns-in_err-write_dump-clause-medium_still : goal.returns-in_err-write_dump-clause-medium_still
returns-in_err-write_dump-clause-medium_still g c = medium_ended _ _ _ c.in_err-write_dump.field-0.0 c.from_residual-in_err-write_dump.result refl c.in_err-write_dump.ensures.medium_still c.from_residual-in_err-write_dump.ensures.1
