use Rattle.tileset.proofs.RunLemmas.{archive_left, done_output, err_outcome, reported_causes, reported_medium, reported_output, text_moved}
use Rattle.tileset.proofs.Common.{Gains, GainsFront, refl, script_text, subst, sym}
use Rattle.tileset.proofs.PrintedLemmas.{unprinted}
use Rattle.tileset.specs.Outcomes.{of_convert}
use Rattle.tileset.specs.Printed.{Prints}
use Rattle.tileset.specs.Stands.{MediumStands}
use Rattle.tileset.proofs.StandsLemmas.{convert_failed, medium_ended, output_ended}
use Rattle.tileset.proofs.top_call.convert_script.Goals as goal

pub returns-in_err-write_report-clause-causes : goal.returns-in_err-write_report-clause-causes
returns-in_err-write_report-clause-causes g c =
    reported_causes (script_text c.args.script) c.as_slice-queries.result.now c.in_ok-report.report (g.M.Backend.told c.args.medium.now) (g.M.Backend.told c.convert_stores.new.medium) c.in_err-write_report.field-0.0 c.from_residual-in_err-write_report.result c.in_ok-report.ensures.causes c.in_ok-report.ensures.leaves
    c.in_err-write_report.ensures.causes c.from_residual-in_err-write_report.ensures.1

pub returns-in_err-write_report-clause-medium : goal.returns-in_err-write_report-clause-medium
returns-in_err-write_report-clause-medium g c =
    reported_medium c.args.command (script_text c.args.script) c.as_slice-queries.result.now c.in_ok-report.report (g.M.Backend.told c.args.medium.now) (g.M.Backend.told c.convert_stores.new.medium) (g.M.Backend.told c.write_report.new.medium) c.in_err-write_report.field-0.0 c.from_residual-in_err-write_report.result
    c.in_ok-report.ensures.causes.0 c.in_ok-report.ensures.leaves c.in_err-write_report.ensures.told c.in_err-write_report.ensures.causes c.from_residual-in_err-write_report.ensures.1

pub returns-in_err-write_report-clause-output : goal.returns-in_err-write_report-clause-output
returns-in_err-write_report-clause-output g c =
    let s = script_text c.args.script in
    let told = g.M.Backend.told c.convert_stores.new.medium in
    let next = g.M.Backend.told c.write_report.new.medium in
    let old = g.O.Sink.held c.args.output.now in
    let new = g.O.Sink.held c.write_report.new.output in
    reported_output c.args.command s c.as_slice-queries.result.now c.in_ok-report.report (g.M.Backend.told c.args.medium.now) told next old new c.in_err-write_report.field-0.0 c.from_residual-in_err-write_report.result c.in_ok-report.ensures.causes c.in_ok-report.ensures.leaves c.in_err-write_report.ensures.told
    c.in_err-write_report.ensures.causes c.from_residual-in_err-write_report.ensures.1 c.in_ok-report.ensures.aggregate
    (text_moved c.args.command (GainsFront old new) told next c.as_slice-queries.result.now s.queries c.in_ok-report.report.aggregate c.as_slice-queries.ensures.value c.in_err-write_report.ensures.told c.in_err-write_report.ensures.front)

pub returns-clause-medium : goal.returns-clause-medium
returns-clause-medium g c =
    archive_left (script_text c.args.script) c.as_slice-queries.result.now c.in_ok-report.report (g.M.Backend.told c.args.medium.now) (g.M.Backend.told c.convert_stores.new.medium) (g.M.Backend.told c.write_report.new.medium) c.in_ok-report.ensures.leaves c.in_ok-write_report.ensures.told

pub returns-clause-output : goal.returns-clause-output
returns-clause-output g c =
    let s = script_text c.args.script in
    let told = g.M.Backend.told c.convert_stores.new.medium in
    let next = g.M.Backend.told c.write_report.new.medium in
    let old = g.O.Sink.held c.args.output.now in
    let new = g.O.Sink.held c.write_report.new.output in
    done_output c.args.command s c.in_ok-report.report (g.M.Backend.told c.args.medium.now) next old new c.in_ok-report.ensures.aggregate
    (text_moved c.args.command (Gains old new) told next c.as_slice-queries.result.now s.queries c.in_ok-report.report.aggregate c.as_slice-queries.ensures.value c.in_ok-write_report.ensures.told c.in_ok-write_report.ensures.all)

pub returns-in_err-write_report-clause-printed : goal.returns-in_err-write_report-clause-printed
returns-in_err-write_report-clause-printed g c =
    unprinted c.args.command (script_text c.args.script) (g.M.Backend.told c.args.medium.now) (g.O.Sink.held c.args.output.now) (g.O.Sink.held c.write_report.new.output) (g.M.Backend.told c.convert_stores.new.medium) c.in_err-write_report.field-0.0 c.from_residual-in_err-write_report.result
    c.in_err-write_report.ensures.causes c.from_residual-in_err-write_report.ensures.1

pub returns-clause-printed : goal.returns-clause-printed
returns-clause-printed g c =
    (c.in_ok-report.report, c.in_ok-report.ensures.reported, subst (λ q. Prints c.args.command q c.in_ok-report.report (g.O.Sink.held c.args.output.now) (g.O.Sink.held c.write_report.new.output)) c.as_slice-queries.ensures.value c.in_ok-write_report.ensures.printed)

pub returns-in_err-report-clause-medium_still : goal.returns-in_err-report-clause-medium_still
returns-in_err-report-clause-medium_still g c =
    subst (MediumStands _ _) (sym (err_outcome c.from_residual.result (of_convert c.in_err-report.field-0.0) c.from_residual.ensures.1)) (convert_failed _ _ c.in_err-report.field-0.0 c.in_err-report.ensures.medium_still)

pub returns-in_err-write_report-clause-output_still : goal.returns-in_err-write_report-clause-output_still
returns-in_err-write_report-clause-output_still g c = output_ended _ _ _ c.in_err-write_report.field-0.0 c.from_residual-in_err-write_report.result refl c.in_err-write_report.ensures.output_still c.from_residual-in_err-write_report.ensures.1

pub returns-in_err-write_report-clause-medium_still : goal.returns-in_err-write_report-clause-medium_still
returns-in_err-write_report-clause-medium_still g c =
    medium_ended _ _ _ c.in_err-write_report.field-0.0 c.from_residual-in_err-write_report.result c.in_ok-report.ensures.medium_still c.in_err-write_report.ensures.medium_still c.from_residual-in_err-write_report.ensures.1
