use Rattle.tile_serve.proofs.Common.{opened_as, outcome_of, reads_then, refl, tiles_of}
use Rattle.tile_serve.proofs.LinesLemmas.{outcome_is, unmodified_again}
use Rattle.tile_serve.proofs.OpenedLemmas.{begun_by, lines_texts, lines_write}
use Rattle.tile_serve.proofs.RunLemmas.{lines_cause, lines_loud, lines_open, lines_read, unopened}
use Rattle.tile_serve.proofs.top_call.serve_requests.Goals as goal

pub returns-in_err-state-clause-writes : goal.returns-in_err-state-clause-writes
returns-in_err-state-clause-writes g c = (unopened (g.B.Backend.told c.args.source.now) _ _ c.in_err-state.field-0.0 (outcome_of c.from_residual.result) (outcome_is c.from_residual.result _ c.from_residual.ensures.1) c.in_err-state.ensures.refused c.in_err-state.ensures.causes).writes c.args.limits (g.B.Backend.versions c.args.source.now) _ _ (g.O.Sink.held c.args.output.now) c.args.requests.now

pub returns-in_err-state-clause-texts : goal.returns-in_err-state-clause-texts
returns-in_err-state-clause-texts g c = (unopened (g.B.Backend.told c.args.source.now) _ _ c.in_err-state.field-0.0 (outcome_of c.from_residual.result) (outcome_is c.from_residual.result _ c.from_residual.ensures.1) c.in_err-state.ensures.refused c.in_err-state.ensures.causes).texts _ _ _

pub returns-in_err-state-clause-opens : goal.returns-in_err-state-clause-opens
returns-in_err-state-clause-opens g c = (unopened (g.B.Backend.told c.args.source.now) _ _ c.in_err-state.field-0.0 (outcome_of c.from_residual.result) (outcome_is c.from_residual.result _ c.from_residual.ensures.1) c.in_err-state.ensures.refused c.in_err-state.ensures.causes).opens

pub returns-in_err-state-clause-read : goal.returns-in_err-state-clause-read
returns-in_err-state-clause-read g c = (unopened (g.B.Backend.told c.args.source.now) _ _ c.in_err-state.field-0.0 (outcome_of c.from_residual.result) (outcome_is c.from_residual.result _ c.from_residual.ensures.1) c.in_err-state.ensures.refused c.in_err-state.ensures.causes).read

pub returns-in_err-state-clause-causes : goal.returns-in_err-state-clause-causes
returns-in_err-state-clause-causes g c = (unopened (g.B.Backend.told c.args.source.now) _ _ c.in_err-state.field-0.0 (outcome_of c.from_residual.result) (outcome_is c.from_residual.result _ c.from_residual.ensures.1) c.in_err-state.ensures.refused c.in_err-state.ensures.causes).causes

pub returns-in_err-state-clause-unmodified : goal.returns-in_err-state-clause-unmodified
returns-in_err-state-clause-unmodified g c = λ uniform. (unopened (g.B.Backend.told c.args.source.now) _ _ c.in_err-state.field-0.0 (outcome_of c.from_residual.result) (outcome_is c.from_residual.result _ c.from_residual.ensures.1) c.in_err-state.ensures.refused c.in_err-state.ensures.causes).unmodified

pub returns-in_err-state-clause-fault : goal.returns-in_err-state-clause-fault
returns-in_err-state-clause-fault g c = λ fault. absurd ((unopened (g.B.Backend.told c.args.source.now) _ _ c.in_err-state.field-0.0 (outcome_of c.from_residual.result) (outcome_is c.from_residual.result _ c.from_residual.ensures.1) c.in_err-state.ensures.refused c.in_err-state.ensures.causes).other fault)

pub returns-clause-writes : goal.returns-clause-writes
returns-clause-writes g c =
    lines_write (g.B.Backend.told c.args.source.now) (g.B.Backend.told c.open.new.backend) c.args.limits (g.B.Backend.versions c.args.source.now) _ _ _ c.args.requests.now (g.O.Sink.held c.args.output.now) (g.O.Sink.held c.serve_lines.new.output) (outcome_of c.serve_lines.result)
    c.in_ok-state.ensures.kept.told
    (begun_by c.args.limits (g.B.Backend.versions c.args.source.now) (g.B.Backend.versions c.open.new.backend) _ _ (opened_as c.in_ok-state.state) (tiles_of c.in_ok-state.state) c.in_ok-state.ensures.kept.versions c.open.ensures.reads c.in_ok-state.ensures.version c.in_ok-state.ensures.tiles)
    c.serve_lines.ensures.writes

pub returns-clause-texts : goal.returns-clause-texts
returns-clause-texts g c =
    lines_texts (g.B.Backend.versions c.args.source.now) (g.B.Backend.versions c.open.new.backend) _ _ _ (opened_as c.in_ok-state.state) (outcome_of c.serve_lines.result)
    c.in_ok-state.ensures.kept.versions c.open.ensures.reads c.serve_lines.ensures.later c.in_ok-state.ensures.version c.serve_lines.ensures.texts

pub returns-clause-opens : goal.returns-clause-opens
returns-clause-opens g c = lines_open (g.B.Backend.told c.args.source.now) (g.B.Backend.told c.open.new.backend) (g.B.Backend.versions c.open.new.backend) _ _ c.in_ok-state.state (outcome_of c.serve_lines.result) c.in_ok-state.ensures.kept.told c.in_ok-state.ensures.serving c.serve_lines.ensures.end

pub returns-clause-read : goal.returns-clause-read
returns-clause-read g c = lines_read (g.B.Backend.told c.open.new.backend) _ _ (outcome_of c.serve_lines.result) c.serve_lines.ensures.end

pub returns-clause-silent : goal.returns-clause-silent
returns-clause-silent g c = λ silent. absurd (lines_loud (g.B.Backend.told c.open.new.backend) _ _ (outcome_of c.serve_lines.result) c.serve_lines.ensures.end silent)

pub returns-clause-causes : goal.returns-clause-causes
returns-clause-causes g c = lines_cause (g.B.Backend.told c.args.source.now) (g.B.Backend.told c.open.new.backend) _ _ _ (outcome_of c.serve_lines.result) c.in_ok-state.ensures.kept.told c.in_ok-state.ensures.kept.faults c.serve_lines.ensures.end

pub returns-clause-unmodified : goal.returns-clause-unmodified
returns-clause-unmodified g c = unmodified_again (g.B.Backend.versions c.args.source.now) (g.B.Backend.versions c.open.new.backend) (outcome_of c.serve_lines.result) (outcome_of c.serve_lines.result) c.in_ok-state.ensures.kept.versions refl c.serve_lines.ensures.unmodified

pub returns-clause-source_kept : goal.returns-clause-source_kept
returns-clause-source_kept g c = reads_then g.B.Backend.told g.B.Backend.versions g.B.Backend.faults g.B.Backend.steady c.args.source.now c.open.new.backend c.serve_lines.new.source c.in_ok-state.ensures.kept c.serve_lines.ensures.source_kept
