use Rattle.tile_serve.proofs.Common.{List, opened_as, outcome_of, tiles_of, ℕ}
use Rattle.tile_serve.proofs.CourseLemmas.{goes_done, goes_refused, goes_stopped, texts_refused, texts_stopped}
use Rattle.tile_serve.proofs.LinesLemmas.{end_refused, end_stopped, line_refused, line_stopped, line_written, outcome_is, serve_no_fault, stops_serve, stops_sink, unmodified_refused, unmodified_stopped}
use Rattle.tile_serve.proofs.serving.serve_line.Goals as goal

pub returns-in_err-text-clause-writes : goal.returns-in_err-text-clause-writes
returns-in_err-text-clause-writes g c =
    line_refused (g.B.Backend.told c.args.source.now) c.args.line.now (g.O.Sink.held c.args.output.now) c.in_err-text.field-0.0 (outcome_of c.from_residual.result) (outcome_is c.from_residual.result _ c.from_residual.ensures.1)
    c.in_err-text.ensures.answer

pub returns-in_err-text-clause-end : goal.returns-in_err-text-clause-end
returns-in_err-text-clause-end g c =
    end_refused (List ℕ) (g.B.Backend.told c.args.source.now) _ _ c.in_err-text.field-0.0 (outcome_of c.from_residual.result) (outcome_is c.from_residual.result _ c.from_residual.ensures.1) c.in_err-text.ensures.causes

pub returns-in_err-text-clause-unmodified : goal.returns-in_err-text-clause-unmodified
returns-in_err-text-clause-unmodified g c = λ uniform.
    unmodified_refused (List ℕ) c.in_err-text.field-0.0 (outcome_of c.from_residual.result) (outcome_is c.from_residual.result _ c.from_residual.ensures.1) (c.in_err-text.ensures.unmodified uniform)

pub returns-in_err-text-clause-fault : goal.returns-in_err-text-clause-fault
returns-in_err-text-clause-fault g c = λ is. absurd (serve_no_fault c.in_err-text.field-0.0 (outcome_of c.from_residual.result) (outcome_is c.from_residual.result _ c.from_residual.ensures.1) is)

pub returns-in_err-write_all-clause-writes : goal.returns-in_err-write_all-clause-writes
returns-in_err-write_all-clause-writes g c =
    line_stopped (g.B.Backend.told c.args.source.now) c.args.line.now c.in_ok-text.text c.as_bytes.result.now (g.O.Sink.held c.args.output.now) (g.O.Sink.held c.write_all.new.sink) c.in_err-write_all.field-0.0 (outcome_of c.from_residual-in_err-write_all.result) c.as_bytes.ensures
    (outcome_is c.from_residual-in_err-write_all.result _ c.from_residual-in_err-write_all.ensures.1) c.in_ok-text.ensures.answer c.in_err-write_all.ensures.front

pub returns-in_err-write_all-clause-end : goal.returns-in_err-write_all-clause-end
returns-in_err-write_all-clause-end g c =
    end_stopped (g.B.Backend.told c.args.source.now) _ _ c.in_err-write_all.field-0.0 (outcome_of c.from_residual-in_err-write_all.result) (outcome_is c.from_residual-in_err-write_all.result _ c.from_residual-in_err-write_all.ensures.1)

pub returns-in_err-write_all-clause-unmodified : goal.returns-in_err-write_all-clause-unmodified
returns-in_err-write_all-clause-unmodified g c = λ uniform.
    unmodified_stopped c.in_err-write_all.field-0.0 (outcome_of c.from_residual-in_err-write_all.result) (outcome_is c.from_residual-in_err-write_all.result _ c.from_residual-in_err-write_all.ensures.1)

pub returns-clause-writes : goal.returns-clause-writes
returns-clause-writes g c =
    line_written (g.B.Backend.told c.args.source.now) c.args.line.now c.in_ok-text.text c.as_bytes.result.now (g.O.Sink.held c.args.output.now) (g.O.Sink.held c.write_all.new.sink) c.as_bytes.ensures c.in_ok-text.ensures.answer c.in_ok-write_all.ensures.all

pub returns-in_err-text-clause-stops : goal.returns-in_err-text-clause-stops
returns-in_err-text-clause-stops g c = stops_serve c.from_residual.result c.in_err-text.field-0.0 c.from_residual.ensures.1

pub returns-in_err-write_all-clause-stops : goal.returns-in_err-write_all-clause-stops
returns-in_err-write_all-clause-stops g c = stops_sink c.from_residual-in_err-write_all.result c.in_err-write_all.field-0.0 c.from_residual-in_err-write_all.ensures.1

pub returns-in_err-text-clause-goes : goal.returns-in_err-text-clause-goes
returns-in_err-text-clause-goes g c =
    goes_refused (g.B.Backend.told c.args.source.now) (opened_as c.args.state.now) (g.B.Backend.versions c.args.source.now) c.args.line.now (tiles_of c.args.state.now) (tiles_of c.answer.new.self) _ _ c.in_err-text.field-0.0
    (outcome_of c.from_residual.result) (outcome_is c.from_residual.result _ c.from_residual.ensures.1) c.answer.ensures.hops c.in_err-text.ensures.asked

pub returns-in_err-text-clause-texts : goal.returns-in_err-text-clause-texts
returns-in_err-text-clause-texts g c =
    texts_refused (List ℕ) (opened_as c.args.state.now) (g.B.Backend.versions c.args.source.now) (g.B.Backend.versions c.answer.new.backend) _ c.in_err-text.field-0.0
    (outcome_of c.from_residual.result) c.in_err-text.ensures.kept.versions (outcome_is c.from_residual.result _ c.from_residual.ensures.1) c.in_err-text.ensures.texts

pub returns-in_err-write_all-clause-goes : goal.returns-in_err-write_all-clause-goes
returns-in_err-write_all-clause-goes g c =
    goes_stopped (g.B.Backend.told c.args.source.now) (opened_as c.args.state.now) (g.B.Backend.versions c.args.source.now) c.args.line.now (tiles_of c.args.state.now) (tiles_of c.answer.new.self) _ _ c.in_err-write_all.field-0.0
    (outcome_of c.from_residual-in_err-write_all.result) (outcome_is c.from_residual-in_err-write_all.result _ c.from_residual-in_err-write_all.ensures.1)

pub returns-in_err-write_all-clause-texts : goal.returns-in_err-write_all-clause-texts
returns-in_err-write_all-clause-texts g c =
    texts_stopped (opened_as c.args.state.now) (g.B.Backend.versions c.args.source.now) _ c.in_err-write_all.field-0.0
    (outcome_of c.from_residual-in_err-write_all.result) (outcome_is c.from_residual-in_err-write_all.result _ c.from_residual-in_err-write_all.ensures.1)

pub returns-clause-goes : goal.returns-clause-goes
returns-clause-goes g c =
    goes_done (g.B.Backend.told c.args.source.now) (opened_as c.args.state.now) (g.B.Backend.versions c.args.source.now) (g.B.Backend.versions c.answer.new.backend) c.args.line.now c.in_ok-text.text (tiles_of c.args.state.now) (tiles_of c.answer.new.self) _ _
    c.in_ok-text.ensures.kept.versions c.answer.ensures.hops c.in_ok-text.ensures.compares c.in_ok-text.ensures.tiles
