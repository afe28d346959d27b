use Rattle.tile_serve.proofs.Common.{arith, course, Done, IfSome, lines_of, opened_as, outcome_of, reads_same, reads_then, refl, rules, ServeOutcome, subst, sym, tiles_of, UsesOneLength, WritesLine}
use Rattle.tile_serve.proofs.Common.{WritesLines, [], ◌∙◌, ◌∷◌, ◌≡◌}
use Rattle.byte_streams.proofs.KeptLemmas.{sink_same, sink_then}
use Rattle.tile_serve.proofs.CourseLemmas.{goes_later, texts_later}
use Rattle.tile_serve.proofs.LinesLemmas.{end_later, fault_later, outcome_is, serving_begun, serving_done, serving_more, serving_stopped, unmodified_again}
use Rattle.tile_serve.proofs.ServingLemmas.{told_again}
use Rattle.tile_serve.proofs.serving.serve_lines.Goals as goal

pub loop-line-init : goal.loop-line-init
loop-line-init g c = record {
  serving = c.requires.serving;
  served = serving_begun (g.B.Backend.told c.args.source.now) (opened_as c.args.state.now) (g.B.Backend.versions c.args.source.now) (tiles_of c.args.state.now) (g.B.Backend.reads c.args.source.now) c.args.requests.now (g.O.Sink.held c.args.output.now);
  same = refl;
  later = omega arith;
  source_still = refl;
  output_still = refl;
  source_kept = reads_same g.B.Backend.told g.B.Backend.versions g.B.Backend.faults g.B.Backend.steady c.args.source.now;
  output_kept = sink_same g.O.Sink.held g.O.Sink.faults g.O.Sink.steady c.args.output.now;
}

pub loop-line-preserved : goal.loop-line-preserved
loop-line-preserved g c =
    let i = c.loop-line.invariant in
    let e = c.in_ok-serve_line.ensures in
    let told = g.B.Backend.told c.args.source.now in
    let again = g.B.Backend.told c.loop-line.source in
    let parts : lines_of c.loop-line.rest.now ≡ c.in-Some.line.now ∷ lines_of c.in-Some.behind.now = search rules in
    record {
      serving = e.serving;
      served = serving_more told (opened_as c.args.state.now) (g.B.Backend.versions c.args.source.now) (tiles_of c.args.state.now) (g.B.Backend.reads c.args.source.now) c.args.requests.now c.loop-line.rest.now c.in-Some.behind.now c.in-Some.line.now
          (tiles_of c.loop-line.state) (tiles_of c.serve_line.new.state) _ _ (g.O.Sink.held c.args.output.now) (g.O.Sink.held c.loop-line.output) (g.O.Sink.held c.serve_line.new.output)
          parts (told_again (λ b. UsesOneLength b → WritesLine b c.in-Some.line.now (g.O.Sink.held c.loop-line.output) (g.O.Sink.held c.serve_line.new.output) Done) again told (sym i.source_kept.told) e.writes)
          (goes_later told again (opened_as c.args.state.now) (opened_as c.loop-line.state) (g.B.Backend.versions c.args.source.now) (g.B.Backend.versions c.loop-line.source) c.in-Some.line.now (tiles_of c.loop-line.state) (tiles_of c.serve_line.new.state) _ _ Done
          i.source_kept.told i.same i.source_kept.versions e.goes)
          i.served;
      same = e.same ∙ i.same;
      later = omega (arith, i.later, e.later);
      source_still = e.source_still ∙ i.source_still;
      output_still = e.output_still ∙ i.output_still;
      source_kept = reads_then g.B.Backend.told g.B.Backend.versions g.B.Backend.faults g.B.Backend.steady c.args.source.now c.loop-line.source c.serve_line.new.source i.source_kept e.source_kept;
      output_kept = sink_then g.O.Sink.held g.O.Sink.faults g.O.Sink.steady c.args.output.now c.loop-line.output c.serve_line.new.output i.output_kept e.output_kept;
    }

pub returns-in_err-serve_line-clause-writes : goal.returns-in_err-serve_line-clause-writes
returns-in_err-serve_line-clause-writes g c =
    let i = c.loop-line.invariant in
    let e = c.in_err-serve_line.ensures in
    let told = g.B.Backend.told c.args.source.now in
    let again = g.B.Backend.told c.loop-line.source in
    let o = c.in_err-serve_line.field-0.0 in
    let start = course (opened_as c.args.state.now) (g.B.Backend.versions c.args.source.now) (tiles_of c.args.state.now) (g.B.Backend.reads c.args.source.now) in
    let parts : lines_of c.loop-line.rest.now ≡ c.in-Some.line.now ∷ lines_of c.in-Some.behind.now = search rules in
    let P : ServeOutcome → Type 0 = λ x. IfSome told (λ b. UsesOneLength b → WritesLines b start c.args.requests.now (g.B.Backend.reads c.serve_line.new.source) (g.O.Sink.held c.args.output.now) (g.O.Sink.held c.serve_line.new.output) x) in
    subst P (sym (outcome_is c.from_residual.result _ c.from_residual.ensures.1))
    (serving_stopped told (opened_as c.args.state.now) (g.B.Backend.versions c.args.source.now) (tiles_of c.args.state.now) (g.B.Backend.reads c.args.source.now) c.args.requests.now c.loop-line.rest.now c.in-Some.behind.now c.in-Some.line.now
    (tiles_of c.loop-line.state) (tiles_of c.serve_line.new.state) _ _ (g.O.Sink.held c.args.output.now) (g.O.Sink.held c.loop-line.output) (g.O.Sink.held c.serve_line.new.output) o
    parts e.stops (told_again (λ b. UsesOneLength b → WritesLine b c.in-Some.line.now (g.O.Sink.held c.loop-line.output) (g.O.Sink.held c.serve_line.new.output) o) again told (sym i.source_kept.told) e.writes)
    (goes_later told again (opened_as c.args.state.now) (opened_as c.loop-line.state) (g.B.Backend.versions c.args.source.now) (g.B.Backend.versions c.loop-line.source) c.in-Some.line.now (tiles_of c.loop-line.state) (tiles_of c.serve_line.new.state) _ _ o
    i.source_kept.told i.same i.source_kept.versions e.goes)
    i.served)

pub returns-in_err-serve_line-clause-texts : goal.returns-in_err-serve_line-clause-texts
returns-in_err-serve_line-clause-texts g c =
    let i = c.loop-line.invariant in
    texts_later (opened_as c.args.state.now) (opened_as c.loop-line.state) (g.B.Backend.versions c.args.source.now) (g.B.Backend.versions c.loop-line.source) _ c.in_err-serve_line.field-0.0 (outcome_of c.from_residual.result)
    i.same i.source_kept.versions (outcome_is c.from_residual.result _ c.from_residual.ensures.1) c.in_err-serve_line.ensures.texts

pub returns-in_err-serve_line-clause-end : goal.returns-in_err-serve_line-clause-end
returns-in_err-serve_line-clause-end g c =
    end_later (g.B.Backend.told c.args.source.now) (g.B.Backend.told c.loop-line.source) _ _ _ c.in_err-serve_line.field-0.0 (outcome_of c.from_residual.result) c.loop-line.invariant.source_kept.told (outcome_is c.from_residual.result _ c.from_residual.ensures.1) c.loop-line.invariant.source_kept.faults
    c.in_err-serve_line.ensures.end

pub returns-in_err-serve_line-clause-unmodified : goal.returns-in_err-serve_line-clause-unmodified
returns-in_err-serve_line-clause-unmodified g c =
    unmodified_again (g.B.Backend.versions c.args.source.now) (g.B.Backend.versions c.loop-line.source) c.in_err-serve_line.field-0.0 (outcome_of c.from_residual.result) c.loop-line.invariant.source_kept.versions (outcome_is c.from_residual.result _ c.from_residual.ensures.1)
    c.in_err-serve_line.ensures.unmodified

pub returns-in_err-serve_line-clause-fault : goal.returns-in_err-serve_line-clause-fault
returns-in_err-serve_line-clause-fault g c =
    fault_later _ _ _ c.in_err-serve_line.field-0.0 (outcome_of c.from_residual.result) (outcome_is c.from_residual.result _ c.from_residual.ensures.1) c.loop-line.invariant.output_kept.faults c.in_err-serve_line.ensures.fault

pub returns-in_err-serve_line-clause-source_kept : goal.returns-in_err-serve_line-clause-source_kept
returns-in_err-serve_line-clause-source_kept g c =
    reads_then g.B.Backend.told g.B.Backend.versions g.B.Backend.faults g.B.Backend.steady c.args.source.now c.loop-line.source c.serve_line.new.source c.loop-line.invariant.source_kept c.in_err-serve_line.ensures.source_kept

pub returns-clause-writes : goal.returns-clause-writes
returns-clause-writes g c =
    let end : c.loop-line.rest.now ≡ [] = search rules in
    serving_done (g.B.Backend.told c.args.source.now) (opened_as c.args.state.now) (g.B.Backend.versions c.args.source.now) (tiles_of c.args.state.now) (g.B.Backend.reads c.args.source.now) c.args.requests.now c.loop-line.rest.now (tiles_of c.loop-line.state) _
    (g.O.Sink.held c.args.output.now) (g.O.Sink.held c.loop-line.output) end c.loop-line.invariant.served
