use Rattle.tileset.proofs.Common.{refl, rules, ◌∙◌}
use Rattle.tileset.proofs.DumpLemmas.{front_all, front_piece, gains_piece, gains_start, moved}
use Rattle.byte_media.proofs.KeptLemmas.{medium_same, medium_then}
use Rattle.byte_streams.proofs.KeptLemmas.{sink_same, sink_then}
use Rattle.tileset.proofs.PrintedLemmas.{grows_none, grows_then}
use Rattle.tileset.proofs.StandsLemmas.{medium_ended, output_ended}
use Rattle.tileset.proofs.dump.write_dump.Goals as goal

pub loop-at-init : goal.loop-at-init
loop-at-init g c = record {
  held = gains_start _ _;
  grows = grows_none _;
  told = search rules;
  aligned = search rules;
  within = search rules;
  output_kept = sink_same g.O.Sink.held g.O.Sink.faults g.O.Sink.steady c.args.output.now;
  medium_kept = medium_same g.M.Backend.told g.M.Backend.versions g.M.Backend.reads g.M.Backend.faults g.M.Backend.steady c.args.medium.now;
  output_still = refl;
  medium_still = refl;
}

pub returns-in_err-write_piece-clause-front : goal.returns-in_err-write_piece-clause-front
returns-in_err-write_piece-clause-front g c = front_piece _ _ _ _ c.loop-at.at c.min-size.result c.args.length c.requires.whole (c.loop-at.invariant.aligned c.loop-at-test.true) c.loop-at-test.true c.min-size.ensures c.loop-at.invariant.held (moved _ _ _ c.loop-at.invariant.told c.in_err-write_piece.ensures.front)

pub loop-at-preserved : goal.loop-at-preserved
loop-at-preserved g c = record {
  held = gains_piece _ _ _ _ c.loop-at.at c.min-size.result c.args.length c.requires.whole (c.loop-at.invariant.aligned c.loop-at-test.true) (search rules) c.loop-at.invariant.held (moved _ _ _ c.loop-at.invariant.told c.in_ok-write_piece.ensures.all);
  grows = grows_then _ _ _ c.loop-at.invariant.grows c.in_ok-write_piece.ensures.grows;
  told = search rules;
  aligned = search rules;
  within = search rules;
  output_kept = sink_then g.O.Sink.held g.O.Sink.faults g.O.Sink.steady c.args.output.now c.loop-at.output c.write_piece.new.output c.loop-at.invariant.output_kept c.in_ok-write_piece.ensures.output_kept;
  medium_kept = medium_then g.M.Backend.told g.M.Backend.versions g.M.Backend.reads g.M.Backend.faults g.M.Backend.steady c.args.medium.now c.loop-at.medium c.write_piece.new.medium c.loop-at.invariant.medium_kept c.in_ok-write_piece.ensures.medium_kept;
  output_still = c.in_ok-write_piece.ensures.output_still ∙ c.loop-at.invariant.output_still;
  medium_still = c.in_ok-write_piece.ensures.medium_still ∙ c.loop-at.invariant.medium_still;
}

pub returns-in_err-write_piece-clause-grows : goal.returns-in_err-write_piece-clause-grows
returns-in_err-write_piece-clause-grows g c = grows_then _ _ _ c.loop-at.invariant.grows c.in_err-write_piece.ensures.grows

pub returns-clause-front : goal.returns-clause-front
returns-clause-front g c = front_all _ _ _ c.loop-at.at c.args.length c.requires.whole (search rules) c.loop-at.invariant.held

pub returns-in_err-write_piece-clause-output_still : goal.returns-in_err-write_piece-clause-output_still
returns-in_err-write_piece-clause-output_still g c = output_ended _ _ _ c.in_err-write_piece.field-0.0 c.from_residual.result c.loop-at.invariant.output_still c.in_err-write_piece.ensures.output_still c.from_residual.ensures.1

pub returns-in_err-write_piece-clause-medium_still : goal.returns-in_err-write_piece-clause-medium_still
returns-in_err-write_piece-clause-medium_still g c = medium_ended _ _ _ c.in_err-write_piece.field-0.0 c.from_residual.result c.loop-at.invariant.medium_still c.in_err-write_piece.ensures.medium_still c.from_residual.ensures.1
