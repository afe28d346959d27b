use Rattle.tile_bridge.proofs.Common.{arith, id_of, reads_then, ◌∙◌}
use Rattle.tile_bridge.proofs.ReadingBackLemmas.{all_answers, answer_more, memory_answers, reads_more, tile_answers}
use Rattle.tile_bridge.proofs.reading_back.read_answers.Goals as goal

pub returns-in_err-tile-clause-answers : goal.returns-in_err-tile-clause-answers
returns-in_err-tile-clause-answers g c =
    tile_answers (g.B.Backend.told c.args.backend.now) (g.B.Backend.told c.loop-coord.backend) c.args.coords.now (id_of c.coord-item.result) _ _ c.loop-coord.invariant.kept.told c.in_err-tile.ensures.answer c.from_residual-in_err-tile.ensures.1

pub returns-in_err-push-clause-answers : goal.returns-in_err-push-clause-answers
returns-in_err-push-clause-answers g c = memory_answers (g.B.Backend.told c.args.backend.now) c.args.coords.now _ c.from_residual-in_err-push.ensures.1

pub loop-coord-preserved : goal.loop-coord-preserved
loop-coord-preserved g c =
    record {
      from = c.in_ok-tile.ensures.from;
      answers = answer_more (g.B.Backend.told c.args.backend.now) (g.B.Backend.told c.loop-coord.backend) c.args.coords.now c.loop-coord.coord-index c.coord-item.result c.loop-coord.tiles.items c.push.new.self.items c.in_ok-tile.tile c.loop-coord.invariant.kept.told c.loop-coord-test.true
          c.coord-item.is c.in_ok-push.ensures.items c.loop-coord.invariant.answers c.in_ok-tile.ensures.answer;
      reads = reads_more (g.B.Backend.reads c.args.backend.now) (g.B.Backend.reads c.loop-coord.backend) (g.B.Backend.reads c.read_answer.new.backend) c.loop-coord.tiles.items c.push.new.self.items c.in_ok-tile.tile c.in_ok-push.ensures.items c.loop-coord.invariant.reads c.in_ok-tile.ensures.reads;
      counted = omega (arith, c.loop-coord.invariant.counted, c.in_ok-tile.ensures.counted);
      kept = reads_then _ _ _ _ _ _ _ c.loop-coord.invariant.kept c.in_ok-tile.ensures.kept;
      still = c.in_ok-tile.ensures.still ∙ c.loop-coord.invariant.still;
    }

pub returns-clause-answers : goal.returns-clause-answers
returns-clause-answers g c = all_answers (g.B.Backend.told c.args.backend.now) c.args.coords.now c.loop-coord.coord-index c.loop-coord.tiles.items c.new.result (omega (arith, c.loop-coord-test.false)) c.new.ensures c.loop-coord.invariant.answers
