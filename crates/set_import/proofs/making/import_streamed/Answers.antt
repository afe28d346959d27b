use Rattle.set_import.proofs.Common.{Err, IsFilled, List, Ok, Option, started, subst, ℕ}
use Rattle.set_import.proofs.FillingLemmas.{filled_answer, unread}
use Rattle.set_import.specs.Streaming.{IsStoppedAt}
use Rattle.set_import.proofs.making.import_streamed.Goals as goal

pub returns-in-Err-clause-answer : goal.returns-in-Err-clause-answer
returns-in-Err-clause-answer g c =
    unread (g.B.Backend.told c.args.backend.now) c.args.max_tiles (g.S.TileStore.tells c.args.store.now) (g.S.TileStore.told c.args.store.now) (g.B.Backend.faults c.args.backend.now) (g.B.Backend.faults c.said_document.new.backend) c.in-Err.error
    c.in-Err.ensures.answer c.in-Err.ensures.causes

pub returns-in-Ok-fill_streamed-clause-answer : goal.returns-in-Ok-fill_streamed-clause-answer
returns-in-Ok-fill_streamed-clause-answer g c =
    filled_answer (g.B.Backend.told c.args.backend.now) (g.B.Backend.told c.said_document.new.backend) c.args.max_tiles (g.S.TileStore.tells c.args.store.now) (g.S.TileStore.told c.args.store.now) c.in-Ok.document (Ok c.in-Ok-fill_streamed.count)
    c.said_document.ensures.kept.told c.in-Ok.ensures.answer c.in-Ok-fill_streamed.ensures.answer

pub returns-in-Ok-fill_streamed-clause-made : goal.returns-in-Ok-fill_streamed-clause-made
returns-in-Ok-fill_streamed-clause-made g c tells = record {
  document = c.in-Ok.document;
  said = c.in-Ok.ensures.answer;
  filled = subst (λ (o : Option (List ℕ)). IsFilled o c.in-Ok.document (started (g.S.TileStore.told c.args.store.now)) (g.S.TileStore.told c.fill_streamed.new.store) c.in-Ok-fill_streamed.count) c.said_document.ensures.kept.told (c.in-Ok-fill_streamed.ensures.filled tells);
}

pub returns-clause-answer : goal.returns-clause-answer
returns-clause-answer g c =
    filled_answer (g.B.Backend.told c.args.backend.now) (g.B.Backend.told c.said_document.new.backend) c.args.max_tiles (g.S.TileStore.tells c.args.store.now) (g.S.TileStore.told c.args.store.now) c.in-Ok.document (Err c.in-Err-fill_streamed.error)
    c.said_document.ensures.kept.told c.in-Ok.ensures.answer c.in-Err-fill_streamed.ensures.answer

pub returns-clause-stopped : goal.returns-clause-stopped
returns-clause-stopped g c tells =
    subst (λ (o : Option (List ℕ)). IsStoppedAt o (g.S.TileStore.told c.args.store.now) (g.S.TileStore.told c.fill_streamed.new.store) c.in-Err-fill_streamed.error) c.said_document.ensures.kept.told (c.in-Err-fill_streamed.ensures.stopped tells)
