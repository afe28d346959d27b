use Rattle.tile_import.proofs.Common.{Err, IsPutAnswer, PutCauses, subst, sym, ◌≡◌}
use Rattle.tile_import.proofs.AnswerLemmas.{all_put, are_tiles, put_refused, read_answered, unput_causes}
use Rattle.tile_import.proofs.put_over.put_archive.Goals as goal

pub returns-in-Err-clause-answer : goal.returns-in-Err-clause-answer
returns-in-Err-clause-answer g c = read_answered c.args.max_tiles (g.B.Backend.told c.args.backend.now) c.args.base.state c.in-Err.error c.in-Err.ensures.answer

pub returns-in-Ok-put_over-clause-answer : goal.returns-in-Ok-put_over-clause-answer
returns-in-Ok-put_over-clause-answer g c =
    all_put c.args.max_tiles (g.B.Backend.told c.args.backend.now) c.args.base.state c.in-Ok.tiles.state.tiles c.tile_count-count.result c.in-Ok.ensures.answer c.in-Ok-put_over.ensures.value.0 c.tile_count-count.ensures

pub returns-in-Ok-put_over-clause-put : goal.returns-in-Ok-put_over-clause-put
returns-in-Ok-put_over-clause-put g c = record {
  tiles = c.in-Ok.tiles.state.tiles;
  are = are_tiles (g.B.Backend.told c.args.backend.now) c.args.max_tiles c.in-Ok.tiles.state.tiles c.in-Ok.ensures.answer;
  on_board = c.in-Ok.ensures.board;
  count = c.tile_count-count.ensures;
  may = c.in-Ok-put_over.ensures.value.0;
  is = c.in-Ok-put_over.ensures.value.1;
}

pub returns-in-Err-put_over-clause-answer : goal.returns-in-Err-put_over-clause-answer
returns-in-Err-put_over-clause-answer g c =
    subst (λ x. IsPutAnswer c.args.max_tiles (g.B.Backend.told c.args.backend.now) c.args.base.state (Err x)) (sym c.of_store.ensures)
    (put_refused c.args.max_tiles (g.B.Backend.told c.args.backend.now) c.args.base.state c.in-Ok.tiles.state.tiles c.in-Err-put_over.error c.in-Ok.ensures.answer c.in-Err-put_over.ensures.refused)

pub returns-in-Err-put_over-clause-causes : goal.returns-in-Err-put_over-clause-causes
returns-in-Err-put_over-clause-causes g c =
    let before = g.B.Backend.faults c.args.backend.now in
    let now = g.B.Backend.faults c.read_archive.new.backend in
    subst (λ x. PutCauses c.args.max_tiles before now (Err x)) (sym c.of_store.ensures) (unput_causes c.args.max_tiles before now c.in-Err-put_over.error c.in-Err-put_over.ensures.unfaulted)
