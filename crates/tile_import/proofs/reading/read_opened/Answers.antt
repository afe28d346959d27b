use Rattle.tile_import.proofs.Common.{AreOnBoard, arith, empty, header_of, len, len-empty, List, Option, place_cmp, root_of, subst, sym, tile_count, TileSet, ℕ, ◌∙◌, ◌≤◌}
use Rattle.tile_import.proofs.EntryLemmas.{contents_few, contents_on_board}
use Rattle.tile_import.proofs.RefusalLemmas.{tiles_taken, want_read}
use Rattle.tile_import.proofs.TilesLemmas.{none_on_board}
use Rattle.tile_import.proofs.reading.read_opened.Goals as goal

pub returns-in-Ok-settle_tiles-clause-answer : goal.returns-in-Ok-settle_tiles-clause-answer
returns-in-Ok-settle_tiles-clause-answer g c =
    let all = c.in-Ok.ensures.given in
    tiles_taken (g.B.Backend.told c.args.backend.now) (header_of c.args.reader.now, root_of c.args.reader.now) c.args.max_tiles all.entries all.contents c.in-Ok-settle_tiles.tiles.state.tiles
    c.requires all.given.gathered all.given.contents (c.in-Ok-settle_tiles.ensures ∙ all.held.1)

pub returns-in-Ok-settle_tiles-clause-board : goal.returns-in-Ok-settle_tiles-clause-board
returns-in-Ok-settle_tiles-clause-board g c =
    let all = c.in-Ok.ensures.given in
    subst AreOnBoard (sym (c.in-Ok-settle_tiles.ensures ∙ all.held.1)) (contents_on_board empty all.entries all.contents all.given.shallow none_on_board)

pub returns-in-Ok-settle_tiles-clause-few : goal.returns-in-Ok-settle_tiles-clause-few
returns-in-Ok-settle_tiles-clause-few g c =
    let all = c.in-Ok.ensures.given in
    let few = contents_few empty all.entries all.contents in
    let none = len-empty place_cmp (Option (List ℕ)) in
    let most : tile_count all.entries ≤ c.args.max_tiles = all.given.few in
    subst (λ (m : TileSet). len m ≤ c.args.max_tiles) (sym (c.in-Ok-settle_tiles.ensures ∙ all.held.1)) (omega (arith, few, none, most))

pub returns-in-Err-settle_tiles-clause-answer : goal.returns-in-Err-settle_tiles-clause-answer
returns-in-Err-settle_tiles-clause-answer g c = want_read (g.B.Backend.told c.args.backend.now) c.args.max_tiles
