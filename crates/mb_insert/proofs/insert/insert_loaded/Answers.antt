use Rattle.mb_insert.proofs.Common.{ap, contains_key, sym, TileSet, ◌∙◌}
use Rattle.mb_insert.proofs.CoordLemmas.{all_coords, put_on_board}
use Rattle.mb_insert.proofs.insert.insert_loaded.Goals as goal

pub chosen_tiles-requires : goal.chosen_tiles-requires
chosen_tiles-requires c = all_coords c.args.batch.now c.in_ok-test_coords.ensures

pub returns-clause-loaded : goal.returns-clause-loaded
returns-clause-loaded c t loaded =
    c.in_ok-put.ensures.loaded t loaded
    (λ p h. put_on_board c.args.mode c.args.base.state.tiles c.args.batch.now (all_coords c.args.batch.now c.in_ok-test_coords.ensures) p (ap (λ (m : TileSet). contains_key m p) (sym c.in_ok-tiles.ensures) ∙ h))
