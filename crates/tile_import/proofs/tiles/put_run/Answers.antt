use Rattle.tile_import.proofs.Common.{ap, ids_of, map, place_at, ◌∙◌}
use Rattle.tile_import.proofs.PlacingLemmas.{run_placed}
use Rattle.tile_import.proofs.tiles.put_run.Goals as goal

pub returns : goal.returns
returns c =
    run_placed c.set_tiles.result c.args.tiles.now c.set_tiles.new.self c.as_slice.result.now (ids_of c.args.entry) c.args.bytes.now c.new-contents.result
    (ap (map place_at) c.as_slice.ensures.value ∙ c.in_ok-coords.ensures) (c.new-contents.ensures ∙ c.in_ok-from_slice.ensures.items) c.set_tiles.ensures.ok
