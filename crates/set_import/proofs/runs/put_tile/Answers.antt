use Rattle.set_import.proofs.Common.{ap, arith, Held, Some, subst, sym, ◌+◌, ◌∙◌}
use Rattle.mb_lists.specs.Entries.{place_at}
use Rattle.mb_loaded.specs.Edits.{with_tile}
use Rattle.mb_tables.specs.Tiles.{Place}
use Rattle.set_import.proofs.StreamLemmas.{part_put, stream_put}
use Rattle.set_import.specs.Batches.{IsStream}
use Rattle.std.specs.FinMap.{insert}
use Rattle.tile_import.specs.Putting.{place_of_id}
use Rattle.set_import.proofs.runs.put_tile.Goals as goal

pub returns-in-Err-clause-streams : goal.returns-in-Err-clause-streams
returns-in-Err-clause-streams g c = λ made all s.
    part_put (g.S.TileStore.tells c.args.store.now) made (g.S.TileStore.told c.make_room.new.store) all c.args.id (Some c.args.bytes.now) (omega (arith, c.requires.shallow)) (c.in-Err.ensures.streams made all c.args.id s)

pub returns-in-Ok-put-clause-streams : goal.returns-in-Ok-put-clause-streams
returns-in-Ok-put-clause-streams g c = λ made all s.
    let tells = g.S.TileStore.tells c.args.store.now in
    let now = g.S.TileStore.told c.make_room.new.store in
    subst (λ (h : Held). IsStream tells made now h (insert all (place_of_id c.args.id) (Some c.args.bytes.now)) (c.args.id + 1))
    (sym (c.in-Ok-put.ensures.ok ∙ ap (λ (p : Place). with_tile c.make_room.new.batch.tiles p c.args.bytes.now) (ap place_at c.coord_at.ensures)))
    (stream_put tells made now c.make_room.new.batch.tiles all c.args.id c.args.bytes.now c.requires.shallow (c.in-Ok.ensures.streams made all c.args.id s))

pub returns-in-Err-put-clause-streams : goal.returns-in-Err-put-clause-streams
returns-in-Err-put-clause-streams g c = λ made all s.
    part_put (g.S.TileStore.tells c.args.store.now) made (g.S.TileStore.told c.make_room.new.store) all c.args.id (Some c.args.bytes.now) (omega (arith, c.requires.shallow)) (c.in-Ok.ensures.streams made all c.args.id s).part
