use Rattle.tile_streaming.proofs.Common.{ap, Coord, find, has_key, place_at, tile_key, tile_table, ◌∙◌}
use Rattle.mb_tables.specs.declared.key.RowKey.{RowKey}
use Rattle.mb_tables.specs.declared.table.TableName.{TableName}
use Rattle.tile_streaming.proofs.KeyLemmas.{coord_is}
use Rattle.tile_streaming.proofs.unnamed.find_tile.Goals as goal

pub returns-clause-answer : goal.returns-clause-answer
returns-clause-answer g c = λ t.
    let told = g.S.TileStore.told c.args.base.now in
    c.in_ok-find.ensures.answer t
    ∙ ap (λ (table : TableName). find (has_key table c.key_at-key.result) (told.rows table)) c.tile_table.ensures
    ∙ ap (λ (key : RowKey). find (has_key (tile_table c.args.layout) key) (told.rows (tile_table c.args.layout))) (c.key_at-key.ensures ∙ ap (λ (x : Coord). tile_key (place_at x)) (coord_is c.args.mark.now.id c.from.result c.from.ensures))
