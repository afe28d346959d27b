use Rattle.tile_streaming.proofs.Common.{sym, ◌∙◌}
use Rattle.tile_streaming.proofs.TableLemmas.{seen_named, seen_none}
use Rattle.tile_streaming.proofs.reading.read_contents.Goals as goal

pub returns-in-Some-clause-seen : goal.returns-in-Some-clause-seen
returns-in-Some-clause-seen g c =
    seen_named c.args.layout c.in-Some.schema _ c.args.algorithm (g.S.TileStore.tells c.args.store.now) (g.S.TileStore.told c.args.store.now) (sym c.normalized_schema.ensures ∙ c.in-Some.is) c.contents.ensures c.read_content_table.result c.read_content_table.ensures.seen

pub returns-in-None-clause-seen : goal.returns-in-None-clause-seen
returns-in-None-clause-seen g c =
    seen_none c.args.layout c.args.algorithm (g.S.TileStore.tells c.args.store.now) (g.S.TileStore.told c.args.store.now) _ (sym c.normalized_schema.ensures ∙ c.in-None.is) (c.none.ensures c.args.layout c.args.algorithm)
