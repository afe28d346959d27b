use Rattle.mb_load.proofs.Common.{ap, Content, contents_held, List, rows_kept, ℕ, ◌∙◌}
use Rattle.mb_lists.proofs.ContentMap.{contents_are}
use Rattle.mb_load.proofs.TilesOfRows.{cached_of, flat_of, hashed_of, indexed_of, kept_of, named_of}
use Rattle.mb_load.proofs.tiles_of_rows.tiles_of.Goals as goal

pub returns-in_ok-flat-in-Flat-clause-tiles : goal.returns-in_ok-flat-in-Flat-clause-tiles
returns-in_ok-flat-in-Flat-clause-tiles c = flat_of c.args.layout (rows_kept c.args.contents.items.items) c.args.rows.items c.in_ok-flat-in-Flat.flat.contents.items.items c.in_ok-flat-in-Flat.flat.tiles.items c.in-Flat.is c.in_ok-flat-in-Flat.ensures.contents c.in_ok-flat-in-Flat.ensures.tiles c.requires.pass

pub returns-in_ok-flat-in-Flat-clause-indexed : goal.returns-in_ok-flat-in-Flat-clause-indexed
returns-in_ok-flat-in-Flat-clause-indexed c = indexed_of 3 c.args.rows.items c.in_ok-flat-in-Flat.flat.contents.items.items c.in_ok-flat-in-Flat.flat.contents.live c.in_ok-flat-in-Flat.flat.contents.order.items c.in_ok-flat-in-Flat.ensures.contents c.in_ok-flat-in-Flat.ensures.live c.in_ok-flat-in-Flat.ensures.order

pub returns-in_ok-flat-in-Flat-clause-fresh : goal.returns-in_ok-flat-in-Flat-clause-fresh
returns-in_ok-flat-in-Flat-clause-fresh c = kept_of 3 c.args.rows.items c.in_ok-flat-in-Flat.flat.contents.items.items c.in_ok-flat-in-Flat.ensures.contents

pub returns-in_ok-hashed-in-FlatWithHash-clause-tiles : goal.returns-in_ok-hashed-in-FlatWithHash-clause-tiles
returns-in_ok-hashed-in-FlatWithHash-clause-tiles c = hashed_of c.args.layout (rows_kept c.args.contents.items.items) c.args.rows.items c.in_ok-hashed-in-FlatWithHash.hashed.contents.items.items c.in_ok-hashed-in-FlatWithHash.hashed.tiles.items c.in-FlatWithHash.is c.in_ok-hashed-in-FlatWithHash.ensures.contents c.in_ok-hashed-in-FlatWithHash.ensures.tiles c.requires.pass

pub returns-in_ok-hashed-in-FlatWithHash-clause-indexed : goal.returns-in_ok-hashed-in-FlatWithHash-clause-indexed
returns-in_ok-hashed-in-FlatWithHash-clause-indexed c = indexed_of 3 c.args.rows.items c.in_ok-hashed-in-FlatWithHash.hashed.contents.items.items c.in_ok-hashed-in-FlatWithHash.hashed.contents.live c.in_ok-hashed-in-FlatWithHash.hashed.contents.order.items c.in_ok-hashed-in-FlatWithHash.ensures.contents c.in_ok-hashed-in-FlatWithHash.ensures.live c.in_ok-hashed-in-FlatWithHash.ensures.order

pub returns-in_ok-hashed-in-FlatWithHash-clause-fresh : goal.returns-in_ok-hashed-in-FlatWithHash-clause-fresh
returns-in_ok-hashed-in-FlatWithHash-clause-fresh c = kept_of 3 c.args.rows.items c.in_ok-hashed-in-FlatWithHash.hashed.contents.items.items c.in_ok-hashed-in-FlatWithHash.ensures.contents

pub returns-in_ok-cached-in-Cache-clause-tiles : goal.returns-in_ok-cached-in-Cache-clause-tiles
returns-in_ok-cached-in-Cache-clause-tiles c = cached_of c.args.layout (rows_kept c.args.contents.items.items) c.args.rows.items c.in_ok-cached-in-Cache.cached.contents.items.items c.in_ok-cached-in-Cache.cached.tiles.items c.in-Cache.is c.in_ok-cached-in-Cache.ensures.contents c.in_ok-cached-in-Cache.ensures.tiles c.requires.pass

pub returns-in_ok-cached-in-Cache-clause-indexed : goal.returns-in_ok-cached-in-Cache-clause-indexed
returns-in_ok-cached-in-Cache-clause-indexed c = indexed_of 6 c.args.rows.items c.in_ok-cached-in-Cache.cached.contents.items.items c.in_ok-cached-in-Cache.cached.contents.live c.in_ok-cached-in-Cache.cached.contents.order.items c.in_ok-cached-in-Cache.ensures.contents c.in_ok-cached-in-Cache.ensures.live c.in_ok-cached-in-Cache.ensures.order

pub returns-in_ok-cached-in-Cache-clause-fresh : goal.returns-in_ok-cached-in-Cache-clause-fresh
returns-in_ok-cached-in-Cache-clause-fresh c = kept_of 6 c.args.rows.items c.in_ok-cached-in-Cache.cached.contents.items.items c.in_ok-cached-in-Cache.ensures.contents

pub returns-in_ok-named-in-Normalized-clause-tiles : goal.returns-in_ok-named-in-Normalized-clause-tiles
returns-in_ok-named-in-Normalized-clause-tiles c = named_of c.args.layout c.args.contents.items.items c.args.contents.live c.args.contents.order.items c.args.rows.items c.in_ok-named-in-Normalized.named.contents.items.items c.in_ok-named-in-Normalized.named.tiles.items c.in-Normalized.hash_view c.in-Normalized.schema c.requires.indexed c.in-Normalized.is c.in_ok-named-in-Normalized.ensures.contents c.in_ok-named-in-Normalized.ensures.tiles c.requires.pass c.requires.there

pub returns-in_ok-named-in-Normalized-clause-held : goal.returns-in_ok-named-in-Normalized-clause-held
returns-in_ok-named-in-Normalized-clause-held c =
    ap (λ (l : List Content). contents_held l c.in_ok-named-in-Normalized.named.contents.order.items) c.in_ok-named-in-Normalized.ensures.contents
    ∙ (ap (λ (o : List ℕ). contents_held c.args.contents.items.items o) c.in_ok-named-in-Normalized.ensures.order
    ∙ contents_are c.args.contents.items.items c.args.contents.live c.args.contents.order.items c.requires.indexed)
