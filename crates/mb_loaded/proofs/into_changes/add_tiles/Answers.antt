use Rattle.mb_loaded.proofs.Common.{ap, arith, filter_map, IsTile, length, refl, subst, sym, take_all, tile_change, ◌∙◌}
use Rattle.mb_loaded.proofs.TakenLemmas.{all_taken, spent_next, still_there, tile_still, tile_taken}
use Rattle.mb_loaded.proofs.into_changes.add_tiles.Goals as goal

pub add_tile-requires : goal.add_tile-requires
add_tile-requires c =
    let tiles = c.args.tiles.items in
    let first = c.args.contents.now.items in
    let now = c.loop-tile.contents.items in
    let i = c.loop-tile.index in
    let t = c.in-Some.tile in
    let p = tile_taken tiles c.loop-tile.left.items c.next_tile.new.tiles.items i t c.loop-tile.invariant.left c.in-Some.ensures.first in
    λ put. tile_still first now t (still_there tiles first now c.args.last.now i t p.0 p.1 c.requires.last c.loop-tile.invariant.unspent put) (subst (IsTile first) (sym p.1) (c.requires.whole i t p.0))

pub loop-tile-preserved : goal.loop-tile-preserved
loop-tile-preserved c =
    let first = c.args.contents.now.items in
    let t = c.in-Some.tile in
    let n = spent_next c.args.layout c.args.algorithm first c.loop-tile.contents.items c.add_tile.new.contents.items c.args.tiles.items c.loop-tile.left.items c.next_tile.new.tiles.items c.args.last.now c.loop-tile.index t c.is_last-ends.result c.loop-tile.changes c.add_tile.new.changes
    c.requires.apart c.requires.last c.loop-tile.invariant.left c.in-Some.ensures.first c.loop-tile.invariant.changes c.loop-tile.invariant.unspent c.in_ok-add_tile.ensures.change c.is_last-ends.ensures c.in_ok-add_tile.ensures.spent in
    record { left = n.0; within = n.1; changes = n.2; unspent = c.drop_spent.ensures first n.3 }

pub loop-tile-preserved-in_ok-add_tile : goal.loop-tile-preserved-in_ok-add_tile
loop-tile-preserved-in_ok-add_tile c =
    let first = c.args.contents.now.items in
    let t = c.in-Some.tile in
    let n = spent_next c.args.layout c.args.algorithm first c.loop-tile.contents.items c.add_tile.new.contents.items c.args.tiles.items c.loop-tile.left.items c.next_tile.new.tiles.items c.args.last.now c.loop-tile.index t c.is_last-ends.result c.loop-tile.changes c.add_tile.new.changes
    c.requires.apart c.requires.last c.loop-tile.invariant.left c.in-Some.ensures.first c.loop-tile.invariant.changes c.loop-tile.invariant.unspent c.in_ok-add_tile.ensures.change c.is_last-ends.ensures c.in_ok-add_tile.ensures.spent in
    record { left = n.0; within = n.1; changes = n.2; unspent = c.drop_spent.ensures first n.3 }

pub loop-tile-smaller : goal.loop-tile-smaller
loop-tile-smaller c = omega (arith, ap length c.in-Some.ensures.first)

pub returns-clause-changes : goal.returns-clause-changes
returns-clause-changes c =
    let tiles = c.args.tiles.items in
    let i = c.loop-tile.index in
    let past = all_taken tiles c.loop-tile.left.items c.next_tile.new.tiles.items i c.loop-tile.invariant.left c.in_default.ensures.first (c.in_default.ensures.none refl) in
    c.loop-tile.invariant.changes ∙ ap (filter_map (tile_change c.args.layout c.args.algorithm c.args.contents.now.items)) (take_all i tiles past)

pub returns-clause-left : goal.returns-clause-left
returns-clause-left c = c.loop-tile.invariant.unspent.named
