use Rattle.mb_lists.proofs.Common.{always_returns_same, is_gone, place_at, place_cmp, place_of, places_total, rules, StoredTile}
use Rattle.mb_lists.proofs.Ordered.{search_found, search_absent}
use Rattle.mb_lists.proofs.Places.{places_antisymmetric}
use Rattle.mb_lists.proofs.tile_list.TileList.search.Goals as goal

pub returns-clause-found : goal.returns-clause-found
returns-clause-found c =
    let facts = c.binary_search_by.ensures in
    let by_place = facts.position (λ (t : StoredTile). place_cmp (place_of t) (place_at c.args.coord)) (always_returns_same _ _ _ (λ a r f k. search rules)) in
    search_found places_total places_antisymmetric place_of is_gone c.args.self.now.live c.args.self.now.items.items (place_at c.args.coord) _ c.requires (rw (← c.deref.ensures.value) facts.bound) (rw (← c.deref.ensures.value) by_place)

pub returns-clause-absent : goal.returns-clause-absent
returns-clause-absent c =
    let facts = c.binary_search_by.ensures in
    let by_place = facts.position (λ (t : StoredTile). place_cmp (place_of t) (place_at c.args.coord)) (always_returns_same _ _ _ (λ a r f k. search rules)) in
    search_absent places_total places_antisymmetric place_of is_gone c.args.self.now.live c.args.self.now.items.items (place_at c.args.coord) _ c.requires (rw (← c.deref.ensures.value) facts.bound) (rw (← c.deref.ensures.value) by_place)
