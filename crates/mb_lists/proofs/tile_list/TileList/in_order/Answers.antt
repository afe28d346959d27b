use Rattle.mb_lists.proofs.Common.{answers_always, AreInOrder, false, get_or, is_gone, is_lt, length, place_cmp, place_of, places_total, ranks_by, rules, StoredTile, subst, sym, ℕ, ◌+◌, ◌<◌, ◌≡◌}
use Rattle.mb_lists.proofs.Places.{places_antisymmetric}
use Rattle.mb_lists.proofs.Sorting.{not_rising, sorted_in_order}
use Rattle.mb_lists.proofs.tile_list.TileList.in_order.Goals as goal

pub returns-clause-order : goal.returns-clause-order
returns-clause-order c =
    let rises = c.if-not-is_sorted_by.ensures.cases (λ (a b : StoredTile). is_lt (place_cmp (place_of a) (place_of b))) (answers_always _ _ _ (λ f a r g called. search rules)) in
    let same : c.len-live.result ≡ length c.sort_unstable_by.new.self.items = search rules in
    subst (λ n. AreInOrder n c.sort_unstable_by.new.self.items) (sym same)
    (sorted_in_order places_total places_antisymmetric place_of is_gone c.args.items.items c.sort_unstable_by.new.self.items c.sort_unstable_by.ensures.permutation c.requires (rw (← c.deref.ensures.value) rises))

pub returns-then-not-is_sorted_by-clause-twice : goal.returns-then-not-is_sorted_by-clause-twice
returns-then-not-is_sorted_by-clause-twice c =
    let falls = c.if-not-is_sorted_by.ensures.cases (λ (a b : StoredTile). is_lt (place_cmp (place_of a) (place_of b))) (answers_always _ _ _ (λ f a r g called. search rules)) in
    let up = c.sort_unstable_by.ensures.sorted (λ (a b : StoredTile). is_lt (place_cmp (place_of a) (place_of b))) (ranks_by places_total place_of) (answers_always _ _ _ (λ f a r g called. search rules)) in
    let here : (k : ℕ) × (k + 1 < length c.sort_unstable_by.new.self.items) × ((d : StoredTile) → false ≡ is_lt (place_cmp (place_of (get_or c.sort_unstable_by.new.self.items k d)) (place_of (get_or c.sort_unstable_by.new.self.items (k + 1) d)))) = rw (← c.deref.ensures.value) falls in
    not_rising places_total place_of c.args.items.items c.sort_unstable_by.new.self.items c.sort_unstable_by.ensures.permutation up here.0 here.1 here.2
