use Rattle.mb_lists.proofs.Common.{answers_always, Apart, dedup_same, eq_by_cmp, is_lt, List, place_cmp, place_of, places_total, ranks_by, rules, StoredTile, subst, sym}
use Rattle.mb_lists.proofs.Newest.{dedup_apart, newest_from, newest_stands}
use Rattle.mb_lists.proofs.Places.{places_antisymmetric}
use Rattle.mb_lists.proofs.tile_list.TileList.newest.Goals as goal

pub settle-live-requires : goal.settle-live-requires
settle-live-requires c =
    let up = c.in_ok-sort_by.ensures.sorted (λ (a b : StoredTile). is_lt (place_cmp (place_of a) (place_of b))) (ranks_by places_total place_of) (answers_always _ _ _ (λ f a r g called. search rules)) in
    let kept = dedup_same _ (λ (a b : StoredTile). eq_by_cmp place_cmp (place_of a) (place_of b)) _ (λ x y b f x' y' called. search rules) c.sort_by.new.self.items c.dedup_by.new.self.items c.dedup_by.ensures.filtered in
    subst (λ (l : List StoredTile). Apart place_cmp place_of l) (sym kept) (dedup_apart places_total place_of c.sort_by.new.self.items up)

pub returns-clause-same : goal.returns-clause-same
returns-clause-same c =
    let up = c.in_ok-sort_by.ensures.sorted (λ (a b : StoredTile). is_lt (place_cmp (place_of a) (place_of b))) (ranks_by places_total place_of) (answers_always _ _ _ (λ f a r g called. search rules)) in
    let stable = c.in_ok-sort_by.ensures.stable (λ (a b : StoredTile). is_lt (place_cmp (place_of a) (place_of b))) (ranks_by places_total place_of) (answers_always _ _ _ (λ f a r g called. search rules)) in
    let kept = dedup_same _ (λ (a b : StoredTile). eq_by_cmp place_cmp (place_of a) (place_of b)) _ (λ x y b f x' y' called. search rules) c.sort_by.new.self.items c.dedup_by.new.self.items c.dedup_by.ensures.filtered in
    newest_stands places_total places_antisymmetric place_of c.args.items.items c.reverse.new.self.items c.sort_by.new.self.items c.dedup_by.new.self.items c.settle-live.new.items.items c.reverse.ensures.items c.sort_by.ensures.permutation stable up kept c.settle-live.ensures.same c.settle-live.ensures.order.apart

pub returns-clause-from : goal.returns-clause-from
returns-clause-from c =
    let kept = dedup_same _ (λ (a b : StoredTile). eq_by_cmp place_cmp (place_of a) (place_of b)) _ (λ x y b f x' y' called. search rules) c.sort_by.new.self.items c.dedup_by.new.self.items c.dedup_by.ensures.filtered in
    newest_from places_total places_antisymmetric place_of c.args.items.items c.reverse.new.self.items c.sort_by.new.self.items c.dedup_by.new.self.items c.settle-live.new.items.items c.reverse.ensures.items c.sort_by.ensures.permutation kept c.settle-live.ensures.same
