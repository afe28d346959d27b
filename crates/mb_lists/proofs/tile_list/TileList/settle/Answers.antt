use Rattle.mb_lists.proofs.Common.{answers_always, behind, is_gone, is_lt, not, place_cmp, place_of, places_total, ranks_by, rules, StoredTile}
use Rattle.mb_lists.proofs.Settling.{behind_total, parted, settled_in_order}
use Rattle.mb_lists.proofs.tile_list.TileList.settle.Goals as goal

pub returns-clause-order : goal.returns-clause-order
returns-clause-order c =
    let up = c.sort_unstable_by.ensures.sorted (λ (x y : StoredTile). is_lt (behind place_cmp place_of is_gone x y)) (ranks_by (behind_total places_total place_of is_gone) (λ x. x)) (answers_always _ _ _ (λ f a r g called. search rules)) in
    let facts = c.partition_point.ensures in
    let point = facts.partitioned (λ (t : StoredTile). not (is_gone t)) (answers_always _ _ _ (λ f a r g called. search rules)) in
    settled_in_order places_total place_of is_gone c.args.items.now.items c.sort_unstable_by.new.self.items c.partition_point.result c.requires c.sort_unstable_by.ensures.permutation up (rw (← c.deref.ensures.value) facts.bound)
    (rw (← c.deref.ensures.value) (point (rw c.deref.ensures.value (parted places_total place_of is_gone c.sort_unstable_by.new.self.items up))))
