use Rattle.mb_lists.proofs.Common.{always_returns_same, cell_cmp, cells_total, id_at, rules, StoredTile, ◌∙◌}
use Rattle.mb_lists.proofs.Dropped.{found_any}
use Rattle.mb_lists.proofs.dropping.has_id.Goals as goal

pub returns : goal.returns
returns c =
    let facts = c.binary_search_by.ensures in
    let by_id = facts.position (λ (t : StoredTile). cell_cmp (id_at c.args.contents.now t.contents) c.args.id.now) (always_returns_same _ _ _ (λ a r f k. search rules)) in
    c.is_ok.ensures.value ∙ found_any cells_total (λ t. id_at c.args.contents.now t.contents) c.args.tiles.now c.args.id.now c.binary_search_by.result c.requires facts.bound by_id
