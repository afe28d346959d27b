-- the contents so far, and those that are left
use Rattle.tile_streaming.proofs.Common.{Content, hollow_content, map, mark_of_cell, ◌++◌, ◌≡◌}
use Rattle.std.specs.Vec.Iter.{into_iter_items}
use Rattle.tile_streaming.proofs.contents.SeenContents.add_all.Given as goal

abbrev pub invariant-loop-content : goal.invariant-loop-content
invariant-loop-content l =
    (l.self.findings ≡ l.fn.self.findings)
    × (l.self.items.items ++ map hollow_content (into_iter_items l.content-iterator) ≡ l.fn.self.items.items ++ map hollow_content l.fn.contents.items)
    × (l.self.marks.items ++ map (λ (c : Content). mark_of_cell c.cell) (into_iter_items l.content-iterator) ≡ l.fn.self.marks.items ++ map (λ (c : Content). mark_of_cell c.cell) l.fn.contents.items)
