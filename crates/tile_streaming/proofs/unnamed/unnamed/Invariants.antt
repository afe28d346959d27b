-- the base was only read, and what the tiles so far name is taken out
use Rattle.tile_streaming.proofs.Common.{Bool, list_any, List, not, ReadsOnly, take, true, ℕ, ◌&&◌, ◌≡◌}
use Rattle.mb_edit.specs.Common.{Text}
use Rattle.std.specs.BTreeSet.{contains}
use Rattle.tile_streaming.specs.Collisions.{is_named_at}
use Rattle.tile_streaming.specs.Suspects.{by_bytes, is_among}
use Rattle.tile_streaming.proofs.unnamed.unnamed.Given as goal

abbrev pub invariant-loop-mark : goal.invariant-loop-mark
invariant-loop-mark g l = record {
  kept : ReadsOnly g.S.TileStore.told g.S.TileStore.tells g.S.TileStore.faults g.S.TileStore.steady l.fn.base l.base;
  still : g.S.TileStore.faults l.base ≡ g.S.TileStore.faults l.fn.base;
  left : g.S.TileStore.tells l.fn.base ≡ true → (d : List ℕ) → contains by_bytes l.unnamed d
      ≡ (is_among l.digests d && not (list_any (is_named_at l.rest.layout (g.S.TileStore.told l.fn.base) (Text d)) (take l.mark-index l.rest.marks.items)));
}
