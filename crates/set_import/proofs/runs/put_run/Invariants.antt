-- the tiles so far, and those that are left
use Rattle.set_import.proofs.Common.{Tables, TileSet, true, ◌+◌, ◌≡◌}
use Rattle.mb_store.specs.Kept.{Keeps}
use Rattle.set_import.proofs.StreamLemmas.{RunSoFar}
use Rattle.set_import.specs.Batches.{IsPlain, IsStream}
use Rattle.set_import.proofs.runs.put_run.Given as goal

abbrev pub invariant-loop-left : goal.invariant-loop-left
invariant-loop-left g l = record {
  so_far : (made : Tables) (all : TileSet) → IsStream (g.S.TileStore.tells l.fn.store) made (g.S.TileStore.told l.fn.store) l.fn.batch.tiles all l.fn.entry.tile_id
      → RunSoFar (g.S.TileStore.tells l.fn.store) made (g.S.TileStore.told l.store) l.batch.tiles all l.bytes l.fn.entry.tile_id l.fn.entry.run_length l.id l.left;
  end : l.id + l.left ≡ l.fn.entry.tile_id + l.fn.entry.run_length;
  plain : IsPlain l.batch.tiles;
  described : g.S.TileStore.tells l.fn.store ≡ true → (g.S.TileStore.told l.store).descriptions ≡ (g.S.TileStore.told l.fn.store).descriptions;
  kept : Keeps g.S.TileStore.tells g.S.TileStore.faults g.S.TileStore.steady l.fn.store l.store;
  still : g.S.TileStore.faults l.store ≡ g.S.TileStore.faults l.fn.store;
}

abbrev pub decreases-loop-left : goal.decreases-loop-left
decreases-loop-left g l = l.left
