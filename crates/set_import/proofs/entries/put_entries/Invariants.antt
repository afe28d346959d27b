use Rattle.pm_reader.specs.Opening.{header_of}
use Rattle.set_import.proofs.Common.{length, true, ◌+◌, ◌≡◌, ◌≤◌}
use Rattle.mb_store.specs.Kept.{Keeps}
use Rattle.pm_reader.specs.Reads.{ReadsOnly}
use Rattle.pm_walk.specs.Collecting.{AllShallow}
use Rattle.set_import.proofs.EntriesLemmas.{EntriesSoFar}
use Rattle.set_import.specs.Batches.{AreThere, IsPlain}
use Rattle.set_import.proofs.entries.put_entries.Given as goal

abbrev pub invariant-loop-entry : goal.invariant-loop-entry
invariant-loop-entry g l = record {
  so_far : EntriesSoFar (g.B.Backend.told l.fn.backend) (header_of l.reader) (g.S.TileStore.tells l.fn.store) (g.S.TileStore.told l.fn.store) (g.S.TileStore.told l.store) l.batch.tiles l.entries l.rest;
  shallow : AllShallow l.rest;
  there : AreThere (g.B.Backend.told l.fn.backend) (header_of l.reader) l.rest;
  plain : IsPlain l.batch.tiles;
  described : g.S.TileStore.tells l.fn.store ≡ true → (g.S.TileStore.told l.store).descriptions ≡ (g.S.TileStore.told l.fn.store).descriptions;
  read_only : ReadsOnly g.B.Backend.told g.B.Backend.versions g.B.Backend.faults g.B.Backend.steady l.fn.backend l.backend;
  kept : Keeps g.S.TileStore.tells g.S.TileStore.faults g.S.TileStore.steady l.fn.store l.store;
  unread : g.B.Backend.faults l.backend ≡ g.B.Backend.faults l.fn.backend;
  still : g.S.TileStore.faults l.store ≡ g.S.TileStore.faults l.fn.store;
  reads : g.B.Backend.reads l.backend + length l.rest ≤ g.B.Backend.reads l.fn.backend + length l.entries;
}

abbrev pub decreases-loop-entry : goal.decreases-loop-entry
decreases-loop-entry g l = length l.rest
