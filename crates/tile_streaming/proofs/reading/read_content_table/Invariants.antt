-- the store was only read, and the rows of the pages so far were seen
use Rattle.tile_streaming.proofs.Common.{ReadsOnly, SeesContents, SeesTold, take, ◌*◌, ◌≡◌}
use Rattle.tile_streaming.proofs.reading.read_content_table.Given as goal

abbrev pub invariant-loop-page : goal.invariant-loop-page
invariant-loop-page g l = record {
  kept : ReadsOnly g.S.TileStore.told g.S.TileStore.tells g.S.TileStore.faults g.S.TileStore.steady l.fn.store l.store;
  still : g.S.TileStore.faults l.store ≡ g.S.TileStore.faults l.fn.store;
  seen : SeesTold (SeesContents l.layout l.algorithm) (g.S.TileStore.tells l.fn.store) (take (l.page * 512) ((g.S.TileStore.told l.fn.store).rows l.table)) l.seen;
}
