-- the store was only read, and the rows of the pages so far were seen
use Rattle.tile_streaming.proofs.Common.{AreFindings, Cell, Knows, List, ReadsOnly, SeesRows, SeesTold, take, tile_table, [], ◌*◌, ◌≡◌}
use Rattle.tile_streaming.proofs.reading.read_rows.Given as goal

abbrev pub invariant-loop-page : goal.invariant-loop-page
invariant-loop-page g l = record {
  kept : ReadsOnly g.S.TileStore.told g.S.TileStore.tells g.S.TileStore.faults g.S.TileStore.steady l.fn.store l.store;
  still : g.S.TileStore.faults l.store ≡ g.S.TileStore.faults l.fn.store;
  seen : (contents : List (List Cell)) → Knows contents l.known → AreFindings l.layout l.algorithm contents [] l.fn.findings → SeesTold (SeesRows l.layout l.algorithm contents) (g.S.TileStore.tells l.fn.store) (take (l.page * 512) ((g.S.TileStore.told l.fn.store).rows (tile_table l.layout))) l.seen;
}
