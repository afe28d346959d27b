-- The order of keys is total.
use Rattle.mb_tables.specs.Common.{IsTotalOrder}
use Rattle.std.proofs.lemmas.Cmp.{on_total, lists_total}
use Rattle.mb_tables.specs.CellOrder.{cells_total}
use Rattle.mb_tables.specs.Key.{key_cells, key_cmp}

pub keys_total : IsTotalOrder key_cmp
keys_total = on_total key_cells (lists_total cells_total)
