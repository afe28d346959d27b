use Rattle.mb_store.proofs.Common.{arith}
use Rattle.mb_store.proofs.mem_tables.live_size.Goals as goal

pub returns : goal.returns
returns c = omega (arith, c.with_table-size.ensures, c.with_table-size-2.ensures, c.with_table-size-3.ensures, c.with_table-size-4.ensures, c.with_table-size-5.ensures, c.with_table-size-6.ensures, c.with_table-size-7.ensures, c.with_table.ensures)
