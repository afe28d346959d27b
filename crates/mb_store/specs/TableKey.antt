-- Keys in their tables, and their order.
use Rattle.mb_store.specs.Common.{IsTotalOrder, key_cmp, nat_cmp, nat_cmp_total, Ordering, ordering_then, table_number}
use Rattle.std.proofs.lemmas.Cmp.{on_total, then_total}
use Rattle.mb_tables.specs.KeyOrder.{keys_total}
use Rattle.mb_store.specs.declared.table_key.TableKey.{TableKey}

-- by table and then by key
abbrev pub table_key_cmp : TableKey → TableKey → Ordering
table_key_cmp k l = ordering_then (nat_cmp (table_number k.table) (table_number l.table)) (key_cmp k.key l.key)

pub table_keys_total : IsTotalOrder table_key_cmp
table_keys_total = then_total (on_total (λ (k : TableKey). table_number k.table) nat_cmp_total) (on_total (λ (k : TableKey). k.key) keys_total)
