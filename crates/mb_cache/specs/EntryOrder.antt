-- The order in which entries of a cache are thrown out.
use Rattle.mb_cache.specs.Common.{int_cmp, int_cmp_total, IsTotalOrder, nat_cmp, nat_cmp_total, Ordering, ordering_then}
use Rattle.std.proofs.lemmas.Cmp.{on_total, then_total}
use Rattle.mb_cache.specs.declared.entries.Entry.{Entry}

-- by rising expiry, those without one last, and then by zoom, column and row from the bottom
abbrev pub entry_cmp : Entry → Entry → Ordering
entry_cmp a b = ordering_then (ordering_then (ordering_then (ordering_then (nat_cmp a.group b.group) (int_cmp a.expires b.expires)) (nat_cmp a.zoom b.zoom)) (nat_cmp a.column b.column)) (nat_cmp a.row b.row)

pub entries_total : IsTotalOrder entry_cmp
entries_total =
    then_total (then_total (then_total (then_total
    (on_total (λ (e : Entry). e.group) nat_cmp_total)
    (on_total (λ (e : Entry). e.expires) int_cmp_total))
    (on_total (λ (e : Entry). e.zoom) nat_cmp_total))
    (on_total (λ (e : Entry). e.column) nat_cmp_total))
    (on_total (λ (e : Entry). e.row) nat_cmp_total)
