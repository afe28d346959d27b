-- What stays of the tables in memory when rows are added.
use Rattle.mb_store.proofs.Common.{All, AllPairs, and_from, and_parts, AreAllStored, arith, Bool, Cell, cells_eq, cells_eq-Decides, clash, false, get_or, insert, is_null, IsKept, key_of, length}
use Rattle.mb_store.proofs.Common.{List, list_any, list_any_at, MemTables, not, refl, rows_at, subst, sym, TableDesc, TableName, true, width, ℕ, ◌&&◌, ◌<◌, ◌^◌, ◌∙◌, ◌≡◌, ◌≤◌}
use Rattle.mb_store.proofs.Ordered.{AllPairs-insert}

-- two rows clash either way round
pub clash_symm : (table : TableName) (r s : List Cell) → clash table r s ≡ true → clash table s r ≡ true
clash_symm table r s h =
    let both = and_parts (cells_eq (key_of table r) (key_of table s)) (not (list_any is_null (key_of table r))) h in
    let same : key_of table r ≡ key_of table s = (cells_eq-Decides (key_of table r) (key_of table s)).0 both.0 in
    let P : List Cell → Type 0 = λ key. (cells_eq key (key_of table r) && not (list_any is_null key)) ≡ true in
    subst P same (and_from (cells_eq (key_of table r) (key_of table r)) (not (list_any is_null (key_of table r))) ((cells_eq-Decides (key_of table r) (key_of table r)).1 refl) both.1)

not_so : (b : Bool) → (b ≡ true → ⊥) → b ≡ false
not_so true h = absurd (h refl)
not_so false h = refl

-- a row that clashes with none can be put at any place
pub apart-insert : (table : TableName) (rows : List (List Cell)) (i : ℕ) (row : List Cell) → i ≤ length rows → (list_any (clash table row) rows ≡ true → ⊥) → AllPairs (λ r s. clash table r s ≡ false) rows → AllPairs (λ r s. clash table r s ≡ false) (insert rows i row)
apart-insert table rows i row within new apart =
    AllPairs-insert rows i row within (λ r s. clash table r s ≡ false) apart
    (λ k d lt. not_so (clash table (get_or rows k d) row) (λ h. new (list_any_at (clash table row) rows k d (omega arith) (clash_symm table (get_or rows k d) row h))))
    (λ k d from lt. not_so (clash table row (get_or rows k d)) (λ h. new (list_any_at (clash table row) rows k d lt h)))

-- tables with the same rows
pub kept_same : (ds : List TableDesc) (m n : MemTables) → ((u : TableName) → rows_at n u ≡ rows_at m u) → AreAllStored n → IsKept ds m → IsKept ds n
kept_same ds m n same stored kept = record {
  sound = record {
    names = kept.sound.names;
    described = λ u none. same u ∙ kept.sound.described u none;
    keys = λ u keyed. subst (AllPairs (λ r s. clash u r s ≡ false)) (sym (same u)) (kept.sound.keys u keyed);
    widths = λ u. subst (All (λ row. length row ≡ width u)) (sym (same u)) (kept.sound.widths u);
    counts = λ u. subst (λ (rows : List (List Cell)). length rows < 2 ^ 64) (sym (same u)) (kept.sound.counts u);
  };
  stored = stored;
}
