-- The entries that expire are those of the rows that do.
use Rattle.mb_cache.proofs.Common.{Agrees, All, All-filter, All-head, All-tail, AllByRecursion, AllPairs, AllPairs-head, AllPairs-tail, and-true, and_from, ap, Bool, Cell, cell_at, cells_eq}
use Rattle.mb_cache.proofs.Common.{cells_eq-Decides, clash, cond, Entry, entry_at, entry_cmp, entry_of, eq_by_cmp, false, false_from_ne_true, false≢true, filter, front, get_or, has_entry, is_expired}
use Rattle.mb_cache.proofs.Common.{is_expired_entry, is_null, IsCacheRow, IsDistinct, IsDistinct-from_sorted, IsSound, key_of, length, length-map, List, list_any, list_any_at, map, not, Null, Place}
use Rattle.mb_cache.proofs.Common.{place_in, refl, row_place, sym, Tables, take_while, take_while-cons, tied, TileCache, true, UnixSeconds, with_rows, without, [], ◌&&◌, ◌++◌, ◌∙◌, ◌∷◌, ◌≡◌}
use Rattle.std.proofs.lemmas.List.Kept.{AllPairs-filter, IsStrictlySortedBy-filter}
use Rattle.std.proofs.lemmas.Map.Made.{length-from_same_keys}
use Rattle.mb_cache.proofs.EntryLemmas.{entry_itself, equal_entries, expired_are, same_entry}
use Rattle.mb_cache.proofs.ListLemmas.{any_filter, filter_same}
use Rattle.mb_cache.proofs.RowLemmas.{entry_there, own_key}
use Rattle.mb_cache.proofs.SeenLemmas.{any_map}
use Rattle.mb_cache.specs.Purging.{expired_rows, without_expired}

-- an entry expires by its cell
by_cell : (now : UnixSeconds) (p : Place) (cell : Cell) → is_expired_entry now (entry_at p cell) ≡ is_expired now cell
by_cell now p Null = refl
by_cell now p _ = refl

by_row : (now : UnixSeconds) (row : List Cell) → is_expired_entry now (entry_of row) ≡ is_expired now (cell_at 4 row)
by_row now row = by_cell now (row_place row) (cell_at 4 row)

-- rows that their index keeps apart have different entries
key_cells_of : (row : List Cell) → IsCacheRow row → key_of TileCache row ≡ front (row_place row)
key_cells_of row good = (cells_eq-Decides (key_of TileCache row) (front (row_place row))).0 (own_key (row_place row) row good ∙ tied (row_place row))

rows_apart : (r s : List Cell) → IsCacheRow r → IsCacheRow s → clash TileCache r s ≡ false → eq_by_cmp entry_cmp (entry_of r) (entry_of s) ≡ false
rows_apart r s first second apart = false_from_ne_true (eq_by_cmp entry_cmp (entry_of r) (entry_of s)) (λ h.
    let place : row_place r ≡ row_place s = sym (entry_there r) ∙ (ap place_in (same_entry (entry_of r) (entry_of s) h) ∙ entry_there s) in
    let key : key_of TileCache r ≡ key_of TileCache s = key_cells_of r first ∙ (ap front place ∙ sym (key_cells_of s second)) in
    let whole : not (list_any is_null (key_of TileCache r)) ≡ true = ap (λ cells. not (list_any is_null cells)) (key_cells_of r first) in
    false≢true (sym apart ∙ and_from (cells_eq (key_of TileCache r) (key_of TileCache s)) (not (list_any is_null (key_of TileCache r))) ((cells_eq-Decides (key_of TileCache r) (key_of TileCache s)).1 key) whole))

entries_distinct : (rows : List (List Cell)) → All IsCacheRow rows → AllPairs (λ r s. clash TileCache r s ≡ false) rows → IsDistinct (eq_by_cmp entry_cmp) (map entry_of rows)
unfolding IsDistinct
entries_distinct [] good apart = tt
entries_distinct (r ∷ rs) good apart = (far rs (All-tail IsCacheRow r rs good) (AllPairs-head (λ r s. clash TileCache r s ≡ false) r rs apart), entries_distinct rs (All-tail IsCacheRow r rs good) (AllPairs-tail (λ r s. clash TileCache r s ≡ false) r rs apart))
  where
    far : (ss : List (List Cell)) → All IsCacheRow ss → All (λ s. clash TileCache r s ≡ false) ss → AllByRecursion (λ e. eq_by_cmp entry_cmp (entry_of r) e ≡ false) (map entry_of ss)
    far [] fine all = tt
    far (s ∷ ss) fine all = (rows_apart r s (All-head IsCacheRow r rs good) (All-head IsCacheRow s ss fine) (All-head (λ s. clash TileCache r s ≡ false) s ss all), far ss (All-tail IsCacheRow s ss fine) (All-tail (λ s. clash TileCache r s ≡ false) s ss all))

module _ (now : UnixSeconds) (t : Tables) (es : List Entry) (agrees : Agrees t es) (sound : IsSound t) where
  abbrev rows : List (List Cell)
  rows = t.rows TileCache

  has_row : All (λ row. has_entry es (entry_of row) ≡ true) rows
  has_row k d far = agrees.members (entry_of (get_or rows k d)) ∙ list_any_at (λ row. eq_by_cmp entry_cmp (entry_of (get_or rows k d)) (entry_of row)) rows k d far (entry_itself (entry_of (get_or rows k d)))

  has_expired : (e : Entry) → has_entry (take_while (is_expired_entry now) es) e ≡ (is_expired_entry now e && has_entry es e)
  has_expired e = ap (λ xs. has_entry xs e) (expired_are now es agrees.ordered) ∙ any_filter (eq_by_cmp entry_cmp e) (is_expired_entry now) (is_expired_entry now e) es (λ k d far h. ap (is_expired_entry now) (sym (same_entry e (get_or es k d) h)))

  left_same : All (λ row. not (has_entry (take_while (is_expired_entry now) es) (entry_of row)) ≡ not (is_expired now (cell_at 4 row))) rows
  left_same k d far = ap not (has_expired (entry_of (get_or rows k d)) ∙ (ap (λ b. is_expired_entry now (entry_of (get_or rows k d)) && b) (has_row k d far) ∙ (and-true (is_expired_entry now (entry_of (get_or rows k d))) ∙ by_row now (get_or rows k d))))

  pub purged_same : without (take_while (is_expired_entry now) es) t ≡ without_expired now t
  purged_same = ap (λ rs. record { descriptions = t.descriptions; rows = with_rows t.rows TileCache rs }) (filter_same (λ row. not (has_entry (take_while (is_expired_entry now) es) (entry_of row))) (λ row. not (is_expired now (cell_at 4 row))) rows left_same)

  pub purged_count : length (take_while (is_expired_entry now) es) ≡ length (expired_rows now t)
  purged_count =
      let gone : List (List Cell) = expired_rows now t in
      ap length (expired_are now es agrees.ordered)
      ∙ (length-from_same_keys equal_entries (filter (is_expired_entry now) es) (map entry_of gone)
      (IsDistinct-from_sorted entry_cmp (filter (is_expired_entry now) es) (IsStrictlySortedBy-filter entry_cmp (is_expired_entry now) es agrees.ordered))
      (entries_distinct gone (All-filter (λ row. is_expired now (cell_at 4 row)) IsCacheRow rows agrees.rows) (AllPairs-filter (λ r s. clash TileCache r s ≡ false) (λ row. is_expired now (cell_at 4 row)) rows (sound.keys TileCache agrees.keyed)))
      (λ e.
      sym (ap (λ xs. has_entry xs e) (expired_are now es agrees.ordered)) ∙ (has_expired e ∙ (ap (λ b. is_expired_entry now e && b) (agrees.members e)
      ∙ (sym (any_filter (λ row. eq_by_cmp entry_cmp e (entry_of row)) (λ row. is_expired now (cell_at 4 row)) (is_expired_entry now e) rows (λ k d far h. sym (by_row now (get_or rows k d)) ∙ ap (is_expired_entry now) (sym (same_entry e (entry_of (get_or rows k d)) h))))
      ∙ sym (any_map (eq_by_cmp entry_cmp e) entry_of gone)))))
      ∙ length-map gone entry_of)

-- one entry more that expires
pub one_expired : (p : Entry → Bool) (so_far pushed rest left all : List Entry) (x : Entry) (b : Bool) → left ≡ x ∷ rest → b ≡ p x → b ≡ true → pushed ≡ so_far ++ x ∷ [] → so_far ++ take_while p left ≡ all → pushed ++ take_while p rest ≡ all
one_expired p so_far pushed rest left all x b next is test push invariant =
    let passes : p x ≡ true = sym is ∙ test in
    let taken : take_while p left ≡ x ∷ take_while p rest = ap (take_while p) next ∙ (take_while-cons p x rest ∙ ap (λ c. cond c (x ∷ take_while p rest) []) passes) in
    ap (λ ys. ys ++ take_while p rest) push ∙ (joined so_far ∙ (ap (λ ys. so_far ++ ys) (sym taken) ∙ invariant))
  where
    joined : (ys : List Entry) → (ys ++ x ∷ []) ++ take_while p rest ≡ ys ++ x ∷ take_while p rest
    joined [] = refl
    joined (y ∷ ys) = ap (λ zs. y ∷ zs) (joined ys)
