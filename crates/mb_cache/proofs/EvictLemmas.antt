-- A cache agrees with its tables after its first entries were thrown out.
use Rattle.mb_cache.proofs.Common.{Agrees, All, All-filter, All-push, All-set, and_left, and_parts, and_right, ap, AreDeletes, arith, Bool, Cell, cells_eq, cells_eq-Decides, Change, Commits, cond}
use Rattle.mb_cache.proofs.Common.{drop, Entry, entry_cmp, entry_of, eq_by_cmp, false, false≢true, filter, filter_every, get_or, has_entry, has_key, is_changed, is_keyed, is_table, IsCacheRow}
use Rattle.mb_cache.proofs.Common.{IsDelete, IsSound, key_cells, key_of, length, List, list_any, list_any-append, list_any_at, list_any_none, Metadata, nat_eq_equiv, None, not, Option, option_to_list}
use Rattle.mb_cache.proofs.Common.{or-false, or_left, place_cmp, place_in, position, refl, row_place, same_key, same_table, set, Some, subst, suc, sym, table_eq, table_number, TableDesc, TableName}
use Rattle.mb_cache.proofs.Common.{Tables, take, take-append-drop, tied, tile_key, TileCache, true, with_change, with_rows, without, zero, ℕ, [], ◌&&◌, ◌++◌, ◌<◌, ◌||◌, ◌∙◌, ◌∷◌, ◌≡◌}
use Rattle.std.proofs.lemmas.List.Quantifiers.{position-Some}
use Rattle.mb_cache.proofs.EntryLemmas.{entry_itself, equal_entries, has-drop, same_entry, sorted_drop}
use Rattle.mb_cache.proofs.ListLemmas.{alone_is, any_filter, any_same, filter_same, none_left}
use Rattle.mb_cache.proofs.RowLemmas.{entry_there, entry_under, one_row, own_key}
use Rattle.mb_cache.proofs.SetLemmas.{set_after}

any_set : {X : Type 0} (p : X → Bool) (xs : List X) (i : ℕ) (y d : X) → p y ≡ p (get_or xs i d) → i < length xs → list_any p (set xs i y) ≡ list_any p xs
any_set p [] i y d h far = absurd (omega arith)
any_set p (x ∷ xs) zero y d h far = ap (λ b. b || list_any p xs) h
any_set p (x ∷ xs) (suc i) y d h far = ap (λ b. p x || b) (any_set p xs i y d h (omega arith))

-- a change more is one key more
module _ (cs : List Change) (c : Change) (row : List Cell) where
  abbrev test : Change → Bool
  test d = table_eq d.table TileCache && has_key TileCache d.key row

  alike : (d : Change) → same_key d c ≡ true → test d ≡ test c
  alike d h =
      let parts = and_parts (table_eq d.table c.table) (cells_eq (key_cells d.key) (key_cells c.key)) h in
      let tables : d.table ≡ c.table = same_table d.table c.table parts.0 in
      let keys : key_cells d.key ≡ key_cells c.key = (cells_eq-Decides (key_cells d.key) (key_cells c.key)).0 parts.1 in
      λ i. table_eq (tables i) TileCache && cells_eq (key_of TileCache row) (keys i)

  one_more : (a b : Bool) → (b ≡ true → a ≡ true) → a ≡ (a || b)
  one_more false true h = h refl
  one_more _ _ h = refl

  pub changed_more : is_changed (with_change cs c) TileCache row ≡ (is_changed cs TileCache row || test c)
  changed_more = by (position (λ d. same_key d c) cs) refl
    where
      by : (o : Option ℕ) → position (λ d. same_key d c) cs ≡ o → list_any test (with_change cs c) ≡ (list_any test cs || test c)
      by (Some i) e =
          let at = position-Some (λ d. same_key d c) cs i c e in
          let same : test (get_or cs i c) ≡ test c = alike (get_or cs i c) at.1 in
          let put : with_change cs c ≡ set cs i c = rw (e) refl in
          ap (list_any test) put ∙ (any_set test cs i c c (sym same) at.0 ∙ one_more (list_any test cs) (test c) (λ h. list_any_at test cs i c at.0 (same ∙ h)))
      by None e =
          let put : with_change cs c ≡ cs ++ c ∷ [] = rw (e) refl in
          ap (list_any test) put ∙ (list_any-append test cs (c ∷ []) ∙ ap (λ b. list_any test cs || b) (or-false (test c)))

  pub deletes_kept : All IsDelete cs → IsDelete c → All IsDelete (with_change cs c)
  deletes_kept all one = by (position (λ d. same_key d c) cs) refl
    where
      by : (o : Option ℕ) → position (λ d. same_key d c) cs ≡ o → All IsDelete (with_change cs c)
      by (Some i) e = let put : with_change cs c ≡ set cs i c = rw (e) refl in subst (λ xs. All IsDelete xs) (sym put) (All-set IsDelete cs i c one all)
      by None e = let put : with_change cs c ≡ cs ++ c ∷ [] = rw (e) refl in subst (λ xs. All IsDelete xs) (sym put) (All-push IsDelete cs c all one)

-- the key of one entry more is deleted
pub deletes_more : (es : List Entry) (e : Entry) (cs : List Change) (c : Change) → c.table ≡ TileCache → c.key ≡ tile_key (place_in e) → c.row ≡ None → AreDeletes es cs → AreDeletes (es ++ e ∷ []) (with_change cs c)
deletes_more es e cs c table key none are = record {
  deletes = deletes_kept cs c [] are.deletes (record { table = table; row = none });
  rows = λ row. changed_more cs c row ∙ (ap (λ b. b || (table_eq c.table TileCache && has_key TileCache c.key row)) (are.rows row) ∙ (one row ∙ sym (list_any-append (λ e. has_key TileCache (tile_key (place_in e)) row) es (e ∷ []))));
}
  where
    one : (row : List Cell) → (list_any (λ e. has_key TileCache (tile_key (place_in e)) row) es || (table_eq c.table TileCache && has_key TileCache c.key row)) ≡ (list_any (λ e. has_key TileCache (tile_key (place_in e)) row) es || (has_key TileCache (tile_key (place_in e)) row || false))
    one row = ap (λ b. list_any (λ e. has_key TileCache (tile_key (place_in e)) row) es || b) (ap (λ x. table_eq x TileCache && has_key TileCache c.key row) table ∙ (ap (λ k. has_key TileCache k row) key ∙ sym (or-false (has_key TileCache (tile_key (place_in e)) row))))

-- an entry of a cache has a row, so that another row at its place is that row
module _ (t : Tables) (es : List Entry) (agrees : Agrees t es) (sound : IsSound t) where
  abbrev rows : List (List Cell)
  rows = t.rows TileCache

  pub of_entry : (k : ℕ) (d : List Cell) → k < length rows → (e : Entry) → has_entry es e ≡ true → has_key TileCache (tile_key (place_in e)) (get_or rows k d) ≡ eq_by_cmp entry_cmp (entry_of (get_or rows k d)) e
  of_entry k d far e there = by (has_key TileCache (tile_key (place_in e)) row) refl (eq_by_cmp entry_cmp (entry_of row) e) refl
    where
      row : List Cell
      row = get_or rows k d

      good : IsCacheRow row
      good = agrees.rows k d far

      by : (a : Bool) → has_key TileCache (tile_key (place_in e)) row ≡ a → (b : Bool) → eq_by_cmp entry_cmp (entry_of row) e ≡ b → has_key TileCache (tile_key (place_in e)) row ≡ eq_by_cmp entry_cmp (entry_of row) e
      by true f true g = f ∙ sym g
      by false f false g = f ∙ sym g
      by false f true g =
          let place : row_place row ≡ place_in e = sym (entry_there row) ∙ ap place_in (same_entry (entry_of row) e g) in
          absurd (false≢true (sym f ∙ (own_key (place_in e) row good ∙ (ap (eq_by_cmp place_cmp (place_in e)) place ∙ tied (place_in e)))))
      by true f false g =
          let only : filter (has_key TileCache (tile_key (place_in e))) rows ≡ row ∷ [] = alone_is (has_key TileCache (tile_key (place_in e))) rows k d far f (one_row (place_in e) rows (sound.keys TileCache agrees.keyed)) in
          let is : (eq_by_cmp entry_cmp e (entry_of row) || false) ≡ true = sym (ap (list_any (λ r. eq_by_cmp entry_cmp e (entry_of r))) only) ∙ (entry_under (place_in e) e true rows (tied (place_in e)) agrees.rows ∙ (sym (agrees.members e) ∙ there)) in
          absurd (false≢true (sym (equal_entries.symm e (entry_of row) ∙ g) ∙ or_only (eq_by_cmp entry_cmp e (entry_of row)) is))
        where
          or_only : (b : Bool) → (b || false) ≡ true → b ≡ true
          or_only true h = refl
          or_only false h = h

module _ (t u : Tables) (es : List Entry) (n : ℕ) (changes : List Change) (agrees : Agrees t es) (sound : IsSound t) (are : AreDeletes (take n es) changes) (made : Commits changes t u) where
  abbrev gone : List Entry
  gone = take n es

  abbrev before : List (List Cell)
  before = t.rows TileCache

  abbrev after : List (List Cell)
  after = u.rows TileCache

  of_change : (c : Change) (k : ℕ) (d : List Cell) → k < length after → IsDelete c → (table_eq c.table TileCache ≡ true → filter (has_key TileCache c.key) after ≡ option_to_list c.row) → (table_eq c.table TileCache && has_key TileCache c.key (get_or after k d)) ≡ false
  of_change c k d far delete changed =
      let none : filter (has_key TileCache c.key) after ≡ [] = changed (ap (λ x. table_eq x TileCache) delete.table) ∙ ap option_to_list delete.row in
      and_right (table_eq c.table TileCache) (has_key TileCache c.key (get_or after k d)) (none_left (has_key TileCache c.key) after none k d far)

  -- no row that is left has the key of a change
  none_changed : All (λ row. not (is_changed changes TileCache row) ≡ true) after
  none_changed k d far = ap not (list_any_none (λ c. table_eq c.table TileCache && has_key TileCache c.key (get_or after k d)) changes (λ j e lt. of_change (get_or changes j e) k d far (are.deletes j e lt) ((made.tables TileCache).changed j e lt)))

  rows_unchanged : after ≡ filter (λ row. not (is_changed changes TileCache row)) before
  rows_unchanged = sym (filter_every (λ row. not (is_changed changes TileCache row)) after none_changed) ∙ (made.tables TileCache).others

  each : All (λ row. not (is_changed changes TileCache row) ≡ not (has_entry gone (entry_of row))) before
  each k d far = ap not (are.rows (get_or before k d) ∙ any_same (λ e. has_key TileCache (tile_key (place_in e)) (get_or before k d)) (eq_by_cmp entry_cmp (entry_of (get_or before k d))) gone (λ j e lt. of_entry t es agrees sound k d far (get_or gone j e) (within (get_or gone j e) (list_any_at (eq_by_cmp entry_cmp (get_or gone j e)) gone j e lt (entry_itself (get_or gone j e))))))
    where
      within : (e : Entry) → has_entry gone e ≡ true → has_entry es e ≡ true
      within e h = sym (ap (λ xs. has_entry xs e) (take-append-drop n es)) ∙ (list_any-append (eq_by_cmp entry_cmp e) gone (drop n es) ∙ or_left (has_entry gone e) (has_entry (drop n es) e) h)

  rows_left : after ≡ filter (λ row. not (has_entry gone (entry_of row))) before
  rows_left = rows_unchanged ∙ filter_same (λ row. not (is_changed changes TileCache row)) (λ row. not (has_entry gone (entry_of row))) before each

  -- tables that no change is of stay
  others : (table : TableName) → table_eq TileCache table ≡ false → u.rows table ≡ t.rows table
  others table apart =
      let p : List Cell → Bool = λ row. not (is_changed changes table row) in
      let never : (row : List Cell) → p row ≡ true = λ row. ap not (list_any_none (λ c. table_eq c.table table && has_key table c.key row) changes (λ j e lt. and_left (table_eq (get_or changes j e).table table) (has_key table (get_or changes j e).key row) (ap (λ x. table_eq x table) (are.deletes j e lt).table ∙ apart))) in
      sym (filter_every p (u.rows table) (λ k d far. never (get_or (u.rows table) k d))) ∙ ((made.tables table).others ∙ filter_every p (t.rows table) (λ k d far. never (get_or (t.rows table) k d)))

  each_table : (table : TableName) → u.rows table ≡ with_rows t.rows TileCache (filter (λ row. not (has_entry gone (entry_of row))) before) table
  each_table table = by (table_eq table TileCache) refl
    where
      turned : table_eq TileCache table ≡ table_eq table TileCache
      turned = nat_eq_equiv.symm (table_number TileCache) (table_number table)

      by : (b : Bool) → table_eq table TileCache ≡ b → u.rows table ≡ cond (table_eq table TileCache) (filter (λ row. not (has_entry gone (entry_of row))) before) (t.rows table)
      by true e = ap u.rows (same_table table TileCache e) ∙ (rows_left ∙ sym (ap (λ b. cond b (filter (λ row. not (has_entry gone (entry_of row))) before) (t.rows table)) e))
      by false e = others table (turned ∙ e) ∙ sym (ap (λ b. cond b (filter (λ row. not (has_entry gone (entry_of row))) before) (t.rows table)) e)

  pub evicted : u ≡ without gone t
  evicted = λ i. record { descriptions = made.descriptions i; rows = λ table. each_table table i }

  pub agrees_after : IsSound u → Agrees u (drop n es)
  agrees_after sound_after = record {
    set = set_after t u agrees.set made.descriptions (others Metadata refl) sound_after (ap (λ (ds : List TableDesc). is_keyed ds TileCache) made.descriptions ∙ agrees.keyed) (subst (λ rows. All IsCacheRow rows) (sym rows_left) (All-filter (λ row. not (has_entry gone (entry_of row))) IsCacheRow before agrees.rows));
    table = ap (λ (ds : List TableDesc). is_table ds TileCache) made.descriptions ∙ agrees.table;
    keyed = ap (λ (ds : List TableDesc). is_keyed ds TileCache) made.descriptions ∙ agrees.keyed;
    rows = subst (λ rows. All IsCacheRow rows) (sym rows_left) (All-filter (λ row. not (has_entry gone (entry_of row))) IsCacheRow before agrees.rows);
    members = λ e. has-drop n es e agrees.ordered ∙ (ap (λ b. not (has_entry gone e) && b) (agrees.members e) ∙ sym (ap (list_any (λ row. eq_by_cmp entry_cmp e (entry_of row))) rows_left ∙ any_filter (λ row. eq_by_cmp entry_cmp e (entry_of row)) (λ row. not (has_entry gone (entry_of row))) (not (has_entry gone e)) before (λ k d far h. ap (λ x. not (has_entry gone x)) (sym (same_entry e (entry_of (get_or before k d)) h)))));
    ordered = sorted_drop n es agrees.ordered;
  }
