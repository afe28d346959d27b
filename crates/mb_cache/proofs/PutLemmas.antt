-- A cache agrees with its tables after a row was put.
use Rattle.mb_cache.proofs.Common.{Agrees, All, All-cons, All-filter, All-head, All-nil, ap, Blob, Bool, CacheEntryMeta, Cell, cell_at, Change, Commits, contents_of, Coord, Entry, entry_at, entry_cmp}
use Rattle.mb_cache.proofs.Common.{entry_of, eq_by_cmp, equal_of, Err, false, false≢true, filter, filter_every, filter_passes, has_entry, has_key, IfSome, insert_key, is_at, is_changed, is_keyed}
use Rattle.mb_cache.proofs.Common.{is_replaced, is_some, is_table, IsCacheRow, IsOnBoard, IsSound, IsStrictlySortedBy, List, list_any, meta_row, Metadata, moment_cell, None, not, not-true, Ok}
use Rattle.mb_cache.proofs.Common.{old_entry, OnOk, Option, option_map, option_to_list, Place, place_at, place_cmp, place_in, put_row, refl, remove_key, ReplacesEntry, Result, row_at, row_place}
use Rattle.mb_cache.proofs.Common.{SetsEntry, SetsTile, Some, subst, sym, table_eq, TableDesc, Tables, taken_back, tied, tile_key, TileCache, true, UnixSeconds, UpdatesEntry, ℕ, [], ◌&&◌, ◌||◌, ◌∙◌}
use Rattle.mb_cache.proofs.Common.{◌∷◌, ◌≡◌}
use Rattle.std.specs.Bool.{OnFalse}
use Rattle.mb_cache.proofs.EntryLemmas.{back_again, equal_entries, has-insert_key, other_entry, placed_there, same_entry}
use Rattle.mb_cache.proofs.RowLemmas.{entry_elsewhere, entry_there, entry_under, no_tile, own_key, put_entry, put_good, row_alone}
use Rattle.mb_cache.proofs.SetLemmas.{set_after}
use Rattle.mb_lists.proofs.Places.{places_antisymmetric}
use Rattle.mb_store.proofs.Committed.{all_committed, others_stay}

-- whether an entry is that of a row, if there is one
abbrev of_row : Entry → Option (List Cell) → Bool
of_row e o = list_any (λ row. eq_by_cmp entry_cmp e (entry_of row)) (option_to_list o)

-- at the place of the new entry only the new one is left
at_place : (e new : Entry) (o : Option (List Cell)) → ((eq_by_cmp entry_cmp e new || of_row e o) && not (is_replaced (option_map entry_of o) new e)) ≡ (eq_by_cmp entry_cmp e new || false)
at_place e new None = by (eq_by_cmp entry_cmp e new)
  where
    by : (b : Bool) → ((b || false) && true) ≡ (b || false)
    by true = refl
    by false = refl
at_place e new (Some row) =
    ap (λ b. (eq_by_cmp entry_cmp e new || (eq_by_cmp entry_cmp e (entry_of row) || false)) && not (not (eq_by_cmp entry_cmp (entry_of row) new) && b)) (equal_entries.symm (entry_of row) e)
    ∙ bools (eq_by_cmp entry_cmp e new) (eq_by_cmp entry_cmp e (entry_of row)) (eq_by_cmp entry_cmp (entry_of row) new) (λ h. ap (λ k. eq_by_cmp entry_cmp k new) (sym (same_entry e (entry_of row) h)))
  where
    bools : (x y z : Bool) → (y ≡ true → z ≡ x) → ((x || (y || false)) && not (not z && y)) ≡ (x || false)
    bools true true false h = absurd (false≢true (h refl))
    bools false true true h = absurd (false≢true (sym (h refl)))
    bools true false true h = refl
    bools false false true h = refl
    bools _ _ _ h = refl

-- elsewhere nothing is new, and nothing replaced
elsewhere : (e new : Entry) (o : Option (List Cell)) (has : Bool) → eq_by_cmp entry_cmp e new ≡ false → IfSome o (λ row. eq_by_cmp entry_cmp (entry_of row) e ≡ false) → ((eq_by_cmp entry_cmp e new || has) && not (is_replaced (option_map entry_of o) new e)) ≡ has
elsewhere e new None has far apart = by (eq_by_cmp entry_cmp e new) has far
  where
    by : (x b : Bool) → x ≡ false → ((x || b) && true) ≡ b
    by true b h = absurd (false≢true (sym h))
    by false true h = refl
    by false false h = refl
elsewhere e new (Some row) has far apart = by (eq_by_cmp entry_cmp e new) has (eq_by_cmp entry_cmp (entry_of row) new) (eq_by_cmp entry_cmp (entry_of row) e) far apart
  where
    by : (x b z w : Bool) → x ≡ false → w ≡ false → ((x || b) && not (not z && w)) ≡ b
    by true b z w h k = absurd (false≢true (sym h))
    by false b z true h k = absurd (false≢true (sym k))
    by false true true false h k = refl
    by false true false false h k = refl
    by false false true false h k = refl
    by false false false false h k = refl

-- the row of a place has the entry of the place
module _ (t : Tables) (es : List Entry) (agrees : Agrees t es) (sound : IsSound t) (p : Place) where
  pub found_there : (o : Option (List Cell)) → row_at t p ≡ o → IfSome o (λ r. (row_place r ≡ p) × IsCacheRow r)
  found_there None e = tt
  found_there (Some r) e =
      let kept : filter (has_key TileCache (tile_key p)) (t.rows TileCache) ≡ r ∷ [] = row_alone p (t.rows TileCache) (sound.keys TileCache agrees.keyed) ∙ ap option_to_list e in
      let has : has_key TileCache (tile_key p) r ≡ true = All-head (λ x. has_key TileCache (tile_key p) x ≡ true) r [] (subst (λ rs. All (λ x. has_key TileCache (tile_key p) x ≡ true) rs) kept (filter_passes (has_key TileCache (tile_key p)) (t.rows TileCache))) in
      let fine : IsCacheRow r = All-head IsCacheRow r [] (subst (λ rs. All IsCacheRow rs) kept (All-filter (has_key TileCache (tile_key p)) IsCacheRow (t.rows TileCache) agrees.rows)) in
      (sym (places_antisymmetric p (row_place r) (equal_of (place_cmp p (row_place r)) (sym (own_key p r fine) ∙ has))), fine)

  pub found_entry : (o : Option (List Cell)) → o ≡ row_at t p → option_map (λ row. entry_at p (cell_at 4 row)) o ≡ option_map entry_of (row_at t p)
  found_entry o e = ap (option_map (λ row. entry_at p (cell_at 4 row))) e ∙ by (row_at t p) (found_there (row_at t p) refl)
    where
      by : (o : Option (List Cell)) → IfSome o (λ r. (row_place r ≡ p) × IsCacheRow r) → option_map (λ row. entry_at p (cell_at 4 row)) o ≡ option_map entry_of o
      by None there = refl
      by (Some r) there = ap (λ q. Some (entry_at q (cell_at 4 r))) (sym there.0)

  pub found_contents : (row : List Cell) → Some row ≡ row_at t p → is_some (contents_of (cell_at 6 row)) ≡ true
  found_contents row e = whole (contents_of (cell_at 6 row)) refl
    where
      fine : IsCacheRow row
      fine = (found_there (Some row) (sym e)).1

      whole : (c : Option (Option (List ℕ))) → contents_of (cell_at 6 row) ≡ c → is_some (contents_of (cell_at 6 row)) ≡ true
      whole (Some c) f = ap is_some f
      whole None f = absurd (false≢true (sym (no_tile row (cell_at 6 row) f) ∙ fine.place))

-- what was added is taken back
pub back_as : (added : Bool) (es fs : List Entry) (k : Entry) → added ≡ not (has_entry es k) → fs ≡ insert_key entry_cmp es k → OnFalse added (fs ≡ es) → taken_back added k fs ≡ es
back_as true es fs k new is same = ap (remove_key (is_at (entry_cmp k))) is ∙ back_again es k (not-true (has_entry es k) (sym new))
back_as false es fs k new is same = same

-- what memory has gained and lost by a put
pub replaced : (p : Place) (expires : Option UnixSeconds) (old : Option Entry) (es fs gs : List Entry) → fs ≡ insert_key entry_cmp es (entry_at p (moment_cell expires)) → ((e : Entry) → has_entry gs e ≡ (has_entry fs e && not (is_replaced old (entry_at p (moment_cell expires)) e))) → IsStrictlySortedBy entry_cmp gs → ReplacesEntry p expires old es gs
replaced p expires old es fs gs added left ordered = record {
  members = λ e. left e ∙ (ap (λ ks. has_entry ks e && not (is_replaced old (entry_at p (moment_cell expires)) e)) added ∙ ap (λ b. b && not (is_replaced old (entry_at p (moment_cell expires)) e)) (has-insert_key es (entry_at p (moment_cell expires)) e));
  ordered = ordered;
}

-- the same as the clause of a tile, and as that of times and a tag
pub sets_entry : {E : Type 0} (o : Option Coord) (c : Coord) (m : CacheEntryMeta) (row : Option (List Cell)) (old : Option Entry) (es fs : List Entry) (r : Result (Unit {0}) E) → o ≡ Some c → old ≡ old_entry (place_at c) row → OnOk r (ReplacesEntry (place_at c) m.expires old es fs) → OnOk r (SetsEntry o m es fs)
sets_entry o c m row old es fs (Ok x) at was h = subst (λ (x : Option Coord). SetsEntry x m es fs) (sym at) (row, subst (λ (k : Option Entry). ReplacesEntry (place_at c) m.expires k es fs) was h)
sets_entry o c m row old es fs (Err e) at was h = tt

pub updates_entry : (o : Option Coord) (c : Coord) (m : CacheEntryMeta) (row : List Cell) (old : Option Entry) (es fs : List Entry) → o ≡ Some c → old ≡ old_entry (place_at c) (Some row) → ReplacesEntry (place_at c) m.expires old es fs → UpdatesEntry o m true es fs
updates_entry o c m row old es fs at was h = subst (λ (x : Option Coord). UpdatesEntry x m true es fs) (sym at) (row, subst (λ (k : Option Entry). ReplacesEntry (place_at c) m.expires k es fs) was h)

-- the clause of a put as that of a tile
pub sets : {E : Type 0} (o : Option Coord) (c : Coord) (m : CacheEntryMeta) (t t' u : Tables) (bytes bytes' : List ℕ) (r : Result (Unit {0}) E) → o ≡ Some c → t' ≡ t → bytes' ≡ bytes → OnOk r (Commits (put_row (place_at c) (meta_row (place_at c) m (Blob bytes'))) t' u) → OnOk r (SetsTile o m bytes t u)
sets o c m t t' u bytes bytes' r at told same h =
    subst (λ (x : Option Coord). OnOk r (SetsTile x m bytes t u)) (sym at)
    (subst (λ (x : Tables). OnOk r (Commits (put_row (place_at c) (meta_row (place_at c) m (Blob bytes))) x u)) told
    (subst (λ (b : List ℕ). OnOk r (Commits (put_row (place_at c) (meta_row (place_at c) m (Blob b))) t' u)) same h))

module _ (t u : Tables) (es fs gs : List Entry) (p : Place) (board : IsOnBoard p) (m : CacheEntryMeta) (contents : Cell) (old : Option Entry) (whole : is_some (contents_of contents) ≡ true) (agrees : Agrees t es) (sound : IsSound t) (was : old ≡ option_map entry_of (row_at t p)) (made : Commits (put_row p (meta_row p m contents)) t u) (added : fs ≡ insert_key entry_cmp es (entry_at p (moment_cell m.expires))) (left : (e : Entry) → has_entry gs e ≡ (has_entry fs e && not (is_replaced old (entry_at p (moment_cell m.expires)) e))) (ordered : IsStrictlySortedBy entry_cmp gs) where
  abbrev row : List Cell
  row = meta_row p m contents

  abbrev new : Entry
  new = entry_at p (moment_cell m.expires)

  abbrev before : List (List Cell)
  before = t.rows TileCache

  abbrev after : List (List Cell)
  after = u.rows TileCache

  under : filter (has_key TileCache (tile_key p)) after ≡ row ∷ []
  under = All-head (λ (c : Change). table_eq c.table TileCache ≡ true → filter (has_key TileCache c.key) after ≡ option_to_list c.row) _ [] (made.tables TileCache).changed refl

  others : filter (λ r. not (has_key TileCache (tile_key p) r)) after ≡ filter (λ r. not (has_key TileCache (tile_key p) r)) before
  others = others_stay (put_row p row) TileCache before after (made.tables TileCache) (λ r. not (has_key TileCache (tile_key p) r)) (λ r h. ap (λ b. b || false) (not-true (has_key TileCache (tile_key p) r) h))

  good : All IsCacheRow after
  good = all_committed (put_row p row) TileCache before after (made.tables TileCache) IsCacheRow agrees.rows (All-cons (λ (c : Change). table_eq c.table TileCache ≡ true → IfSome c.row IsCacheRow) _ [] (λ _. put_good p board m contents whole) (All-nil (λ (c : Change). table_eq c.table TileCache ≡ true → IfSome c.row IsCacheRow)))

  -- the old row stands at the place
  old_there : IfSome (row_at t p) (λ r. (row_place r ≡ p) × IsCacheRow r)
  old_there = found_there t es agrees sound p (row_at t p) refl

  kept_entry : (e : Entry) → has_entry gs e ≡ ((eq_by_cmp entry_cmp e new || has_entry es e) && not (is_replaced (option_map entry_of (row_at t p)) new e))
  kept_entry e = left e ∙ (ap (λ ks. has_entry ks e && not (is_replaced old new e)) added ∙ (ap (λ b. b && not (is_replaced old new e)) (has-insert_key es new e) ∙ ap (λ o. (eq_by_cmp entry_cmp e new || has_entry es e) && not (is_replaced o new e)) was))

  member : (e : Entry) (b : Bool) → eq_by_cmp place_cmp p (place_in e) ≡ b → has_entry gs e ≡ list_any (λ r. eq_by_cmp entry_cmp e (entry_of r)) after
  member e true at =
      let f : List Cell → Bool = λ r. eq_by_cmp entry_cmp e (entry_of r) in
      let now : list_any f after ≡ (eq_by_cmp entry_cmp e new || false) = sym (entry_under p e true after at good) ∙ (ap (list_any f) under ∙ ap (λ k. eq_by_cmp entry_cmp e k || false) (put_entry p board m contents)) in
      let then : has_entry es e ≡ of_row e (row_at t p) = agrees.members e ∙ (sym (entry_under p e true before at agrees.rows) ∙ ap (list_any f) (row_alone p before (sound.keys TileCache agrees.keyed))) in
      kept_entry e ∙ (ap (λ b. (eq_by_cmp entry_cmp e new || b) && not (is_replaced (option_map entry_of (row_at t p)) new e)) then ∙ (at_place e new (row_at t p) ∙ sym now))
  member e false at =
      let f : List Cell → Bool = λ r. eq_by_cmp entry_cmp e (entry_of r) in
      let now : list_any f after ≡ list_any f before = sym (entry_elsewhere p e false after at good) ∙ (ap (list_any f) others ∙ entry_elsewhere p e false before at agrees.rows) in
      let far : (q : Place) → q ≡ p → place_in e ≡ q → ⊥ = λ q same here. false≢true (sym at ∙ (ap (eq_by_cmp place_cmp p) (here ∙ same) ∙ tied p)) in
      let apart : eq_by_cmp entry_cmp e new ≡ false = other_entry e new (λ same. far p refl (ap place_in same ∙ placed_there p (moment_cell m.expires))) in
      kept_entry e ∙ (elsewhere e new (row_at t p) (has_entry es e) apart (gone (row_at t p) old_there far) ∙ (agrees.members e ∙ sym now))
    where
      gone : (o : Option (List Cell)) → IfSome o (λ r. (row_place r ≡ p) × IsCacheRow r) → ((q : Place) → q ≡ p → place_in e ≡ q → ⊥) → IfSome o (λ r. eq_by_cmp entry_cmp (entry_of r) e ≡ false)
      gone None there far = tt
      gone (Some r) there far = other_entry (entry_of r) e (λ same. far (row_place r) there.0 (ap place_in (sym same) ∙ entry_there r))

  abbrev never : List Cell → Bool
  never r = not (is_changed (put_row p row) Metadata r)

  -- no name is changed
  names_stay : u.rows Metadata ≡ t.rows Metadata
  names_stay = sym (filter_every never (u.rows Metadata) (λ k d far. refl)) ∙ ((made.tables Metadata).others ∙ filter_every never (t.rows Metadata) (λ k d far. refl))

  pub still_agrees : IsSound u → Agrees u gs
  still_agrees sound_after = record {
    set = set_after t u agrees.set made.descriptions names_stay sound_after (ap (λ (ds : List TableDesc). is_keyed ds TileCache) made.descriptions ∙ agrees.keyed) good;
    table = ap (λ (ds : List TableDesc). is_table ds TileCache) made.descriptions ∙ agrees.table;
    keyed = ap (λ (ds : List TableDesc). is_keyed ds TileCache) made.descriptions ∙ agrees.keyed;
    rows = good;
    members = λ e. member e (eq_by_cmp place_cmp p (place_in e)) refl;
    ordered = ordered;
  }
