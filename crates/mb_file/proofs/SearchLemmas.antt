-- The search for a key among the numbers of rows that are in order.
use Rattle.std.proofs.Common.{ap, arith, Bool, cond, false, if◌then◌else◌, inl, inr, is_some, length, List, ltb, nat_le, nat_lt, None, Option, pos, refl, Some, slice_index_or, subst, suc, sym, take, true, zero, [], ℕ, ℤ, ◌&&◌, ◌*◌, ◌+◌, ◌^◌, ◌<◌, ◌≤◌, ◌∙◌, ◌∷◌, ◌≡◌, ◌≢◌, ◌⊎◌}
use Rattle.std.specs.Prelude.{Contains, find}
use Rattle.std.specs.List.{AllWithin}
use Rattle.std.specs.List.Sorted.{IsNonDecreasingBy, IsPermutation}
use Rattle.std.proofs.lemmas.Bool.{cases_Bool, cases_lt}
use Rattle.std.proofs.lemmas.Bool.Decides.{nat_tests}
use Rattle.std.proofs.lemmas.List.Elements.{Contains-get_or}
use Rattle.std.proofs.lemmas.List.Sorted.{Contains-permutation, IsPermutation-sym}
use Rattle.sqlite_btree.specs.Chain.{Layout}
use Rattle.sqlite_btree.specs.Stored.{IsLaidIn, IsTable}
use Rattle.sqlite_disk.specs.declared.Disk.{Ghosts}
use Rattle.sqlite_btree.specs.Cut.{IsIn}
use Rattle.mb_tables.proofs.CellLemmas.{cells_eq-Decides}
use Rattle.mb_tables.specs.Key.{has_key, key_cells}
use Rattle.mb_tables.specs.Table.{key_of}
use Rattle.mb_tables.specs.declared.cell.Cell.{Cell}
use Rattle.mb_tables.specs.declared.cell.Cell.TheVariants.{Int}
use Rattle.mb_tables.specs.declared.key.RowKey.{RowKey}
use Rattle.mb_tables.specs.declared.key.RowKey.TheVariants.{IntId, TextId, Tile}
use Rattle.mb_tables.specs.declared.table.TableName.{TableName}
use Rattle.mb_tables.specs.declared.table.TableName.TheVariants.{Images, Map, Metadata, TileCache, Tiles, TilesData, TilesShallow, TilesWithHash}
use Rattle.mb_file.proofs.CursorLemmas.{Rise}
use Rattle.mb_file.proofs.NumberLemmas.{same_number}
use Rattle.mb_file.proofs.RowLemmas.{placed_set, wide_set}
use Rattle.mb_reading.specs.Rows.{is_placed}
use Rattle.tile_ids.specs.Coord.{Coord, inverted_y}
use Rattle.mb_file.specs.Cursor.{Stored}
use Rattle.mb_file.specs.FilePages.{IsTrusted, pages_of}
use Rattle.mb_file.specs.Listing.{AreApart, IsListed}
use Rattle.mb_file.specs.Noted.{number_at, number_in, numbers_of, with_place}
use Rattle.mb_file.specs.Numbers.{number_of_key, number_of_row, place_number}
use Rattle.mb_file.specs.RowAt.{IsRowAt}
use Rattle.mb_file.specs.SetTable.{if_placed, row_read, set_row, set_rows}
use Rattle.mb_file.specs.declared.columns.Columns.{Columns}
use Rattle.mb_file.specs.declared.listing.Listing.{Listing}
use Rattle.mb_file.specs.declared.numbers.Numbered.{Numbered}
use Rattle.mb_file.specs.declared.pages.FilePages.{FilePages}
use Rattle.mb_file.proofs.KeyLemmas.{finds_none, finds_one, is_numbered, is_set_row, numbers_row, one_rowid}

-- an element whatever stands for one that isn't there
pub same_at : {X : Type 0} (xs : List X) (k : ℕ) (d e : X) → k < length xs → slice_index_or xs k d ≡ slice_index_or xs k e
same_at [] k d e lt = absurd (omega (arith, lt))
same_at (x ∷ xs) zero d e lt = refl
same_at (x ∷ xs) (suc k) d e lt = same_at xs k d e (omega (arith, lt))

not_less : (m n : ℕ) → ltb m n ≡ false → n ≤ m
not_less m n f = grind (arith, nat_tests)

-- from a greater number on no number is this
pub greater_after : (items : List Numbered) (number first at : ℕ) (d₀ : Numbered) → IsNonDecreasingBy (λ (y : Numbered). y.number) items → AllWithin (λ (y : Numbered). ltb y.number number ≡ false) items first (length items)
    → first ≤ at → at < length items → ¬ ((slice_index_or items at d₀).number ≡ number) → (k : ℕ) → at ≤ k → k < length items → (d : Numbered) → (slice_index_or items k d).number ≢ number
greater_after items number first at d₀ rises from behind lt other k after below d is =
    let here : number ≤ (slice_index_or items at d₀).number = not_less (slice_index_or items at d₀).number number (from at d₀ behind lt) in
    let up : (slice_index_or items at d₀).number ≤ (slice_index_or items k d₀).number = rises at k d₀ after below in
    let same : (slice_index_or items k d₀).number ≡ number = ap (λ (y : Numbered). y.number) (same_at items k d₀ d below) ∙ is in
    other (omega (arith, here, up, same))

not_below_itself : (n : ℕ) → ltb n n ≡ true → ⊥
not_below_itself n t = absurd (grind (arith, nat_tests))

-- the row whose number stands at an index doesn't have the key
abbrev pub PassedAt : TableName → Columns → RowKey → List Stored → List Numbered → ℕ → Type 0
PassedAt table columns key rows items k =
    (d : Numbered) (r : Stored) (row : List Cell) → IsIn r rows → r.0 ≡ (slice_index_or items k d).place → set_row table columns r ≡ Some row → has_key table key row ≡ false

-- those from one index on, up to another one
abbrev pub Passes : {D : Type 0} {g : Ghosts D} (early late : FilePages D g) (secret : ℕ) (table : TableName) (listing : Listing) (key : RowKey) (first at : ℕ) → Type 0
Passes early late secret table listing key first at =
    IsTrusted late → (layout : Layout) (rows : List Stored) → IsLaidIn layout (pages_of early) → IsTable early.usable layout listing.of.root rows
    → IsListed layout early.usable (pages_of early) secret table rows listing → (k : ℕ) → first ≤ k → k < at → PassedAt table listing.of.columns key rows listing.scan.numbered.items k

-- a row of the set has no place outside zoom 0 to 30
unplaced : (z c r : ℕ) (more : List Cell) → place_number (pos z) (pos c) (pos r) ≡ None → is_placed Tiles (Int (pos z) ∷ Int (pos c) ∷ Int (pos r) ∷ more) ≡ false
unplaced z c r more none = by (nat_le z 30) (nat_lt c (2 ^ z)) (nat_lt r (2 ^ z)) none
  where
    by : (a b d : Bool) → cond (a && b && d) (Some ((2 ^ z + c) * 1073741824 + r)) None ≡ None
        → is_some {T = Coord} (elim a as (λ x. Option Coord) [ true ↦ (if b && d then Some (record { z = z; x = c; y = inverted_y z r }) else None) | false ↦ None ]) ≡ false
    by true true true none = absurd (let h = none in cc)
    by true true false none = refl
    by true false d none = refl
    by false b d none = refl

three_cells : (z c r : ℕ) (row : List Cell) → place_number (pos z) (pos c) (pos r) ≡ None → take 3 row ≡ key_cells (Tile z c r) → is_placed Tiles row ≡ true → ⊥
three_cells z c r [] none e p = let h = e in cc
three_cells z c r (x ∷ []) none e p = let h = e in cc
three_cells z c r (x ∷ y ∷ []) none e p = let h = e in cc
three_cells z c r (x ∷ y ∷ w ∷ more) none e p =
    let ex : x ≡ Int (pos z) = cc in let ey : y ≡ Int (pos c) = cc in let ew : w ≡ Int (pos r) = cc in
    let t : is_placed Tiles (Int (pos z) ∷ Int (pos c) ∷ Int (pos r) ∷ more) ≡ true =
    subst (λ (q : Cell). is_placed Tiles (Int (pos z) ∷ Int (pos c) ∷ q ∷ more) ≡ true) ew
    (subst (λ (q : Cell). is_placed Tiles (Int (pos z) ∷ q ∷ w ∷ more) ≡ true) ey (subst (λ (q : Cell). is_placed Tiles (q ∷ y ∷ w ∷ more) ≡ true) ex p)) in
    let f = unplaced z c r more none in cc

never_one : (row : List Cell) (a b c : Cell) → take 1 row ≡ a ∷ b ∷ c ∷ [] → ⊥
never_one [] a b c e = let h = e in cc
never_one (x ∷ more) a b c e = let h = e in cc

-- a key without a number is that of no row of the set
pub never_has : (secret : ℕ) (table : TableName) (key : RowKey) (row : List Cell) → number_of_key secret key ≡ None → is_placed table row ≡ true → has_key table key row ≡ true → ⊥
never_has secret table (IntId id) row none placed has = let h = none in cc
never_has secret table (TextId id) row none placed has = let h = none in cc
never_has secret table (Tile z c r) row none placed has = by table placed ((cells_eq-Decides (key_of table row) (key_cells (Tile z c r))).0 has)
  where
    three : take 3 row ≡ key_cells (Tile z c r) → is_placed Tiles row ≡ true → ⊥
    three e p = three_cells z c r row none e p

    by : (table : TableName) → is_placed table row ≡ true → key_of table row ≡ key_cells (Tile z c r) → ⊥
    by Tiles p e = three e p
    by TilesWithHash p e = three e p
    by Map p e = three e p
    by Images p e = never_one row _ _ _ e
    by TilesShallow p e = three e p
    by TilesData p e = never_one row _ _ _ e
    by TileCache p e = three e p
    by Metadata p e = never_one row _ _ _ e

-- so it isn't found
pub never_found : (secret : ℕ) (table : TableName) (columns : Columns) (key : RowKey) (rows : List Stored) → number_of_key secret key ≡ None → find (has_key table key) (set_rows table columns rows) ≡ None
never_found secret table columns key rows none = finds_none table columns (has_key table key) rows no_hit
  where
    no_hit : (r : Stored) (row : List Cell) → IsIn r rows → set_row table columns r ≡ Some row → has_key table key row ≡ false
    no_hit r row among set = elim (cases_Bool (has_key table key row)) [ inr not ↦ not | inl has ↦ absurd (never_has secret table key row none (placed_set table columns r row set) has) ]

module _ (table : TableName) (columns : Columns) (key : RowKey) (rows : List Stored) (rise : Rise rows) (items : List Numbered) where
  -- the row that was read at an index
  module _ (k : ℕ) (place : ℤ) (read : List Cell) (at : (d : Numbered) → (slice_index_or items k d).place ≡ place) (is : IsRowAt table columns rows place read) where
    same_row : (d : Numbered) (r : Stored) (row : List Cell) → IsIn r rows → r.0 ≡ (slice_index_or items k d).place → set_row table columns r ≡ Some row → row ≡ read
    same_row d r row among rowid set =
        let same : r ≡ (place, is.bytes) = one_rowid rows r (place, is.bytes) rise among is.among (rowid ∙ at d) in
        let placed : if_placed table (Some read) ≡ Some row = ap (if_placed table) (sym (ap (row_read table columns) same ∙ is.is)) ∙ set in
        by (is_placed table read) placed
      where
        by : (b : Bool) → cond b (Some read) None ≡ Some row → row ≡ read
        by true e = cc
        by false e = absurd (let h = e in cc)

    -- it doesn't have the key
    pub passed_at : has_key table key read ≡ false → PassedAt table columns key rows items k
    passed_at not = λ d r row among rowid set. ap (has_key table key) (same_row d r row among rowid set) ∙ not

  module _ (secret number : ℕ) (is_number : number_of_key secret key ≡ Some number) (moved : IsPermutation items (numbers_of secret table columns rows)) where
    -- a row with the key is numbered
    numbered_hit : (r : Stored) (row : List Cell) → IsIn r rows → set_row table columns r ≡ Some row → has_key table key row ≡ true → Contains items (record { number = number; place = r.0 })
    numbered_hit r row among set has =
        let own : number_of_row secret row ≡ Some number = same_number secret table key row (wide_set table columns r row set) has ∙ is_number in
        let item : number_at secret table columns r ≡ Some (record { number = number; place = r.0 }) =
        ap (λ (o : Option (List Cell)). with_place r.0 (number_in secret o)) set ∙ ap (λ (o : Option ℕ). with_place r.0 o) own in
        Contains-permutation (numbers_of secret table columns rows) items _ (IsPermutation-sym items (numbers_of secret table columns rows) moved) (is_numbered secret table columns rows r _ among item)

    -- no row has the key, where each index from the first with the number on was passed, or has a greater number
    pub none_has : (first : ℕ) → AllWithin (λ (item : Numbered). ltb item.number number ≡ true) items 0 first
        → ((k : ℕ) → first ≤ k → k < length items → PassedAt table columns key rows items k ⊎ ((d : Numbered) → (slice_index_or items k d).number ≢ number))
        → find (has_key table key) (set_rows table columns rows) ≡ None
    none_has first below each = finds_none table columns (has_key table key) rows no_hit
      where
        no_hit : (r : Stored) (row : List Cell) → IsIn r rows → set_row table columns r ≡ Some row → has_key table key row ≡ false
        no_hit r row among set = elim (cases_Bool (has_key table key row)) [ inr not ↦ not | inl has ↦ absurd (hit has (numbered_hit r row among set has)) ]
          where
            hit : has_key table key row ≡ true → Contains items (record { number = number; place = r.0 }) → ⊥
            hit has (k, lt, at) = by (cases_lt k first)
              where
                item : Numbered
                item = record { number = number; place = r.0 }

                of : PassedAt table columns key rows items k ⊎ ((d : Numbered) → (slice_index_or items k d).number ≢ number) → ⊥
                of (inr other) = other item (ap (λ (i : Numbered). i.number) at)
                of (inl passed) = let f : has_key table key row ≡ false = passed item r row among (ap (λ (i : Numbered). i.place) (sym at)) set in let t = has in cc

                by : (k < first) ⊎ (first ≤ k) → ⊥
                by (inl before) = not_below_itself number (ap (λ (i : Numbered). ltb i.number number) (sym at) ∙ below k item (omega arith) before)
                by (inr after) = of (each k after lt)

  -- a row that was read and has the key is found
  pub one_has : (secret : ℕ) → IsPermutation items (numbers_of secret table columns rows) → AreApart table (set_rows table columns rows) → (k : ℕ) → k < length items → (place : ℤ) (read : List Cell)
      → ((d : Numbered) → (slice_index_or items k d).place ≡ place) → IsRowAt table columns rows place read → has_key table key read ≡ true
      → find (has_key table key) (set_rows table columns rows) ≡ Some read
  one_has secret moved apart k lt place read at is has = by (numbers_row secret table columns rows item (Contains-permutation items (numbers_of secret table columns rows) item moved (Contains-get_or items k item₀ lt)))
    where
      item₀ : Numbered
      item₀ = record { number = 0; place = place }

      item : Numbered
      item = slice_index_or items k item₀

      by : (r : Stored) × IsIn r rows × (number_at secret table columns r ≡ Some item) → find (has_key table key) (set_rows table columns rows) ≡ Some read
      by (r, among, numbered) = found (set_row table columns r) refl numbered
        where
          found : (o : Option (List Cell)) → set_row table columns r ≡ o → with_place r.0 (number_in secret o) ≡ Some item → find (has_key table key) (set_rows table columns rows) ≡ Some read
          found None set n = absurd (let h = n in cc)
          found (Some row) set n =
              let rowid : r.0 ≡ item.place = placed_at (number_of_row secret row) n in
              let same : row ≡ read = same_row k place read at is item₀ r row among rowid set in
              finds_one table key (set_rows table columns rows) read apart (subst (λ (x : List Cell). Contains (set_rows table columns rows) x) same (is_set_row table columns rows r row among set)) has
            where
              placed_at : (o : Option ℕ) → with_place r.0 o ≡ Some item → r.0 ≡ item.place
              placed_at None n = absurd (let h = n in cc)
              placed_at (Some number) n = let one : record { number = number; place = r.0 } ≡ item = cc in ap (λ (i : Numbered). i.place) one
