-- The order of the numbers of rows.
use Rattle.std.proofs.Common.{ap, append-nil, arith, false, Global, inl, inr, is_lt, List, nat_lt, None, Option, Ordering, slice_index_or, subst, subst₂, sym, true, Vec, [], ℕ, ℤ, ◌+◌, ◌++◌, ◌<◌, ◌≤◌, ◌∙◌, ◌≡◌, ◌⊎◌}
use Rattle.std.specs.List.Sorted.{IsNonDecreasingBy, IsPermutation, IsSorted}
use Rattle.std.specs.Ordering.{nat_cmp, ordering_then}
use Rattle.std.proofs.lemmas.Bool.{cases_lt}
use Rattle.std.proofs.lemmas.Bool.Decides.{nat_tests}
use Rattle.std.proofs.lemmas.List.Sorted.{IsNonDecreasingBy-from_all_adjacent, IsPermutation-append_left, IsPermutation-sym, IsPermutation-trans}
use Rattle.sqlite_btree.specs.Chain.{Layout}
use Rattle.sqlite_btree.specs.Stored.{IsLaidIn, IsTable}
use Rattle.sqlite_disk.specs.declared.Disk.{Ghosts}
use Rattle.sqlite_pages.specs.PageMap.{PageMap}
use Rattle.mb_tables.specs.declared.cell.Cell.{Cell}
use Rattle.mb_tables.specs.declared.table.TableName.{TableName}
use Rattle.mb_file.proofs.NotedLemmas.{no_numbers}
use Rattle.mb_file.specs.Cursor.{rows_from, Stored}
use Rattle.mb_file.specs.FilePages.{GoesOn, IsTrusted, pages_of}
use Rattle.mb_file.specs.Listing.{InOrder, IsListed, Lists}
use Rattle.mb_file.specs.Noted.{IsNoted, IsNotedAs, numbers_of}
use Rattle.mb_file.specs.SetTable.{set_rows}
use Rattle.mb_file.specs.declared.columns.Columns.{Columns}
use Rattle.mb_file.specs.declared.listing.Listing.{Listing}
use Rattle.mb_file.specs.declared.numbers.Numbered.{Numbered}
use Rattle.mb_file.specs.declared.pages.FilePages.{FilePages}
use Rattle.mb_file.specs.declared.scan.Scan.{Scan}
use Rattle.mb_file.specs.declared.set_table.SetTable.{SetTable}

-- a call after all rows were read leaves the order as it was
pub in_order_still : (old new : Scan) → InOrder old → (old.unseen ≡ None → IsNotedAs old new) → InOrder new
in_order_still old new order still =
    let same = still order.ended in
    record {
      ended = same.unseen ∙ order.ended;
      rises = subst (λ (items : List Numbered). IsNonDecreasingBy (λ (item : Numbered). item.number) items) (sym same.numbers) order.rises;
    }

-- a list that is sorted by an order that looks at the numbers first
pub rises_sorted : (cmp : Numbered → Numbered → Ordering) → ((a b : Numbered) → is_lt (cmp b a) ≡ false → a.number ≤ b.number) → (items : List Numbered) → IsSorted cmp items
    → IsNonDecreasingBy (λ (item : Numbered). item.number) items
rises_sorted cmp numbers items sorted =
    IsNonDecreasingBy-from_all_adjacent (λ (item : Numbered). item.number) items (λ k d below. numbers (slice_index_or items k d) (slice_index_or items (k + 1) d) (sorted k d (omega arith) below))

-- two numbers by the order that looks at them first
pub number_first : (m n : ℕ) (o : Ordering) → is_lt (ordering_then (nat_cmp n m) o) ≡ false → m ≤ n
number_first m n o is = by (cases_lt n m)
  where
    by : (n < m) ⊎ (m ≤ n) → m ≤ n
    by (inr le) = le
    by (inl lt) = absurd (let t : nat_lt n m ≡ true = grind (arith, nat_tests) in let e = rw t at is in cc)

module _ (layout : Layout) (usable : ℕ) (pages : PageMap) (secret : ℕ) (table : TableName) (rows : List Stored) where
  -- what is listed once the numbers are put in order
  pub in_order : (old : Listing) (numbered : Vec Numbered Global) → old.scan.unseen ≡ None → IsPermutation old.scan.numbered.items numbered.items → IsNonDecreasingBy (λ (item : Numbered). item.number) numbered.items
      → IsListed layout usable pages secret table rows old
      → IsListed layout usable pages secret table rows (record old { scan = record old.scan { numbered = numbered }; is_sorted = true })
  in_order old numbered ended moved rises listed =
      let rest : List Numbered = numbers_of secret table old.of.columns (rows_from old.scan.unseen rows) in
      record {
        stands = record { among = listed.stands.among; few = listed.stands.few; within = listed.stands.within; left = listed.stands.left; behind = listed.stands.behind };
        notes = record {
          numbers = IsPermutation-trans (numbered.items ++ rest) (old.scan.numbered.items ++ rest) (numbers_of secret table old.of.columns rows)
              (IsPermutation-append_left rest numbered.items old.scan.numbered.items (IsPermutation-sym old.scan.numbered.items numbered.items moved)) listed.notes.numbers;
          count = listed.notes.count;
          size = listed.notes.size;
          fits = listed.notes.fits;
        };
        rowids = listed.rowids;
        sorted = λ is. record { ended = ended; rises = rises };
      }

-- once all rows were read their numbers are those of all rows
pub all_numbers : (secret : ℕ) (table : TableName) (columns : Columns) (rows : List Stored) (scan : Scan) → IsNoted secret table columns rows scan → scan.unseen ≡ None
    → IsPermutation scan.numbered.items (numbers_of secret table columns rows)
all_numbers secret table columns rows scan notes ended =
    let none : numbers_of secret table columns (rows_from scan.unseen rows) ≡ [] = ap (λ (o : Option ℤ). numbers_of secret table columns (rows_from o rows)) ended ∙ no_numbers secret table columns in
    subst (λ (xs : List Numbered). IsPermutation xs (numbers_of secret table columns rows)) (ap (λ (xs : List Numbered). scan.numbered.items ++ xs) none ∙ append-nil scan.numbered.items) notes.numbers

-- what a call on a table does behind an earlier one
pub looked_up : {D : Type 0} {g : Ghosts D} (early mid late : FilePages D g) (secret given : ℕ) (table : TableName) (of : SetTable) (new : Listing) (P : List (List Cell) → Type 0)
    → given ≡ secret → pages_of mid ≡ pages_of early → GoesOn early mid → new.of ≡ of → Lists mid late given table new (λ Listed all. new.is_sorted ≡ true → P all) → IsTrusted late
    → (layout : Layout) (rows : List Stored) → IsLaidIn layout (pages_of early) → IsTable early.usable layout of.root rows → IsListed layout early.usable (pages_of early) secret table rows new
    → new.is_sorted ≡ true → P (set_rows table of.columns rows)
looked_up early mid late secret given table of new P as_given same kept is_of lists trusted layout rows laid stored listed sorted =
    let own = subst (λ (s : ℕ). IsListed layout early.usable (pages_of early) s table rows new) (sym as_given) listed in
    let here = subst₂ (λ (u : ℕ) (p : PageMap). IsListed layout u p given table rows new) (sym kept.same_size) (sym same) own in
    let root : new.of.root ≡ of.root = ap (λ (t : SetTable). t.root) is_of in
    subst (λ (t : SetTable). P (set_rows table t.columns rows)) is_of
    (lists trusted layout rows (subst (IsLaidIn layout) (sym same) laid) (subst₂ (λ (u : ℕ) (r : ℕ). IsTable u layout r rows) (sym kept.same_size) (sym root) stored) here sorted)
