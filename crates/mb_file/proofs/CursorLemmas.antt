-- The rows that a cursor has left, from call to call.
use Rattle.std.proofs.Common.{◌≡◌, ◌+ℤ◌, ◌∙◌, ◌∷◌, ◌++◌, [], ap, false, inl, inr, int_cmp, int_lt, is_lt, List, map, negsuc, None, of_z, Option, pos, refl, SFits, Some, subst, sym, to_z, true, w64, ℕ, ℤ, arith}
use Rattle.std.specs.Prelude.{SomeIff}
use Rattle.std.proofs.lemmas.Bool.{cases_Bool}
use Rattle.std.proofs.lemmas.Int.{ints, to_z-of_z}
use Rattle.sqlite_btree.proofs.ViewLemmas.{rowid_fits}
use Rattle.sqlite_btree.specs.Batch.{IsBatchOf, IsFilled, left_in, taken, TookFirst}
use Rattle.sqlite_btree.specs.Chain.{Entry, Layout}
use Rattle.sqlite_btree.specs.Cut.{Ascends, Each, from_cut}
use Rattle.sqlite_btree.specs.Stored.{as_row, by_rowid, IsTable}
use Rattle.sqlite_btree.specs.declared.batch.Batch.{Batch}
use Rattle.sqlite_pages.specs.PageMap.{PageMap}
use Rattle.mb_file.specs.Cursor.{IsAmong, left_of, row_of, rows_from, Stored}
use Rattle.mb_file.specs.declared.cursor.Cursor.{Cursor}

-- rows in the order of their rowids
abbrev pub Rise : List Stored → Type 0
Rise rows = Ascends (λ a b. int_lt a.0 b.0) rows

-- each rowid is one of 64 bits
abbrev pub Fit : List Stored → Type 0
Fit rows = Each (λ r. SFits w64 r.0) rows

pub ids_fit : {usable root : ℕ} {layout : Layout} {rows : List Stored} → IsTable usable layout root rows → Fit rows
ids_fit table = subst Fit table.shows (all table.entries)
  where
    all : (es : List Entry) → Fit (map as_row es)
    all [] = tt
    all (e ∷ es) = (rowid_fits e.key, all es)

-- from the least rowid on are all rows
least_below : (x : ℤ) → SFits w64 x → is_lt (int_cmp x (negsuc 9223372036854775807)) ≡ false
least_below x fits = grind (arith, ints)

pub all_from_least : (rows : List Stored) → Fit rows → from_cut (by_rowid (negsuc 9223372036854775807)) rows ≡ rows
all_from_least [] fit = refl
all_from_least (r ∷ rows) fit = rw (least_below r.0 fit.0) refl

-- the first row from a rowid on is not below it
pub first_from : (n : ℤ) (rows : List Stored) (r : Stored) (xs : List Stored) → from_cut (by_rowid n) rows ≡ r ∷ xs → is_lt (int_cmp r.0 n) ≡ false
first_from n [] r xs e = absurd (let h = e in cc)
first_from n (x ∷ rows) r xs e = elim (cases_Bool (is_lt (int_cmp x.0 n)))
    [ inl low ↦ first_from n rows r xs (rw low at e) | inr high ↦ let h : x ∷ rows ≡ r ∷ xs = rw high at e in let same : x ≡ r = cc in subst (λ y. is_lt (int_cmp y.0 n) ≡ false) same high ]

below_next : (x n r : ℤ) → is_lt (int_cmp x n) ≡ true → is_lt (int_cmp r n) ≡ false → is_lt (int_cmp x (r +ℤ pos 1)) ≡ true
below_next x n r low high = grind (arith, ints)

own_next : (r : ℤ) → is_lt (int_cmp r (r +ℤ pos 1)) ≡ true
own_next r = grind (arith, ints)

above_next : (x r : ℤ) → int_lt r x ≡ true → is_lt (int_cmp x (r +ℤ pos 1)) ≡ false
above_next x r above = grind (arith, ints)

none_above : (x r : ℤ) → SFits w64 x → int_lt r x ≡ true → ¬ (SFits w64 (r +ℤ pos 1)) → SFits w64 r → ⊥
none_above x r fits above most own = most (grind (arith, ints))

not_both : (x n : ℤ) → int_lt x n ≡ true → is_lt (int_cmp x n) ≡ false → ⊥
not_both x n low high = grind (arith, ints)

-- behind the first row from a rowid on are those from the next rowid on
behind_first : (n : ℤ) (rows : List Stored) (r : Stored) (xs : List Stored) → Rise rows → from_cut (by_rowid n) rows ≡ r ∷ xs → from_cut (by_rowid (r.0 +ℤ pos 1)) rows ≡ xs
behind_first n [] r xs rise e = absurd (let h = e in cc)
behind_first n (x ∷ rows) r xs rise e = elim (cases_Bool (is_lt (int_cmp x.0 n))) [
  | inl low ↦ let rest : from_cut (by_rowid n) rows ≡ r ∷ xs = rw low at e in
      rw (below_next x.0 n r.0 low (first_from n rows r xs rest)) (behind_first n rows r xs rise.1 rest)
  | inr high ↦ let h : x ∷ rows ≡ r ∷ xs = rw high at e in
      let same : x ≡ r = cc in let others : rows ≡ xs = cc in
      subst (λ y. from_cut (by_rowid (y.0 +ℤ pos 1)) (x ∷ rows) ≡ xs) same (rw (own_next x.0) (all_above rows rise.0 ∙ others))
]
  where
    all_above : (ys : List Stored) → Each (λ y. int_lt x.0 y.0 ≡ true) ys → from_cut (by_rowid (x.0 +ℤ pos 1)) ys ≡ ys
    all_above [] above = refl
    all_above (y ∷ ys) above = rw (above_next y.0 x.0 above.0) refl

-- none is behind the row with the greatest rowid
behind_last : (n : ℤ) (rows : List Stored) (r : Stored) (xs : List Stored) → Rise rows → Fit rows → from_cut (by_rowid n) rows ≡ r ∷ xs → ¬ (SFits w64 (r.0 +ℤ pos 1)) → xs ≡ []
behind_last n [] r xs rise fit e most = absurd (let h = e in cc)
behind_last n (x ∷ rows) r xs rise fit e most = elim (cases_Bool (is_lt (int_cmp x.0 n))) [
  | inl low ↦ behind_last n rows r xs rise.1 fit.1 (rw low at e) most
  | inr high ↦ let h : x ∷ rows ≡ r ∷ xs = rw high at e in
      let same : x ≡ r = cc in let others : rows ≡ xs = cc in
      sym others ∙ nothing rows rise.0 fit.1 (subst (λ y. ¬ (SFits w64 (y.0 +ℤ pos 1))) (sym same) most)
]
  where
    nothing : (ys : List Stored) → Each (λ y. int_lt x.0 y.0 ≡ true) ys → Fit ys → ¬ (SFits w64 (x.0 +ℤ pos 1)) → ys ≡ []
    nothing [] above fits most = refl
    nothing (y ∷ ys) above fits most = absurd (none_above y.0 x.0 fits.0 above.0 most fit.0)

-- so with the rowid that is noted once the first row is taken
pub noted : (o : Option ℤ) (n : ℤ) (rows : List Stored) (r : Stored) (xs : List Stored) → Rise rows → Fit rows → from_cut (by_rowid n) rows ≡ r ∷ xs
    → SomeIff o (SFits w64 (r.0 +ℤ pos 1)) (r.0 +ℤ pos 1) → rows_from o rows ≡ xs
noted None n rows r xs rise fit e iff = sym (behind_last n rows r xs rise fit e iff)
noted (Some m) n rows r xs rise fit e iff = subst (λ k. from_cut (by_rowid k) rows ≡ xs) (sym iff.1) (behind_first n rows r xs rise e)

-- what is left from a rowid on, by the rowid that a cursor has noted
pub from_noted : (o : Option ℤ) (n : ℤ) (rows ys : List Stored) → o ≡ Some n → rows_from o rows ≡ ys → from_cut (by_rowid n) rows ≡ ys
from_noted o n rows ys is e = subst (λ o. rows_from o rows ≡ ys) is e

module _ (layout : Layout) (usable : ℕ) (pages : PageMap) (rows : List Stored) where
  -- the first of the rows of a filled batch is taken
  pub first_taken : (old new : Cursor) (mid : Batch) (n : ℤ) → Rise rows → Fit rows → old.next ≡ Some n
      → IsFilled as_row (from_cut (by_rowid n) rows) layout usable pages mid → TookFirst layout usable pages mid new.batch true
      → SomeIff new.next (SFits w64 ((row_of new).0 +ℤ pos 1)) ((row_of new).0 +ℤ pos 1)
      → (left_of old rows ≡ row_of new ∷ left_of new rows) × IsAmong layout usable pages rows new
  first_taken old new mid n rise fit is filled took iff =
      let parts : from_cut (by_rowid n) rows ≡ row_of new ∷ (map as_row (left_in pages new.batch) ++ filled.rest) =
      filled.parts ∙ ap (λ es. map as_row es ++ filled.rest) took.0 in
      let next : rows_from new.next rows ≡ map as_row (left_in pages new.batch) ++ filled.rest = noted new.next n rows (row_of new) _ rise fit parts iff in
      (ap (λ o. rows_from o rows) is ∙ parts ∙ ap (λ ys. row_of new ∷ ys) (sym next), record { valid = took.1; rest = filled.rest; parts = next })

  -- no row is left to a batch that was filled
  pub none_taken : (old new : Cursor) (mid : Batch) (n : ℤ) → old.next ≡ Some n → new.next ≡ None
      → IsFilled as_row (from_cut (by_rowid n) rows) layout usable pages mid → TookFirst layout usable pages mid new.batch false
      → ((left_of old rows ≡ []) × (left_of new rows ≡ [])) × IsAmong layout usable pages rows new
  none_taken old new mid n is ended filled took =
      let none : from_cut (by_rowid n) rows ≡ [] = filled.parts ∙ ap (λ es. map as_row es ++ filled.rest) took.0 ∙ filled.ends took.0 in
      let gone : rows_from new.next rows ≡ [] = ap (λ o. rows_from o rows) ended in
      let held : left_in pages new.batch ≡ [] = ap (left_in pages) took.1 ∙ took.0 in (
        (ap (λ o. rows_from o rows) is ∙ none, gone),
        record { valid = subst (λ b. IsBatchOf layout usable b) (sym took.1) filled.valid; rest = []; parts = gone ∙ sym (ap (λ es. map as_row es ++ []) held) },
      )

  -- the first row that is taken has no rowid below the one that was noted
  pub never_below : (mid new : Batch) (n : ℤ) → IsFilled as_row (from_cut (by_rowid n) rows) layout usable pages mid → TookFirst layout usable pages mid new true
      → int_lt (as_row (taken new)).0 n ≡ true → ⊥
  never_below mid new n filled took low =
      let parts : from_cut (by_rowid n) rows ≡ as_row (taken new) ∷ (map as_row (left_in pages new) ++ filled.rest) =
      filled.parts ∙ ap (λ es. map as_row es ++ filled.rest) took.0 in
      not_both (as_row (taken new)).0 n low (first_from n rows _ _ parts)

-- a rowid as it is passed on
pub as_passed : (o : Option ℤ) (n : ℤ) → o ≡ Some n → SFits w64 n → o ≡ Some (to_z w64 (of_z w64 n))
as_passed o n is fits = is ∙ ap Some (sym (to_z-of_z w64 n fits))

pub as_found : (x y : ℤ) → x ≡ y → SFits w64 x → to_z w64 (of_z w64 x) ≡ y
as_found x y same fits = to_z-of_z w64 x fits ∙ same
