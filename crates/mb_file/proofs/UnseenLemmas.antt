-- The rows that weren't read yet, from row to row.
use Rattle.std.proofs.Common.{ap, arith, Bool, false, inl, inr, int_cmp, int_le, is_lt, List, None, Option, Ordering, refl, Some, subst, sym, true, [], ℤ, ◌∙◌, ◌∷◌, ◌≡◌}
use Rattle.std.proofs.lemmas.Bool.{cases_Bool}
use Rattle.std.proofs.lemmas.Int.{ints}
use Rattle.sqlite_btree.specs.Cut.{from_cut}
use Rattle.sqlite_btree.specs.Stored.{by_rowid}
use Rattle.mb_file.proofs.CursorLemmas.{Fit, noted, Rise}
use Rattle.mb_file.specs.Cursor.{rows_from, Stored}
use Rattle.mb_file.specs.Scan.{is_unseen, UnseenAfter}

cut_twice : (side : Stored → Ordering) (rows : List Stored) → from_cut side (from_cut side rows) ≡ from_cut side rows
cut_twice side [] = refl
cut_twice side (r ∷ rows) = elim (cases_Bool (is_lt (side r)))
    [ inl low ↦ rw low (cut_twice side rows) | inr high ↦ rw high (rw high refl) ]

from_twice : (o : Option ℤ) (rows : List Stored) → rows_from o (rows_from o rows) ≡ rows_from o rows
from_twice None rows = refl
from_twice (Some n) rows = cut_twice (by_rowid n) rows

pub none_from_none : (o : Option ℤ) → rows_from o [] ≡ []
none_from_none None = refl
none_from_none (Some n) = refl

not_below : (x n : ℤ) → int_le n x ≡ true → is_lt (int_cmp x n) ≡ false
not_below x n le = grind (arith, ints)

is_below : (x n : ℤ) → int_le n x ≡ false → is_lt (int_cmp x n) ≡ true
is_below x n le = grind (arith, ints)

module _ (rows rest : List Stored) (r : Stored) (rise : Rise rows) (fit : Fit rows) where
  -- a row that wasn't read yet is the first of them
  pub first_unseen : (old new : Option ℤ) → rows_from old (r ∷ rest) ≡ rows_from old rows → is_unseen old r.0 ≡ true → UnseenAfter true old r.0 new
      → (rows_from old rows ≡ r ∷ rest) × (rows_from new rows ≡ rest)
  first_unseen None new behind unseen after = absurd (let e = unseen in cc)
  first_unseen (Some n) new behind unseen after =
      let cut : from_cut (by_rowid n) (r ∷ rest) ≡ r ∷ rest = rw (not_below r.0 n unseen) refl in
      let first : from_cut (by_rowid n) rows ≡ r ∷ rest = sym behind ∙ cut in
      (first, noted new n rows r rest rise fit first after)

  -- no row behind it wasn't seen then
  pub behind_after : (old new : Option ℤ) → rows_from old (r ∷ rest) ≡ rows_from old rows → UnseenAfter (is_unseen old r.0) old r.0 new
      → rows_from new rest ≡ rows_from new rows
  behind_after old new behind after = elim (cases_Bool (is_unseen old r.0)) [
    | inl unseen ↦
        let next : rows_from new rows ≡ rest = (first_unseen old new behind unseen (subst (λ (b : Bool). UnseenAfter b old r.0 new) unseen after)).1 in
        ap (rows_from new) (sym next) ∙ from_twice new rows
    | inr seen ↦
        let same : new ≡ old = subst (λ (b : Bool). UnseenAfter b old r.0 new) seen after in
        subst (λ (o : Option ℤ). rows_from o rest ≡ rows_from o rows) (sym same) (passed old behind seen)
  ]
    where
      passed : (old : Option ℤ) → rows_from old (r ∷ rest) ≡ rows_from old rows → is_unseen old r.0 ≡ false → rows_from old rest ≡ rows_from old rows
      passed None behind seen = refl
      passed (Some n) behind seen = rw (is_below r.0 n seen) at behind
