-- What is kept of the rows that were read, from row to row.
use Rattle.std.proofs.Common.{ap, append-nil, append_assoc, arith, length, List, min, None, Option, refl, Some, subst, subst₂, sym, [], ℕ, ℤ, ◌+◌, ◌++◌, ◌-◌, ◌<◌, ◌^◌, ◌∙◌, ◌∷◌, ◌≡◌}
use Rattle.std.specs.Prelude.{sum_by}
use Rattle.std.specs.List.{cons_option}
use Rattle.std.specs.List.Sorted.{IsPermutation}
use Rattle.std.proofs.lemmas.List.Sums.{sum_by-cons}
use Rattle.std.proofs.lemmas.List.Sorted.{IsPermutation-refl}
use Rattle.mb_store.specs.Sizes.{row_size}
use Rattle.mb_tables.specs.declared.cell.Cell.{Cell}
use Rattle.mb_tables.specs.declared.table.TableName.{TableName}
use Rattle.mb_file.specs.Cursor.{rows_from, Stored}
use Rattle.mb_file.specs.Noted.{IsNoted, IsNotedAs, Notes, number_at, numbers_of, size_behind}
use Rattle.mb_file.specs.Scan.{behind}
use Rattle.mb_file.specs.SetTable.{set_row, set_rows}
use Rattle.mb_file.specs.declared.columns.Columns.{Columns}
use Rattle.mb_file.specs.declared.numbers.Numbered.{Numbered}
use Rattle.mb_file.specs.declared.scan.Scan.{Scan}

pushed_then : {X : Type 0} (xs ys : List X) (o : Option X) → (xs ++ cons_option o []) ++ ys ≡ xs ++ cons_option o ys
pushed_then xs ys None = ap (λ zs. zs ++ ys) (append-nil xs)
pushed_then xs ys (Some x) = append_assoc xs (x ∷ []) ys

one_counted : (old new all : ℕ) (o : Option (List Cell)) (rest : List (List Cell)) → all < 2 ^ 64 → old + length (cons_option o rest) ≡ all → new ≡ behind old o → new + length rest ≡ all
one_counted old new all None rest few sum is = omega (arith, sum, is)
one_counted old new all (Some row) rest few sum is = omega (arith, few, sum, is)

one_sized : (old new : ℕ) (o : Option (List Cell)) (rest : List (List Cell)) → new ≡ size_behind old o
    → min (new + sum_by row_size rest) (2 ^ 64 - 1) ≡ min (old + sum_by row_size (cons_option o rest)) (2 ^ 64 - 1)
one_sized old new None rest is = ap (λ n. min (n + sum_by row_size rest) (2 ^ 64 - 1)) is
one_sized old new (Some row) rest is =
    capped old new (row_size row) (sum_by row_size rest) is ∙ ap (λ n. min (old + n) (2 ^ 64 - 1)) (sym (sum_by-cons row_size row rest))
  where
    capped : (old new a b : ℕ) → new ≡ min (old + a) (2 ^ 64 - 1) → min (new + b) (2 ^ 64 - 1) ≡ min (old + (a + b)) (2 ^ 64 - 1)
    capped old new a b is = omega (arith, is)

size_fits : (old new : ℕ) (o : Option (List Cell)) → new ≡ size_behind old o → old < 2 ^ 64 → new < 2 ^ 64
size_fits old new None is fits = omega (arith, is, fits)
size_fits old new (Some row) is fits = omega (arith, is)

-- from call to call
pub noted_trans : (a b c : Scan) → IsNotedAs a b → IsNotedAs b c → IsNotedAs a c
noted_trans a b c first second = record {
  numbers = second.numbers ∙ first.numbers;
  count = second.count ∙ first.count;
  size = second.size ∙ first.size;
  unseen = second.unseen ∙ first.unseen;
}

-- a scan whose rows were all read notes no row
pub still_after : (first old new : Scan) → (first.unseen ≡ None → IsNotedAs first old) → (old.unseen ≡ None → IsNotedAs old new) → first.unseen ≡ None → IsNotedAs first new
still_after first old new before after ended = let same = before ended in noted_trans first old new same (after (same.unseen ∙ ended))

pub still_ended : (old new : Scan) → new.numbered.items ≡ old.numbered.items → new.count ≡ old.count → new.size ≡ old.size → new.unseen ≡ None → old.unseen ≡ None → IsNotedAs old new
still_ended old new numbers count size last ended = record { numbers = numbers; count = count; size = size; unseen = last ∙ sym ended }

module _ (table : TableName) (columns : Columns) where
  pub first_set_row : (r : Stored) (rest : List Stored) → set_rows table columns (r ∷ rest) ≡ cons_option (set_row table columns r) (set_rows table columns rest)
  unfolding set_rows
  first_set_row r rest = refl

module _ (secret : ℕ) (table : TableName) (columns : Columns) where
  pub no_numbers : numbers_of secret table columns [] ≡ []
  unfolding numbers_of
  no_numbers = refl

  pub first_number : (r : Stored) (rest : List Stored) → numbers_of secret table columns (r ∷ rest) ≡ cons_option (number_at secret table columns r) (numbers_of secret table columns rest)
  unfolding numbers_of
  first_number r rest = refl

  module _ (rows : List Stored) where
    -- before the first row
    pub none_noted : (scan : Scan) → scan.numbered.items ≡ [] → scan.count ≡ 0 → scan.size ≡ 0 → rows_from scan.unseen rows ≡ rows → IsNoted secret table columns rows scan
    none_noted scan numbers count size all = record {
      numbers = subst₂ (λ (xs : List Numbered) (ys : List Stored). IsPermutation (xs ++ numbers_of secret table columns ys) (numbers_of secret table columns rows)) (sym numbers) (sym all) (IsPermutation-refl _);
      count = subst₂ (λ (n : ℕ) (ys : List Stored). n + length (set_rows table columns ys) ≡ length (set_rows table columns rows)) (sym count) (sym all) (omega arith);
      size = subst₂ (λ (n : ℕ) (ys : List Stored). min (n + sum_by row_size (set_rows table columns ys)) (2 ^ 64 - 1) ≡ min (sum_by row_size (set_rows table columns rows)) (2 ^ 64 - 1)) (sym size) (sym all) (omega arith);
      fits = omega (arith, size);
    }

    -- the same rows weren't read yet
    pub still_noted : (old new : Scan) → rows_from new.unseen rows ≡ rows_from old.unseen rows → new.numbered.items ≡ old.numbered.items → new.count ≡ old.count → new.size ≡ old.size
        → IsNoted secret table columns rows old → IsNoted secret table columns rows new
    still_noted old new same numbers count size notes = record {
      numbers = subst₂ (λ (xs : List Numbered) (ys : List Stored). IsPermutation (xs ++ numbers_of secret table columns ys) (numbers_of secret table columns rows)) (sym numbers) (sym same) notes.numbers;
      count = subst₂ (λ (n : ℕ) (ys : List Stored). n + length (set_rows table columns ys) ≡ length (set_rows table columns rows)) (sym count) (sym same) notes.count;
      size = subst₂ (λ (n : ℕ) (ys : List Stored). min (n + sum_by row_size (set_rows table columns ys)) (2 ^ 64 - 1) ≡ min (sum_by row_size (set_rows table columns rows)) (2 ^ 64 - 1)) (sym size) (sym same) notes.size;
      fits = omega (arith, size, notes.fits);
    }

    pub as_noted : (old new : Scan) → IsNotedAs old new → IsNoted secret table columns rows old → IsNoted secret table columns rows new
    as_noted old new same notes = still_noted old new (ap (λ (o : Option ℤ). rows_from o rows) same.unseen) same.numbers same.count same.size notes

    -- a row is read that wasn't read yet
    pub row_noted : (old new : Scan) (r : Stored) (rest : List Stored) → rows_from old.unseen rows ≡ r ∷ rest → rows_from new.unseen rows ≡ rest
        → length (set_rows table columns rows) < 2 ^ 64 → Notes secret r.0 (set_row table columns r) old new → IsNoted secret table columns rows old → IsNoted secret table columns rows new
    row_noted old new r rest before after few one notes =
        let o : Option Numbered = number_at secret table columns r in
        let numbers : old.numbered.items ++ numbers_of secret table columns (rows_from old.unseen rows) ≡ new.numbered.items ++ numbers_of secret table columns (rows_from new.unseen rows) =
        ap (λ (ys : List Stored). old.numbered.items ++ numbers_of secret table columns ys) before ∙ ap (λ ys. old.numbered.items ++ ys) (first_number r rest)
        ∙ sym (pushed_then old.numbered.items (numbers_of secret table columns rest) o) ∙ ap (λ xs. xs ++ numbers_of secret table columns rest) (sym one.numbers)
        ∙ ap (λ (ys : List Stored). new.numbered.items ++ numbers_of secret table columns ys) (sym after) in
        let first : set_rows table columns (rows_from old.unseen rows) ≡ cons_option (set_row table columns r) (set_rows table columns rest) = ap (set_rows table columns) before ∙ first_set_row table columns r rest in
        let left : set_rows table columns (rows_from new.unseen rows) ≡ set_rows table columns rest = ap (set_rows table columns) after in
        record {
          numbers = subst (λ (xs : List Numbered). IsPermutation xs (numbers_of secret table columns rows)) numbers notes.numbers;
          count = ap (λ ys. new.count + length ys) left
              ∙ one_counted old.count new.count _ (set_row table columns r) (set_rows table columns rest) few (ap (λ ys. old.count + length ys) (sym first) ∙ notes.count) one.count;
          size = ap (λ ys. min (new.size + sum_by row_size ys) (2 ^ 64 - 1)) left ∙ one_sized old.size new.size (set_row table columns r) (set_rows table columns rest) one.size
              ∙ ap (λ ys. min (old.size + sum_by row_size ys) (2 ^ 64 - 1)) (sym first) ∙ notes.size;
          fits = size_fits old.size new.size (set_row table columns r) one.size notes.fits;
        }

    none_left : (scan : Scan) → scan.unseen ≡ None → set_rows table columns (rows_from scan.unseen rows) ≡ []
    unfolding set_rows
    none_left scan ended = ap (λ (o : Option ℤ). set_rows table columns (rows_from o rows)) ended

    -- all rows were read
    pub all_counted : (scan : Scan) → scan.unseen ≡ None → IsNoted secret table columns rows scan → scan.count ≡ length (set_rows table columns rows)
    all_counted scan ended notes = omega (arith, notes.count, ap length (none_left scan ended))

    pub all_sized : (scan : Scan) → scan.unseen ≡ None → IsNoted secret table columns rows scan → scan.size ≡ min (sum_by row_size (set_rows table columns rows)) (2 ^ 64 - 1)
    all_sized scan ended notes = omega (arith, notes.size, notes.fits, ap (λ rows. sum_by row_size rows) (none_left scan ended))
