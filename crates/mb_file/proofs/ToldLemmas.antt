-- What a set of a file answers by the rows that its pages show.
use Rattle.std.proofs.Common.{ap, arith, Bool, cond, drop, Err, false, IfOk, inl, inr, List, None, Ok, Option, refl, Result, Some, subst, sym, take, true, [], ℕ, ◌<◌, ◌≤◌, ◌∷◌, ◌∙◌, ◌≡◌, ◌⊎◌}
use Rattle.std.proofs.lemmas.Bool.{cases_lt}
use Rattle.std.proofs.lemmas.List.{drop_all, take_all}
use Rattle.std.proofs.lemmas.Grind.{not_there}
use Rattle.sqlite_btree.specs.Chain.{Layout}
use Rattle.sqlite_btree.specs.Stored.{IsLaidIn, IsTable}
use Rattle.sqlite_disk.specs.declared.Disk.{Ghosts}
use Rattle.mb_tables.proofs.CellLemmas.{cells_eq-Decides}
use Rattle.mb_tables.specs.Cell.{cells_eq}
use Rattle.mb_tables.specs.declared.cell.Cell.{Cell}
use Rattle.mb_tables.specs.declared.table.TableName.{TableName}
use Rattle.mb_file.specs.Cursor.{Stored}
use Rattle.mb_file.specs.FilePages.{GoesOn, IsTrusted, pages_of}
use Rattle.mb_file.specs.Listing.{IsListed}
use Rattle.mb_file.specs.SetTable.{set_rows}
use Rattle.mb_file.specs.Standing.{IsShown, rows_at, shown, Stands}
use Rattle.mb_file.specs.declared.listing.Listing.{Listing}
use Rattle.mb_file.specs.declared.source.Source.{Source}

-- whether two lists of rows are equal
pub rows_decided : (xs ys : List (List Cell)) → (xs ≡ ys) ⊎ ¬ (xs ≡ ys)
rows_decided [] [] = inl refl
rows_decided [] (y ∷ ys) = inr (λ e. let h = e in cc)
rows_decided (x ∷ xs) [] = inr (λ e. let h = e in cc)
rows_decided (x ∷ xs) (y ∷ ys) = by (cells_eq x y) refl (rows_decided xs ys)
  where
    by : (b : Bool) → cells_eq x y ≡ b → (xs ≡ ys) ⊎ ¬ (xs ≡ ys) → (x ∷ xs ≡ y ∷ ys) ⊎ ¬ (x ∷ xs ≡ y ∷ ys)
    by true is (inl rest) = let same : x ≡ y = (cells_eq-Decides x y).0 is in inl cc
    by true is (inr rest) = inr (λ e. rest (let h = e in cc))
    by false is rest = inr (λ e. let same : x ≡ y = cc in let t = (cells_eq-Decides x y).1 same in let f = is in cc)

-- an equation that a fact gives, of which is known that it holds
pub given_by : {S X : Type 0} (x y : X) → (x ≡ y) ⊎ ¬ (x ≡ y) → ∥ S ∥₁ → (S → x ≡ y) → x ≡ y
given_by x y (inl e) t h = e
given_by x y (inr n) t h = absurd (not_there t (λ s. n (h s)))

pub answer_by : {S A E X : Type 0} (r : Result A E) (f : A → X) (y : X) → ((x : X) → (x ≡ y) ⊎ ¬ (x ≡ y)) → ∥ S ∥₁ → (S → IfOk r (λ a. f a ≡ y)) → IfOk r (λ a. f a ≡ y)
answer_by (Ok a) f y decided t h = given_by (f a) y (decided (f a)) t h
answer_by (Err e) f y decided t h = tt

module _ {D : Type 0} {g : Ghosts D} (old new : Source D g) (kept : GoesOn old.pages new.pages) where
  -- what a call on a table does, by the rows that pages show
  pub asked : (X : List (List Cell) → Type 0) (listing next : Listing) (table : TableName) → listing.table ≡ table
      → (IsTrusted new.pages → (layout : Layout) (rows : List Stored) → IsLaidIn layout (pages_of old.pages) → IsTable old.pages.usable layout listing.of.root rows
      → IsListed layout old.pages.usable (pages_of old.pages) old.secret table rows listing
      → IsListed layout old.pages.usable (pages_of old.pages) old.secret table rows next × X (set_rows table listing.of.columns rows))
      → IsTrusted new.pages → IsShown old listing → Stands old listing → X (shown old.pages.usable (pages_of old.pages) listing)
  asked X listing next table is_table call trusted can stands =
      let clean : IsTrusted old.pages = omega (arith, trusted, kept.clean) in
      let there = stands clean can.rowids can.few in
      let rows : List Stored = rows_at old.pages.usable (pages_of old.pages) listing.of.root in
      let listed = subst (λ (t : TableName). IsListed there.layout old.pages.usable (pages_of old.pages) old.secret t rows listing) is_table there.listed in
      subst (λ (t : TableName). X (set_rows t listing.of.columns rows)) (sym is_table) (call trusted there.layout rows there.laid there.stored listed).1

pub first_of : {X : Type 0} (b : Bool) (x y : X) → b ≡ true → cond b x y ≡ x
first_of true x y is = refl
first_of false x y is = absurd (let h = is in cc)

pub second_of : {X : Type 0} (b : Bool) (x y : X) → b ≡ false → cond b x y ≡ y
second_of true x y is = absurd (let h = is in cc)
second_of false x y is = refl

pub none_from_nothing : (limit from : ℕ) → take limit (drop {A = List Cell} from []) ≡ []
none_from_nothing limit from = ap (take limit) (drop_all from [] (omega arith)) ∙ take_all limit [] (omega arith)

-- whether two counts, or two rows that may not be there, are equal
pub counts_decided : (m n : ℕ) → (m ≡ n) ⊎ ¬ (m ≡ n)
counts_decided m n = by (cases_lt m n) (cases_lt n m)
  where
    by : (m < n) ⊎ (n ≤ m) → (n < m) ⊎ (m ≤ n) → (m ≡ n) ⊎ ¬ (m ≡ n)
    by (inl lt) other = inr (λ e. absurd (omega (arith, lt, e)))
    by (inr le) (inl lt) = inr (λ e. absurd (omega (arith, lt, e)))
    by (inr le) (inr ge) = inl (omega (arith, le, ge))

pub row_decided : (o p : Option (List Cell)) → (o ≡ p) ⊎ ¬ (o ≡ p)
row_decided None None = inl refl
row_decided None (Some y) = inr (λ e. let h = e in cc)
row_decided (Some x) None = inr (λ e. let h = e in cc)
row_decided (Some x) (Some y) = by (cells_eq x y) refl
  where
    by : (b : Bool) → cells_eq x y ≡ b → (Some x ≡ Some y) ⊎ ¬ (Some x ≡ Some y)
    by true is = inl (ap Some ((cells_eq-Decides x y).0 is))
    by false is = inr (λ e. let same : x ≡ y = cc in let t = (cells_eq-Decides x y).1 same in let f = is in cc)
