-- The entries of what is put, as its readers give them.
use Rattle.mb_copy.proofs.Common.{ap, arith, Bool, contains_key, drop, entries, eq_by_cmp, false, get-entries, here, IfSome, is_eq, is_some, later, length, List, list_any, Option, Place, place_cmp}
use Rattle.mb_copy.proofs.Common.{places_total, refl, slice_get, suc, sym, tied_itself, TileSet, true, zero, ℕ, [], ◌+◌, ◌<◌, ◌||◌, ◌∙◌, ◌∷◌, ◌≡◌, ◌≤◌}
use Rattle.std.specs.FinMap as fin
use Rattle.mb_copy.proofs.TouchLemmas.{Tile}

-- a list, of which none so far passes a test
pub none_yet : {A : Type 0} (test : A → Bool) (xs : List A) (i : ℕ) (b : Bool) → i < length xs → IfSome (slice_get xs i) (λ x. b ≡ test x) → b ≡ false → list_any test xs ≡ list_any test (drop i xs) → list_any test xs ≡ list_any test (drop (i + 1) xs)
none_yet {A = A} test xs i b lt at nay before = let e : suc i ≡ i + 1 = omega arith in before ∙ (next xs i lt at ∙ ap (λ n. list_any test (drop n xs)) e)
  where
    first : (a : Bool) (rest : Bool) → a ≡ false → (a || rest) ≡ rest
    first a rest e = ap (λ x. x || rest) e

    next : (xs : List A) (i : ℕ) → i < length xs → IfSome (slice_get xs i) (λ x. b ≡ test x) → list_any test (drop i xs) ≡ list_any test (drop (suc i) xs)
    next [] i lt at = absurd (omega arith)
    next (x ∷ xs) zero lt at = first (test x) (list_any test xs) (sym at ∙ nay)
    next (x ∷ xs) (suc i) lt at = next xs i (omega arith) at

pub one_found : {A : Type 0} (test : A → Bool) (xs : List A) (i : ℕ) (b : Bool) → i < length xs → IfSome (slice_get xs i) (λ x. b ≡ test x) → b ≡ true → list_any test xs ≡ list_any test (drop i xs) → true ≡ list_any test xs
one_found {A = A} test xs i b lt at aye before = found xs i lt at ∙ sym before
  where
    first : (a : Bool) (rest : Bool) → a ≡ true → true ≡ (a || rest)
    first a rest e = ap (λ x. x || rest) (sym e)

    found : (xs : List A) (i : ℕ) → i < length xs → IfSome (slice_get xs i) (λ x. b ≡ test x) → true ≡ list_any test (drop i xs)
    found [] i lt at = absurd (omega arith)
    found (x ∷ xs) zero lt at = first (test x) (list_any test xs) (sym at ∙ aye)
    found (x ∷ xs) (suc i) lt at = found xs i (omega arith) at

pub none_at_all : {A : Type 0} (test : A → Bool) (xs : List A) (n : ℕ) → length xs ≤ n → list_any test xs ≡ list_any test (drop n xs) → false ≡ list_any test xs
none_at_all {A = A} test xs n end before = none xs n end ∙ sym before
  where
    none : (xs : List A) (n : ℕ) → length xs ≤ n → false ≡ list_any test (drop n xs)
    none [] zero h = refl
    none [] (suc n) h = refl
    none (x ∷ xs) zero h = absurd (omega arith)
    none (x ∷ xs) (suc n) h = none xs n (omega arith)

-- the place of a tile of a set is one of its places
found_at : (Q : Option (List ℕ) → Type 0) (es : List Tile) (i : ℕ) (p : Place) → i < length es → IfSome (slice_get es i) (λ e. (e.0 ≡ p) × Q e.1) → is_some (fin.find place_cmp p es) ≡ true
found_at Q [] i p lt h = absurd (omega arith)
found_at Q (e ∷ es) zero p lt h = here (eq_by_cmp place_cmp p e.0) e.1 (fin.find place_cmp p es) (ap (λ x. eq_by_cmp place_cmp p x) h.0 ∙ ap is_eq (tied_itself places_total p))
found_at Q (e ∷ es) (suc i) p lt h = later (eq_by_cmp place_cmp p e.0) e.1 (fin.find place_cmp p es) (found_at Q es i p (omega arith) h)

pub entry_there : (Q : Option (List ℕ) → Type 0) (m : TileSet) (i : ℕ) (p : Place) → i < length (entries m) → IfSome (slice_get (entries m) i) (λ e. (e.0 ≡ p) × Q e.1) → contains_key m p ≡ true
entry_there Q m i p lt h = ap is_some (get-entries m p) ∙ found_at Q (entries m) i p lt h
