-- Entries of directories and levels.
use Rattle.pm_reader.proofs.Common.{ap, arith, Bool, Contains, Contains-append_cases, Contains-append_left, Contains-append_right, covers, entries_below, Entry, Err, false, flat_map, Header}
use Rattle.pm_reader.proofs.Common.{if◌then◌else◌, inl, inr, IsAtLevel, last_below, leaf_of, level, List, nat_eq, nat_le, nat_lt, None, Ok, Option, PmtError, refl, Result, scan, Some, subst, suc, sym}
use Rattle.pm_reader.proofs.Common.{true, zero, ℕ, [], ◌-◌, ◌>>=◌, ◌∙◌, ◌∷◌, ◌≡◌, ◌⊎◌}

-- what is found in a directory is one of its entries
first_is_in : (found : Option Entry) (f e : Entry) (es : List Entry) (test : Bool) → (if test then Some f else found) ≡ Some e → (found ≡ Some e) ⊎ Contains (f ∷ es) e
first_is_in found f e es true w = inr (0, omega arith, cc)
first_is_in found f e es false w = inl w

last_is_in : (t : ℕ) (found : Option Entry) (es : List Entry) (e : Entry) → last_below t found es ≡ Some e → (found ≡ Some e) ⊎ Contains es e
last_is_in t found [] e q = inl q
last_is_in t found (f ∷ es) e q =
    elim (last_is_in t (if nat_le f.tile_id t then Some f else found) es e q) [
      | inl was ↦ first_is_in found f e es (nat_le f.tile_id t) was
      | inr is ↦ inr (Contains-append_right (f ∷ []) es e is)
    ]

chosen_is : (f e : Entry) (leaf low : Bool) → (if leaf then Some f else (if low then Some f else None)) ≡ Some e → f ≡ e
chosen_is f e true low q = cc
chosen_is f e false true q = cc
chosen_is f e false false q = absurd (cc)

scanned_is_in : (es : List Entry) (t : ℕ) (e : Entry) (last : Option Entry) → last_below t None es ≡ last → (last >>= covers t) ≡ Some e → Contains es e
scanned_is_in es t e None is q = absurd (cc)
scanned_is_in es t e (Some f) is q =
    elim (last_is_in t None es f is) [
      | inl none ↦ absurd (cc)
      | inr in' ↦ let P : Entry → Type 0 = λ x. Contains es x in subst P (chosen_is f e (nat_eq f.run_length 0) (nat_lt (t - f.tile_id) f.run_length) q) in'
    ]

pub scan_is_in : (es : List Entry) (t : ℕ) (e : Entry) → scan es t ≡ Some e → Contains es e
unfolding scan
scan_is_in es t e q = scanned_is_in es t e (last_below t None es) refl q

pub single_is : {X : Type 0} (z x : X) → Contains (z ∷ []) x → z ≡ x
single_is z x (zero, low, is) = is
single_is z x (suc k, low, is) = absurd (omega arith)

-- what an element gives is among what all give
pub in_flat_map : {X Y : Type 0} (f : X → List Y) (xs : List X) (x : X) (y : Y) → Contains xs x → Contains (f x) y → Contains (flat_map f xs) y
in_flat_map f [] x y c d = absurd (omega (arith, c.1))
in_flat_map {Y = Y} f (z ∷ zs) x y c d =
    elim (Contains-append_cases (z ∷ []) zs x c) [
      | inl here ↦ Contains-append_left (f z) (flat_map f zs) y (let P : List Y → Type 0 = λ l. Contains l y in subst P (ap f (sym (single_is z x here))) d)
      | inr there ↦ Contains-append_right (f z) (flat_map f zs) y (in_flat_map f zs x y there d)
    ]

abbrev Below : Result (List Entry) PmtError → List Entry
Below l = elim l [ Err r ↦ [] | Ok leaf ↦ leaf ]

pub below_tile : (h : Header) (b : List ℕ) (e : Entry) → nat_eq e.run_length 0 ≡ false → entries_below h b e ≡ []
below_tile h b e tile = ap (λ test. elim test [ false ↦ [] | true ↦ Below (leaf_of h b e) ]) tile

pub below_leaf : (h : Header) (b : List ℕ) (e : Entry) (l : Result (List Entry) PmtError) → nat_eq e.run_length 0 ≡ true → leaf_of h b e ≡ l → entries_below h b e ≡ Below l
below_leaf h b e l leaf is = ap (λ test. elim test [ false ↦ [] | true ↦ Below (leaf_of h b e) ]) leaf ∙ ap Below is

-- an entry of a leaf that a level names is one of the next level
pub level_below : (h : Header) (b : List ℕ) (root : List Entry) (n t : ℕ) (e : Entry) (d : List Entry) (found : Option Entry) → nat_eq e.run_length 0 ≡ true → Contains (level n h b root) e → leaf_of h b e ≡ Ok d → found ≡ scan d t
    → IsAtLevel h b root (suc n) found
unfolding level
level_below h b root n t e d None leaf at is q = tt
level_below h b root n t e d (Some f) leaf at is q =
    let below : entries_below h b e ≡ d = below_leaf h b e (Ok d) leaf is in
    let P : List Entry → Type 0 = λ l. Contains l f in
    in_flat_map (entries_below h b) (level n h b root) e f at (subst P (sym below) (scan_is_in d t f (sym q)))
