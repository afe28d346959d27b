-- Adds whose ids strictly rise.
use Rattle.pm_writer.proofs.Common.{adds_at, AddsFilled, All, All-head, All-tail, AllLow, ap, archive, archive_map, AreFew, arith, below_all, cond, Distinct, eq_by_cmp, false, find, ids_of, inl, inr}
use Rattle.pm_writer.proofs.Common.{is_lt, is_sorted, IsArchivable, length, List, MAX_TILE_ID, nat_cmp, nat_eq, nat_lt, nat_tests, Options, OptionsFit, parts_of, refl, rising, RisingAdds, Some, subst}
use Rattle.pm_writer.proofs.Common.{suc, sum_by-cons, sym, tile_in, true, WellFormed, ℕ, [], ◌+◌, ◌<◌, ◌∙◌, ◌∷◌, ◌≡◌, ◌≢◌, ◌≤◌}
use Rattle.std.proofs.lemmas.Bool.{and_parts}
use Rattle.pm_writer.proofs.Few.{archive_fits}
use Rattle.pm_writer.proofs.Parted.{tile_here, tile_later}
use Rattle.pm_writer.proofs.Bounds.{whole_formed}
use Rattle.pm_writer.proofs.Whole.{map_is}
use Rattle.pm_writer.proofs.Runs.{eq_or}

is_below : (x y : ℕ) → is_lt (nat_cmp x y) ≡ true → x < y
is_below x y h = grind (arith, nat_tests)

-- the ids behind the first are above it
below_first : (a : ℕ × List ℕ) (x : ℕ) (adds : List (ℕ × List ℕ)) → below_all nat_cmp x (a ∷ adds) ≡ true → x < a.0
below_first a x adds h = is_below x a.0 (and_parts (is_lt (nat_cmp x a.0)) (below_all nat_cmp x adds) h).0

below_rest : (a : ℕ × List ℕ) (x : ℕ) (adds : List (ℕ × List ℕ)) → below_all nat_cmp x (a ∷ adds) ≡ true → below_all nat_cmp x adds ≡ true
below_rest a x adds h = (and_parts (is_lt (nat_cmp x a.0)) (below_all nat_cmp x adds) h).1

first_below : (a : ℕ × List ℕ) (adds : List (ℕ × List ℕ)) → is_sorted nat_cmp (a ∷ adds) ≡ true → below_all nat_cmp a.0 adds ≡ true
first_below a adds h = (and_parts (below_all nat_cmp a.0 adds) (is_sorted nat_cmp adds) h).0

rest_sorted : (a : ℕ × List ℕ) (adds : List (ℕ × List ℕ)) → is_sorted nat_cmp (a ∷ adds) ≡ true → is_sorted nat_cmp adds ≡ true
rest_sorted a adds h = (and_parts (below_all nat_cmp a.0 adds) (is_sorted nat_cmp adds) h).1

-- so the archive is clustered
pub ids_rise : (adds : List (ℕ × List ℕ)) → is_sorted nat_cmp adds ≡ true → rising (ids_of adds) ≡ true
ids_rise [] h = refl
ids_rise (a ∷ []) h = refl
ids_rise (a ∷ b ∷ adds) h =
    let below = below_first b a.0 adds (first_below a (b ∷ adds) h) in
    let less : nat_lt a.0 b.0 ≡ true = grind (arith, nat_tests) in
    rw less (ids_rise (b ∷ adds) (rest_sorted a (b ∷ adds) h))

at_cons : (a : ℕ × List ℕ) (adds : List (ℕ × List ℕ)) (t : ℕ) → adds_at (a ∷ adds) t ≡ cond (nat_eq a.0 t) 1 0 + adds_at adds t
at_cons a adds t = sum_by-cons (λ (a : ℕ × List ℕ). cond (nat_eq a.0 t) 1 0) a adds

at_same : (a : ℕ × List ℕ) (adds : List (ℕ × List ℕ)) (t : ℕ) → a.0 ≡ t → adds_at (a ∷ adds) t ≡ suc (adds_at adds t)
at_same a adds t h = let e : nat_eq a.0 t ≡ true = grind (arith, nat_tests) in at_cons a adds t ∙ ap (λ b. cond b 1 0 + adds_at adds t) e ∙ omega arith

at_other : (a : ℕ × List ℕ) (adds : List (ℕ × List ℕ)) (t : ℕ) → a.0 ≢ t → adds_at (a ∷ adds) t ≡ adds_at adds t
at_other a adds t h = let e : nat_eq a.0 t ≡ false = grind (arith, nat_tests) in at_cons a adds t ∙ ap (λ b. cond b 1 0 + adds_at adds t) e ∙ omega arith

none_at : (x : ℕ) (adds : List (ℕ × List ℕ)) → below_all nat_cmp x adds ≡ true → adds_at adds x ≡ 0
none_at x [] h = refl
none_at x (a ∷ adds) h =
    let below = below_first a x adds h in
    at_other a adds x (omega (arith, below)) ∙ none_at x adds (below_rest a x adds h)

-- no id was added twice
pub adds_distinct : (adds : List (ℕ × List ℕ)) → is_sorted nat_cmp adds ≡ true → Distinct adds
adds_distinct [] h t = omega arith
adds_distinct (a ∷ adds) h t = elim (eq_or a.0 t) [
  | inl e ↦ let none = none_at a.0 adds (first_below a adds h) in
      let here : adds_at adds t ≡ 0 = subst (λ z. adds_at adds z ≡ 0) e none in
      omega (arith, at_same a adds t e, here)
  | inr n ↦ omega (arith, at_other a adds t n, adds_distinct adds (rest_sorted a adds h) t)
]

pub all_filled : (adds : List (ℕ × List ℕ)) → All (λ a. a.1 ≢ []) adds → AddsFilled adds
all_filled [] h = tt
all_filled (a ∷ adds) h = (some a.1 (All-head (λ (a : ℕ × List ℕ). a.1 ≢ []) a adds h), all_filled adds (All-tail (λ (a : ℕ × List ℕ). a.1 ≢ []) a adds h))
  where
    some : (x : List ℕ) → x ≢ [] → 0 < length x
    some [] n = absurd (n refl)
    some (b ∷ x) n = omega arith

pub all_low : (adds : List (ℕ × List ℕ)) → All (λ a. a.0 ≤ MAX_TILE_ID) adds → AllLow adds
all_low [] h = tt
all_low (a ∷ adds) h = (All-head (λ (a : ℕ × List ℕ). a.0 ≤ MAX_TILE_ID) a adds h, all_low adds (All-tail (λ (a : ℕ × List ℕ). a.0 ≤ MAX_TILE_ID) a adds h))

-- the adds are the pairs of a map
pub rising_adds : (adds : List (ℕ × List ℕ)) → is_sorted nat_cmp adds ≡ true → All (λ a. a.0 ≤ MAX_TILE_ID) adds → All (λ a. a.1 ≢ []) adds → RisingAdds adds
rising_adds [] s low some = tt
rising_adds (a ∷ []) s low some = (All-head (λ (a : ℕ × List ℕ). a.1 ≢ []) a [] some, All-head (λ (a : ℕ × List ℕ). a.0 ≤ MAX_TILE_ID) a [] low)
rising_adds (a ∷ b ∷ adds) s low some = (
  All-head (λ (a : ℕ × List ℕ). a.1 ≢ []) a (b ∷ adds) some,
  below_first b a.0 adds (first_below a (b ∷ adds) s),
  rising_adds (b ∷ adds) (rest_sorted a (b ∷ adds) s) (All-tail (λ (a : ℕ × List ℕ). a.0 ≤ MAX_TILE_ID) a (b ∷ adds) low) (All-tail (λ (a : ℕ × List ℕ). a.1 ≢ []) a (b ∷ adds) some),
)

-- the tile at an id is the one that is found under it
pub tile_found : (adds : List (ℕ × List ℕ)) (t : ℕ) → tile_in adds t ≡ find nat_cmp t adds
tile_found [] t = refl
tile_found (a ∷ adds) t = elim (eq_or a.0 t) [
  | inl e ↦ let q : eq_by_cmp nat_cmp t a.0 ≡ true = grind (arith, nat_tests) in tile_here a adds t e ∙ sym (ap (λ b. cond b (Some a.1) (find nat_cmp t adds)) q)
  | inr n ↦ let q : eq_by_cmp nat_cmp t a.0 ≡ false = grind (arith, nat_tests) in tile_later a adds t n ∙ (tile_found adds t ∙ sym (ap (λ b. cond b (Some a.1) (find nat_cmp t adds)) q))
]

-- few and short adds by rising id have an archive that can be written
pub sorted_archivable : (o : Options) (adds : List (ℕ × List ℕ)) → OptionsFit o → AreFew o adds → is_sorted nat_cmp adds ≡ true → All (λ a. a.0 ≤ MAX_TILE_ID) adds → All (λ a. a.1 ≢ []) adds → IsArchivable o adds
sorted_archivable o adds fit few s low some =
    let f = archive_fits o adds fit few in
    record { options = fit; filled = all_filled adds some; low = all_low adds low; sized = few.sized; distinct = adds_distinct adds s; short = f.0; ends = f.1 }

-- it has exactly the adds
pub sorted_map : (o : Options) (adds : List (ℕ × List ℕ)) (t : ℕ) → IsArchivable o adds → archive_map (archive o adds) t ≡ find nat_cmp t adds
sorted_map o adds t a = map_is o adds t a ∙ tile_found adds t

-- and is well formed and clustered
pub sorted_formed : (o : Options) (adds : List (ℕ × List ℕ)) → IsArchivable o adds → is_sorted nat_cmp adds ≡ true → WellFormed (archive o adds) o true
sorted_formed o adds a s = subst (WellFormed (archive o adds) o) (ids_rise adds s) (parts_of o adds, whole_formed o adds a)
