-- The limits that words spell.
use Rattle.std.specs.Prelude.{◌≡◌, ◌≤◌, ℕ, nat_eq, if◌then◌else◌, List, [], ◌∷◌, Option, Some, None, codes, refl}
use Rattle.tile_serve.specs.Common.{number_to, option_and_then, option_map}
use Rattle.tile_serve.specs.declared.limits.ServeLimits.{ServeLimits}

abbrev pub limits : ℕ → ℕ → ℕ → ℕ → ServeLimits
limits directories entries tiles bytes = record { directories = directories; directory_entries = entries; tiles = tiles; tile_bytes = bytes }

-- a number from 1 to 4,294,967,295
abbrev pub count_from_one : List ℕ → Option ℕ
count_from_one word = option_and_then (λ n. if nat_eq n 0 then None else Some n) (number_to 4294967295 word)

abbrev pub limits_of_four : List ℕ → List ℕ → List ℕ → List ℕ → Option ServeLimits
limits_of_four directories entries tiles bytes =
    option_and_then (λ d. option_and_then (λ e. option_and_then (λ t. option_map (λ s. limits d e t s) (number_to 18446744073709551615 bytes)) (count_from_one tiles)) (number_to 4294967295 entries)) (count_from_one directories)

-- four numbers: how many directories and tiles there may be, at least one each, and how many
-- entries and bytes they may have
abbrev pub limits_in : List (List ℕ) → Option ServeLimits
limits_in (directories ∷ entries ∷ tiles ∷ bytes ∷ []) = limits_of_four directories entries tiles bytes
limits_in _ = None

-- there may be a directory and a tile
abbrev pub IsLimits : ServeLimits → Type 0
IsLimits l = (1 ≤ l.directories) × (1 ≤ l.tiles)

pub four_numbers : limits_in (codes "4" ∷ codes "100" ∷ codes "4" ∷ codes "0" ∷ []) ≡ Some (limits 4 100 4 0)
four_numbers = refl

pub no_tiles : limits_in (codes "4" ∷ codes "100" ∷ codes "0" ∷ codes "100" ∷ []) ≡ None
no_tiles = refl

pub too_many_entries : limits_in (codes "4" ∷ codes "4294967296" ∷ codes "4" ∷ codes "100" ∷ []) ≡ None
too_many_entries = refl

pub greatest : limits_in (codes "4294967295" ∷ codes "4294967295" ∷ codes "4294967295" ∷ codes "18446744073709551615" ∷ []) ≡ Some (limits 4294967295 4294967295 4294967295 18446744073709551615)
greatest = refl
