-- Intervals of ids, and the ends of ranges of ids.
use Rattle.std.specs.Prelude.{ℕ, ◌+◌, ◌≤◌, Bool, true, false, List, [], ◌∷◌, nat_lt, nat_le, ◌&&◌, ◌||◌, Option, Some, None}

-- whether an id lies in an interval, which has its two ids, and whether it lies in one of some
abbrev pub lies_in : ℕ → ℕ × ℕ → Bool
lies_in t i = nat_le i.0 t && nat_le t i.1

abbrev pub in_intervals : ℕ → List (ℕ × ℕ) → Bool
in_intervals t [] = false
in_intervals t (i ∷ is) = lies_in t i || in_intervals t is

-- intervals of at least one id, in order and apart, from an id on
abbrev pub AreApart : ℕ → List (ℕ × ℕ) → Type 0
AreApart low [] = Unit {0}
AreApart low (i ∷ is) = (low ≤ i.0) × (i.0 ≤ i.1) × AreApart (i.1 + 1) is

-- the end of a range of ids, where it has one: whether an id lies below it, and whether a run that
-- ends at one stays within it
abbrev pub is_below : Option ℕ → ℕ → Bool
is_below None n = true
is_below (Some end) n = nat_lt n end

abbrev pub stays_within : Option ℕ → ℕ → Bool
stays_within None n = true
stays_within (Some end) n = nat_le n end

-- whether an interval has an id from one on and below an end
abbrev pub meets_one : ℕ → Option ℕ → ℕ × ℕ → Bool
meets_one first end i = nat_le first i.1 && is_below end i.0

abbrev pub meets_any : ℕ → Option ℕ → List (ℕ × ℕ) → Bool
meets_any first end [] = false
meets_any first end (i ∷ is) = meets_one first end i || meets_any first end is

-- whether one of them has an id of a range
abbrev pub is_met : List (ℕ × ℕ) → ℕ → Option ℕ → Bool
is_met is first end = is_below end first && meets_any first end is
