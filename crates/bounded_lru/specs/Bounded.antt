-- Pairs of a number and a value, the latest used first, and what bounds them.
use Rattle.std.specs.Prelude.{◌≡◌, ℕ, ◌+◌, ◌-◌, ◌<◌, ◌≤◌, List, [], ◌∷◌, length, take, nat_eq, nat_le, if◌then◌else◌, Option, Some, None, Result, Ok, Err, Bool, true, false, IfSome, refl}
use Rattle.std.specs.Coded.{Coded, code_by, coded×, coded_list, coded_option, coded_ℕ}
use Rattle.bounded_lru.specs.Common.{promoted, remove_entry}

-- the pairs, how many there may be, and what they may weigh together
pub record Bounded (V : Type 0) : Type 0 where
  pub pairs : List (ℕ × V)
  pub capacity : ℕ
  pub limit : Option ℕ

module _ {V : Type 0} where
  abbrev pub bounded : List (ℕ × V) → ℕ → Option ℕ → Bounded V
  bounded es capacity limit = record { pairs = es; capacity = capacity; limit = limit }

  abbrev pub bounded_code : Coded V → Coded (Bounded V)
  bounded_code v = code_by (List (ℕ × V) × (ℕ × Option ℕ)) (coded× (coded_list (coded× coded_ℕ v)) (coded× coded_ℕ (coded_option coded_ℕ))) (λ b. (b.pairs, (b.capacity, b.limit))) (λ p. bounded p.0 p.1.0 p.1.1) (λ _. refl)

  -- the pair of a key is the latest used
  abbrev pub used : Bounded V → ℕ → Bounded V
  used b k = bounded (promoted (nat_eq k) b.pairs) b.capacity b.limit

  module _ (weight : V → ℕ) where
    -- what pairs weigh together
    abbrev pub weight_of : List (ℕ × V) → ℕ
    weight_of [] = 0
    weight_of (e ∷ es) = weight e.1 + weight_of es

    -- what a pair weighs, if there is one
    abbrev pub weight_of_pair : Option (ℕ × V) → ℕ
    weight_of_pair None = 0
    weight_of_pair (Some e) = weight e.1

    -- the longest front that weighs no more than this
    abbrev pub light_front : ℕ → List (ℕ × V) → List (ℕ × V)
    light_front room [] = []
    light_front room (e ∷ es) = if nat_le (weight e.1) room then e ∷ light_front (room - weight e.1) es else []

    -- the longest front that is within a limit, where there is one
    abbrev pub light : Option ℕ → List (ℕ × V) → List (ℕ × V)
    light None es = es
    light (Some room) es = light_front room es

    -- a pair stands in front, in place of one of its key, and the last ones are given up until the
    -- rest is within the bounds
    abbrev pub with_pair : Bounded V → ℕ → V → Bounded V
    with_pair b k v = bounded (light b.limit (take b.capacity ((k, v) ∷ remove_entry (nat_eq k) b.pairs))) b.capacity b.limit

    -- whether a value alone is within the limit
    abbrev pub fits : Option ℕ → V → Bool
    fits None v = true
    fits (Some room) v = nat_le (weight v) room

    -- there may be a pair, and the pairs are within the bounds
    abbrev pub IsWithin : Bounded V → Type 0
    IsWithin b = (0 < b.capacity) × (length b.pairs ≤ b.capacity) × IfSome b.limit (λ most. weight_of b.pairs ≤ most)

    -- what is held after a pair is put: `Ok` says whether its value is within the limit, and only such a value is held
    abbrev pub Puts : {E : Type 0} → Bounded V → Bounded V → ℕ → V → Result Bool E → Type 0
    Puts old new k v (Ok true) = (fits old.limit v ≡ true) × (new ≡ with_pair old k v)
    Puts old new k v (Ok false) = (fits old.limit v ≡ false) × (new ≡ old)
    Puts old new k v (Err e) = new ≡ old
