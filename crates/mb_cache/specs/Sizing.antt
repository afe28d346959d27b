-- What a purge to a size leaves of a cache.
use Rattle.std.specs.Prelude.{ℕ, ◌≡◌, ◌*◌, cond, nat_lt, suc, zero, List, [], ◌∷◌, Option, Some, None, drop, sum_by, take}
use Rattle.mb_cache.specs.Entries.{place_in}
use Rattle.mb_cache.specs.State.{row_at, without}
use Rattle.mb_cache.specs.declared.entries.Entry.{Entry}
use Rattle.mb_cache.specs.Common.{Cell, live_size_of, row_size, Tables}

-- the entries that go, in their order: before each round of 64 of them the live size of what is left has to be above a
-- number. So many of a round that has begun are still to go
unfoldable pub going : ℕ → ℕ → List Entry → Tables → List Entry
going most left [] t = []
going most zero (e ∷ es) t = cond (nat_lt most (live_size_of t)) (e ∷ going most 63 es (without (e ∷ []) t)) []
going most (suc left) (e ∷ es) t = e ∷ going most left es (without (e ∷ []) t)

-- the entries that a purge to a size throws out
abbrev pub oversize : ℕ → List Entry → Tables → List Entry
oversize most es t = going most 0 es t

-- entries without some whole rounds from the front
pub record WithoutRounds (es fs : List Entry) : Type 0 where
  pub rounds : ℕ
  pub entries : fs ≡ drop (64 * rounds) es

-- some rounds of a purge to a size were made, each whole, in their order
pub record SomeRounds (most : ℕ) (es : List Entry) (t u : Tables) : Type 0 where
  pub rounds : ℕ
  pub tables : u ≡ without (take (64 * rounds) (oversize most es t)) t

-- the size of a row, 0 of none
abbrev pub found_size : Option (List Cell) → ℕ
found_size None = 0
found_size (Some row) = row_size row

-- the size of the row of an entry
abbrev pub size_at : Tables → Entry → ℕ
size_at t e = found_size (row_at t (place_in e))

abbrev pub sizes_at : Tables → List Entry → ℕ
sizes_at t es = sum_by (size_at t) es
