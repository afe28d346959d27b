-- The caches that hold directories.
use Rattle.std.specs.Prelude.{◌≡◌, ◌≢◌, ◌⊎◌, ℕ, List, length, true, Option, Some, None, Result, Ok, Err, nat_eq}
use Rattle.std.specs.HashMap.{get}
use Rattle.std.specs.Map.{lookup}
use Rattle.pm_reader.specs.Common.{Bounded, Entry, fits, IsWithin, PmtError, scan, used, with_pair}
use Rattle.pm_reader.specs.Caches.{CacheLimits, Held}
use Rattle.pm_reader.specs.declared.cache.map.HashMapCache.{HashMapCache}
use Rattle.pm_reader.specs.declared.cache.recent.LruDirCache.{LruDirCache}

abbrev pub held_in_map : HashMapCache → Held
held_in_map c o = get nat_eq c.directories o

-- the directories, the latest used first, with their capacity and, where there is one, their limit of entries together
abbrev pub uses_of : LruDirCache → Bounded (List Entry)
uses_of c = c.directories

abbrev pub held_by_use : LruDirCache → Held
held_by_use c o = lookup (nat_eq o) (uses_of c).pairs

-- the same is held
abbrev pub HoldsSame : Held → Held → Type 0
HoldsSame old new = (o : ℕ) → new o ≡ old o

-- a directory is held at an offset, and the rest as before
abbrev pub HoldsAlso : Held → Held → ℕ → List Entry → Type 0
HoldsAlso old new at d = (new at ≡ Some d) × ((o : ℕ) → o ≢ at → new o ≡ old o)

-- what was used last comes first, and the bounds stay
abbrev pub IsUsed : Bounded (List Entry) → Bounded (List Entry) → ℕ → Type 0
IsUsed old new at = new ≡ used old at

-- these are the limits of a cache, and what it holds is within them
abbrev pub IsLimited : LruDirCache → CacheLimits → Type 0
IsLimited c l = ((uses_of c).capacity ≡ l.directories) × ((uses_of c).limit ≡ l.entries) × IsWithin length (uses_of c)

-- a directory that fits is put in front of the others, and the last ones are given up until the bounds hold
abbrev pub PutsRecent : Bounded (List Entry) → Bounded (List Entry) → ℕ → List Entry → Type 0
PutsRecent old new at d = (fits length old.limit d ≡ true) × (new ≡ with_pair length old at d)

-- After a call with a fetcher: where a directory was held, or the fetcher refused, it stays so; else the fetched
-- directory was put, or it was too long or there was no memory, and it stays so.
abbrev pub FetchLeaves : Option (List Entry) → (Result (List Entry) PmtError → Type 0) → ℕ → Type 0 → (List Entry → Type 0) → Result (Option Entry) PmtError → Type 0
FetchLeaves (Some held) gave t same puts result = same
FetchLeaves None gave t same puts (Err e) = same
FetchLeaves None gave t same puts (Ok found) = (d : List Entry) × gave (Ok d) × (found ≡ scan d t) × (puts d ⊎ same)
