-- Caches of directories: what one holds, and what its calls answer.
use Rattle.std.specs.Prelude.{◌≡◌, ◌⊎◌, ℕ, List, Option, Some, None, Result, Ok, Err}
use Rattle.pm_reader.specs.Common.{Entry, PmtError, scan}
use Rattle.pm_reader.specs.declared.cache.DirCacheResult.{DirCacheResult}
use Rattle.pm_reader.specs.declared.cache.DirCacheResult.TheVariants.{NotCached, NotFound, Found}

-- how many directories may be held, and how many entries they may have together, where that is bounded
pub record CacheLimits : Type 0 where
  pub directories : ℕ
  pub entries : Option ℕ

-- directories by the places where they lie
abbrev pub Held : Type 0
Held = ℕ → Option (List Entry)

abbrev pub from_found : Option Entry → DirCacheResult
from_found None = NotFound
from_found (Some e) = Found e

-- what is known of an id where this is held at the offset
abbrev pub answer_of : Option (List Entry) → ℕ → DirCacheResult
answer_of None t = NotCached
answer_of (Some d) t = from_found (scan d t)

-- each pair that is held now was held before, or is the new one at its offset
abbrev pub AddsOnly : Held → Held → ℕ → (List Entry → Type 0) → Type 0
AddsOnly old new at IsNew = (o : ℕ) (d : List Entry) → new o ≡ Some d → (old o ≡ Some d) ⊎ ((o ≡ at) × IsNew d)

-- each pair that is held now was held before
abbrev pub AddsNone : Held → Held → Type 0
AddsNone old new = (o : ℕ) (d : List Entry) → new o ≡ Some d → old o ≡ Some d

-- a held directory answers alone
abbrev pub AnswersHeld : Option (List Entry) → ℕ → Result (Option Entry) PmtError → Type 0
AnswersHeld None t result = Unit {0}
AnswersHeld (Some d) t result = result ≡ Ok (scan d t)

-- where nothing is held, what the fetcher gave is answered: its directory's answer, or its refusal
abbrev pub AnswersFetched : Option (List Entry) → (Result (List Entry) PmtError → Type 0) → ℕ → Result (Option Entry) PmtError → Type 0
AnswersFetched (Some d) gave t result = Unit {0}
AnswersFetched None gave t (Ok found) = (d : List Entry) × gave (Ok d) × (found ≡ scan d t)
AnswersFetched None gave t (Err e) = gave (Err e)
