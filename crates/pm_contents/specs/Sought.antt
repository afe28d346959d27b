-- What bytes were found as among contents.
use Rattle.std.specs.Prelude.{◌≡◌, ℕ, List, [], length, Option, Some, None}
use Rattle.pm_contents.specs.Common.{get}
use Rattle.pm_contents.specs.Contents.{IsUnasked, content_cmp, first_of}
use Rattle.pm_contents.specs.Places.{IsBytes, found_in}
use Rattle.pm_contents.specs.declared.contents.Contents.{Contents}
use Rattle.pm_contents.specs.declared.sought.Sought.{Sought}
use Rattle.pm_contents.specs.declared.sought.Sought.TheVariants as sought
use Rattle.pm_contents.specs.declared.span.Span.{Span}

-- the place that bytes were found at
abbrev pub place_sought : Sought → Option ℕ
place_sought (sought.Known place) = Some place
place_sought (sought.First digest) = None
place_sought (sought.Other content) = None

-- what is left to write of them
abbrev pub piece_sought : Sought → List ℕ → List ℕ
piece_sought (sought.Known place) x = []
piece_sought (sought.First digest) x = x
piece_sought (sought.Other content) x = x

-- bytes that are to be put: as the first of their digest, or among the others where there is one
abbrev pub IsSought : (List ℕ → ℕ) → Contents → List ℕ → Sought → Type 0
IsSought name c x (sought.Known place) = Unit {0}
IsSought name c x (sought.First digest) = (digest ≡ name x) × (first_of c digest ≡ None)
IsSought name c x (sought.Other content) = (content ≡ x) × (get content_cmp c.others x ≡ None) × ((s : Span) × (first_of c (name x) ≡ Some s))

-- What bytes are taken for, as they were found: for bytes of their length and digest alone, or for a mark of their
-- length; new ones for themselves or a mark; and for themselves where nothing has to be read.
pub record FoundAs (name : List ℕ → ℕ) (c : Contents) (cs : List (List ℕ)) (x : List ℕ) (s : Sought) (taken : List ℕ) : Type 0 where
  pub found : found_in cs taken ≡ place_sought s
  pub size : length taken ≡ length x
  pub like : IsBytes taken → name taken ≡ name x
  pub own : place_sought s ≡ None → IsBytes taken → taken ≡ x
  pub unread : IsUnasked c (name x) (length x) → taken ≡ x
