-- What the state of adds means.
use Rattle.std.specs.Prelude.{◌≡◌, ℕ, Bool, true, List, [], ◌∷◌, nat_lt, Option, Some, None}
use Rattle.pm_writer.specs.Adds.{contents_from, unsorted}
use Rattle.pm_writer.specs.Common.{Holds, place_in, xxh3_64}
use Rattle.pm_writer.specs.Archive.{ids_of, rising}
use Rattle.pm_writer.specs.Bounds.{AddsFilled, AllLow, AllSized}
use Rattle.pm_writer.specs.declared.adds.Adds.{Adds}

-- the id of the last add, where there is one
abbrev pub last_of : List (ℕ × List ℕ) → Option ℕ
last_of [] = None
last_of (a ∷ []) = Some a.0
last_of (a ∷ b ∷ adds) = last_of (b ∷ adds)

-- an id is above the last one
abbrev pub is_above : Option ℕ → ℕ → Bool
is_above None id = true
is_above (Some last) id = nat_lt last id

-- the entries so far and their order, the contents aside
pub record HasEntries (s : Adds) (adds : List (ℕ × List ℕ)) : Type 0 where
  pub entries : s.entries.items ≡ unsorted (place_in (contents_from [] adds)) adds
  pub last : s.last ≡ last_of adds
  pub rises : s.rises ≡ rising (ids_of adds)
  pub filled : AddsFilled adds
  pub low : AllLow adds
  pub sized : AllSized adds

-- the state after these adds, none of which is empty
pub record Means (s : Adds) (adds : List (ℕ × List ℕ)) : Type 0 where
  pub contents : Holds xxh3_64 s.contents (contents_from [] adds)
  pub rest : HasEntries s adds
