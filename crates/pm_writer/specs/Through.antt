-- A look-up through a level of directories.
use Rattle.std.specs.Prelude.{◌≡◌, ℕ, ◌+◌, ◌<◌, List, [], ◌∷◌, ◌++◌, length, flat_map, None, MatchOption}
use Rattle.pm_writer.specs.Common.{dir_bytes, Entry, entry, first_id, scan}

-- ids strictly rise
abbrev pub Rising : List Entry → Type 0
Rising [] = Unit {0}
Rising (e ∷ []) = Unit {0}
Rising (e ∷ f ∷ es) = (e.tile_id < f.tile_id) × Rising (f ∷ es)

-- an entry names one of the directories that lie one behind another from a place on: it has the
-- place and length of its bytes
pub record Names (place : ℕ) (ls : List (List Entry)) (e : Entry) (l : List Entry) : Type 0 where
  pub before : List (List Entry)
  pub after : List (List Entry)
  pub parts : ls ≡ before ++ l ∷ after
  pub is : e ≡ entry (first_id l) (place + length (flat_map dir_bytes before)) (length (dir_bytes l)) 0

-- no entry where the flat directory has no answer, else one whose directory gives the flat directory's answer
abbrev pub Through : ℕ → List Entry → List (List Entry) → List Entry → ℕ → Type 0
Through place above ls es t = MatchOption (scan above t) (scan es t ≡ None) (λ e. (l : List Entry) × Names place ls e l × (scan l t ≡ scan es t))
