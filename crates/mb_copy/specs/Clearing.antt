-- Tiles and names that are cleared from a source, since they aren't put.
use Rattle.std.specs.Prelude.{ℕ, ◌≡◌, Bool, true, not, List, [], ◌∷◌, Option, Some, filter, map}
use Rattle.std.specs.declared.cmp.Ordering.{Ordering}
use Rattle.mb_copy.specs.Common.{AllOnBoard, AreTimes, contains_key, Dates, FinMap, get, Names, Place, remove, State, TileSet}
use Rattle.mb_copy.specs.Chosen.{is_put, is_put_name}
use Rattle.mb_copy.specs.declared.copier.MbtilesCopier.{MbtilesCopier}

-- keys are removed, one after another
abbrev pub removed_all : {K V : Type 0} {R : K → K → Ordering} → FinMap R V → List K → FinMap R V
removed_all m [] = m
removed_all m (k ∷ ks) = removed_all (remove m k) ks

-- the keys of entries that don't pass a test
abbrev pub failing : {K V : Type 0} → (K → Bool) → List (K × V) → List K
failing test es = filter (λ k. not (test k)) (map (λ e. e.0) es)

-- the places of tiles that aren't put, and the names
abbrev pub unput_places : MbtilesCopier → TileSet → State → List (Place × Option (List ℕ)) → List Place
unput_places c tiles base es = failing (is_put c tiles base) es

abbrev pub unput_names : MbtilesCopier → Names → List (List ℕ × Option (List ℕ)) → List (List ℕ)
unput_names c base es = failing (is_put_name c base) es

-- what is known of a source: its tiles stand at places of zoom 0 to 30, and times of their kinds at places of tiles
pub record IsSource (s : State) : Type 0 where
  pub on_board : AllOnBoard s
  pub dated : (p : Place) → contains_key s.dates p ≡ true → contains_key s.tiles p ≡ true
  pub times : (p : Place) (d : Dates) → get s.dates p ≡ Some d → AreTimes d
