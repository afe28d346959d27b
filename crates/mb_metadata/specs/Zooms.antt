-- The zooms of a set.
use Rattle.std.specs.Prelude.{ℕ, min, max, List, [], ◌∷◌, Option, Some, None, Result, Ok, fold, map}
use Rattle.mb_metadata.specs.Common.{entries, MbtError, State, TileSet}

-- the least and the greatest of numbers; None where there are none
abbrev pub span : List ℕ → Option (ℕ × ℕ)
span [] = None
span (z ∷ zs) = Some (fold min z zs, fold max z zs)

-- the same with one more
abbrev pub with_zoom : Option (ℕ × ℕ) → ℕ → Option (ℕ × ℕ)
with_zoom None z = Some (z, z)
with_zoom (Some s) z = Some (min s.0 z, max s.1 z)

-- the zooms of all tiles, null ones included
abbrev pub zooms_of : TileSet → List ℕ
zooms_of tiles = map (λ e. e.0.zoom) (entries tiles)

abbrev pub zooms_answer : State → Result (Option (ℕ × ℕ)) MbtError
zooms_answer s = Ok (span (zooms_of s.tiles))
