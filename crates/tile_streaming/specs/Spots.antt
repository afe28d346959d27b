-- Marks in the order of their places.
use Rattle.std.specs.Prelude.{ℕ, suc, ◌+◌, ◌*◌, ◌^◌, false, List, [], ◌∷◌, map, slice_index_or}
use Rattle.std.specs.List.Sorted.{IsNonDecreasingBy, IsPermutation}
use Rattle.tile_streaming.specs.Common.{Place}
use Rattle.tile_streaming.specs.Finding.{place_with}
use Rattle.tile_streaming.specs.declared.mark.Mark.{Mark}
use Rattle.tile_streaming.specs.declared.spots.Spot.{Spot}

-- a number of places of zoom 0 to 31 that rises in their order
abbrev pub rank : Place → ℕ
rank p = (2 ^ p.zoom + p.column) * 2 ^ p.zoom + p.row

-- the spots of marks, of which the first has this index
abbrev pub spots_from : ℕ → List Mark → List Spot
spots_from i [] = []
spots_from i (m ∷ marks) = record { rank = rank (place_with m.id); index = i } ∷ spots_from (suc i) marks

-- the marks at spots; past the end none that a tile has
abbrev pub no_mark : Mark
no_mark = record { id = 0; digest = 0; length = 0; is_long = false; gzip = false }

abbrev pub mark_at : List Mark → Spot → Mark
mark_at marks s = slice_index_or marks s.index no_mark

abbrev pub marks_at : List Mark → List Spot → List Mark
marks_at marks spots = map (mark_at marks) spots

-- a spot for each mark, in the order of their places
pub record AreSpots (marks : List Mark) (spots : List Spot) : Type 0 where
  pub same : IsPermutation (spots_from 0 marks) spots
  pub rising : IsNonDecreasingBy (λ s. s.rank) spots
