-- Archives that are the parts of one.
use Rattle.std.specs.Prelude.{◌≡◌, ◌||◌, ℕ, Bool, true, false, List, [], ◌∷◌, Option, Some}
use Rattle.pm_format.specs.WellFormed.{WellFormed}
use Rattle.pm_format.specs.declared.compression.Compression.TheVariants as compression
use Rattle.pm_walk.specs.Intervals.{in_intervals}
use Rattle.tile_extract.specs.Part.{cut}
use Rattle.tile_extract.specs.declared.part.TilePart.{TilePart}
use Rattle.tile_join.specs.Common.{archive_map, Options}

-- each archive has the tiles of a map at the ids of its part
abbrev pub ArePartsOf : (ℕ → Option (List ℕ)) → List (List ℕ) → List TilePart → Type 0
ArePartsOf map [] [] = Unit {0}
ArePartsOf map [] (p ∷ ps) = ⊥
ArePartsOf map (b ∷ bs) [] = ⊥
ArePartsOf map (b ∷ bs) (p ∷ ps) = ((id : ℕ) → archive_map b id ≡ cut map p id) × ArePartsOf map bs ps

-- whether an id lies in one of the parts
abbrev pub in_parts : ℕ → List TilePart → Bool
in_parts id [] = false
in_parts id (p ∷ ps) = in_intervals id p.intervals || in_parts id ps

-- each tile of the map lies in one of them
abbrev pub Cover : (ℕ → Option (List ℕ)) → List TilePart → Type 0
Cover map ps = (id : ℕ) (bytes : List ℕ) → map id ≡ Some bytes → in_parts id ps ≡ true

-- options that a join may give: directories are labelled `None`, and leaves have the usual number of entries
pub record AreUsual (o : Options) : Type 0 where
  pub plain : o.internal_compression ≡ compression.None
  pub leaves : o.max_leaf_entries ≡ 4096

-- each archive is well formed and has these options
abbrev pub AreWith : Options → List (List ℕ) → Type 0
AreWith o [] = Unit {0}
AreWith o (b ∷ bs) = WellFormed b o true × AreWith o bs
