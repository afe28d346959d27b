-- The copy that the words of `copy` ask for.
use Rattle.std.specs.Prelude.{◌≡◌, ◌&&◌, ◌||◌, ℕ, Bool, true, false, List, [], ◌∷◌, Option, Some, None, codes, if◌then◌else◌, is_some, option_map, refl}
use Rattle.std.specs.Option.{option_and_then}
use Rattle.mb_copy.specs.declared.copy_type.CopyType.TheVariants.{All}
use Rattle.tile_command.specs.Boxes.{place_box_of}
use Rattle.tile_command.specs.Choices.{algorithm_of, copy_of, layout_of, mode_of, zoom_of, zooms_of}
use Rattle.tile_command.specs.Common.{CopyDuplicateMode, CopyType, HashAlgorithm, MbtilesCopier, MbtTypeCli, TileBox}
use Rattle.tile_command.specs.Asked.{value_in}

-- options with their values
abbrev pub Options : Type 0
Options = List (List ℕ × List ℕ)

-- what the value of an option stands for, and something else where it isn't there; none where the
-- value stands for nothing
abbrev pub said : {A : Type 0} → (List ℕ → Option A) → A → Option (List ℕ) → Option A
said read other None = Some other
said read other (Some word) = read word

abbrev pub copy_said : Options → Option CopyType
copy_said options = said copy_of All (value_in options (codes "--copy"))

-- what the value of an option stands for, if it is there
abbrev pub said_any : {A : Type 0} → (List ℕ → Option A) → Option (List ℕ) → Option (Option A)
said_any read word = said (λ w. option_map (λ a. Some a) (read w)) None word

abbrev pub layout_said : Options → Option (Option MbtTypeCli)
layout_said options = said_any layout_of (value_in options (codes "--mbtiles-type"))

abbrev pub mode_said : Options → Option (Option CopyDuplicateMode)
mode_said options = said_any mode_of (value_in options (codes "--on-duplicate"))

abbrev pub algorithm_said : Options → Option (Option HashAlgorithm)
algorithm_said options = said_any algorithm_of (value_in options (codes "--hash-algorithm"))

abbrev pub zoom_said : List ℕ → Options → Option (Option ℕ)
zoom_said name options = said_any zoom_of (value_in options name)

abbrev pub levels_said : Options → Option (List ℕ)
levels_said options = said zooms_of [] (value_in options (codes "--zoom-levels"))

-- the boxes that are copied: one, where a word says it
abbrev pub boxes_said : Options → Option (List TileBox)
boxes_said options = said (λ w. option_map (λ b. b ∷ []) (place_box_of w)) [] (value_in options (codes "--box"))

abbrev pub has : Options → List ℕ → Bool
has options name = is_some (value_in options name)

-- zooms by a list and by bounds
abbrev pub has_both : Options → Bool
has_both options = has options (codes "--zoom-levels") && (has options (codes "--min-zoom") || has options (codes "--max-zoom"))

-- a copy of these, without a list of zooms and boxes
abbrev pub copier : Options → CopyType → Option MbtTypeCli → Option CopyDuplicateMode → Option HashAlgorithm → Option ℕ → Option ℕ → MbtilesCopier
copier options copy layout mode algorithm least greatest = record {
  copy = copy;
  dst_type_cli = layout;
  dst_type = None;
  on_duplicate = mode;
  min_zoom = least;
  max_zoom = greatest;
  zoom_levels = [];
  bbox = [];
  skip_agg_tiles_hash = has options (codes "--skip-agg-tiles-hash");
  hash_algorithm = algorithm;
  force = has options (codes "--force");
  validate = has options (codes "--validate");
}

abbrev pub copy_with : Options → Option MbtilesCopier
copy_with options =
    option_and_then (λ copy. option_and_then (λ layout. option_and_then (λ mode. option_and_then (λ algorithm.
    option_and_then (λ least. option_map (copier options copy layout mode algorithm least) (zoom_said (codes "--max-zoom") options)) (zoom_said (codes "--min-zoom") options)) (algorithm_said options))
    (mode_said options)) (layout_said options)) (copy_said options)

abbrev pub with_lists : List ℕ → List TileBox → MbtilesCopier → MbtilesCopier
with_lists levels boxes c = record c { zoom_levels = levels; bbox = boxes }

-- one whose values are all of their options, with zooms by a list or by bounds
abbrev pub copier_of : Options → Option MbtilesCopier
copier_of options =
    if has_both options then None
    else option_and_then (λ levels. option_and_then (λ boxes. option_map (with_lists levels boxes) (copy_with options)) (boxes_said options)) (levels_said options)
