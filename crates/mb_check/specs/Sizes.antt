-- Sizes of tiles, one after another.
use Rattle.std.specs.Prelude.{ℕ, ◌==◌, ◌+◌, cond, min, max, List, [], ◌∷◌, Option, Some, None, unwrap_or}
use Rattle.mb_check.specs.Totals.{capped}
use Rattle.mb_check.specs.declared.sizes.Sizes.{Sizes}
use Rattle.mb_check.specs.declared.zoom_info.ZoomInfo.{ZoomInfo}

-- no tiles
abbrev pub no_sizes : Sizes
no_sizes = record { tile_count = 0; least = None; greatest = None; total = 0 }

-- the least and the greatest with one more
abbrev pub least_with : Option ℕ → ℕ → Option ℕ
least_with None n = Some n
least_with (Some m) n = Some (min m n)

abbrev pub greatest_with : Option ℕ → ℕ → Option ℕ
greatest_with None n = Some n
greatest_with (Some m) n = Some (max m n)

-- one more tile, null or of a size
abbrev pub with_size : Sizes → Option ℕ → Sizes
with_size s None = record s { tile_count = capped (s.tile_count + 1) }
with_size s (Some n) = record {
  tile_count = capped (s.tile_count + 1);
  least = least_with s.least n;
  greatest = greatest_with s.greatest n;
  total = capped (s.total + n);
}

-- one more tile, if there is one
abbrev pub with_tile : Sizes → Option (Option ℕ) → Sizes
with_tile s None = s
with_tile s (Some size) = with_size s size

-- more tiles
abbrev pub with_sizes : Sizes → List (Option ℕ) → Sizes
with_sizes s [] = s
with_sizes s (x ∷ xs) = with_sizes (with_size s x) xs

-- what is told of a zoom
abbrev pub info_by : ℕ → Sizes → Option ZoomInfo
info_by zoom s = cond (s.tile_count == 0) None (Some (record {
  zoom = zoom;
  tile_count = s.tile_count;
  min_tile_size = unwrap_or s.least 0;
  max_tile_size = unwrap_or s.greatest 0;
  total_size = s.total;
}))
