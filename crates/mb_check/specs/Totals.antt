-- Counts and sizes of the tiles of a set.
use Rattle.std.specs.Prelude.{ℕ, ◌==◌, ◌++◌, ◌-◌, ◌^◌, zero, suc, cond, min, max, List, [], ◌∷◌, Option, Some, None, Result, Ok, fold, length, map, option_map, slice_get, sum, sum_by, unwrap_or}
use Rattle.mb_check.specs.Common.{bytes_of, entries, filter_map, len, MbtError, Place, State, TileSet}
use Rattle.mb_check.specs.declared.tile_counts.Summary.{Summary}
use Rattle.mb_check.specs.declared.zoom_info.ZoomInfo.{ZoomInfo}

-- a sum, which stops at the greatest u64
abbrev pub capped : ℕ → ℕ
capped n = min n (2 ^ 64 - 1)

-- the least and the greatest of numbers
abbrev pub least : List ℕ → Option ℕ
least [] = None
least (x ∷ xs) = Some (fold min x xs)

abbrev pub greatest : List ℕ → Option ℕ
greatest [] = None
greatest (x ∷ xs) = Some (fold max x xs)

-- the size of a tile of a zoom, which null has not
abbrev pub size_at : ℕ → Place × Option (List ℕ) → Option (Option ℕ)
size_at zoom e = cond (e.0.zoom == zoom) (Some (option_map length e.1)) None

-- the sizes of the tiles of a zoom
abbrev pub sizes_at : ℕ → List (Place × Option (List ℕ)) → List (Option ℕ)
sizes_at zoom es = filter_map (size_at zoom) es

-- the sizes that there are
abbrev pub known : List (Option ℕ) → List ℕ
known sizes = filter_map (λ size. size) sizes

-- what is told of a zoom by the sizes of its tiles, if it has tiles: the least and the greatest
-- are 0 where all are null
abbrev pub info_of : ℕ → List (Option ℕ) → Option ZoomInfo
info_of zoom [] = None
info_of zoom (s ∷ ss) = Some (record {
  zoom = zoom;
  tile_count = length (s ∷ ss);
  min_tile_size = unwrap_or (least (known (s ∷ ss))) 0;
  max_tile_size = unwrap_or (greatest (known (s ∷ ss))) 0;
  total_size = capped (sum (known (s ∷ ss)));
})

-- the numbers below one, rising
unfoldable pub below : ℕ → List ℕ
below zero = []
below (suc n) = below n ++ n ∷ []

-- the zooms 0 to 30 that have tiles, by rising zoom
unfoldable pub zoom_infos : TileSet → List ZoomInfo
zoom_infos tiles = filter_map (λ zoom. info_of zoom (sizes_at zoom (entries tiles))) (below 31)

-- the bytes of all tiles
abbrev pub total_of : TileSet → ℕ
total_of tiles = capped (sum_by (λ e. length (bytes_of e.1)) (entries tiles))

-- the last of a list
abbrev pub last_of : {A : Type 0} → List A → Option A
last_of xs = slice_get xs (length xs - 1)

-- the whole by its zooms, and its tiles and bytes in all
abbrev pub summary_of : State → Summary
summary_of s = record {
  mbt_type = s.layout;
  tile_count = len s.tiles;
  min_tile_size = least (map (λ i. i.min_tile_size) (zoom_infos s.tiles));
  max_tile_size = greatest (map (λ i. i.max_tile_size) (zoom_infos s.tiles));
  total_size = total_of s.tiles;
  min_zoom = option_map (λ i. i.zoom) (slice_get (zoom_infos s.tiles) 0);
  max_zoom = option_map (λ i. i.zoom) (last_of (zoom_infos s.tiles));
  zoom_info = zoom_infos s.tiles;
}

abbrev pub summary_answer : State → Result Summary MbtError
summary_answer s = Ok (summary_of s)
