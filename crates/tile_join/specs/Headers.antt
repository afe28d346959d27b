-- What the joined archive says beside its tiles, by the headers of the sources.
use Rattle.std.specs.Prelude.{◌≡◌, ℕ, zero, suc, List, [], ◌∷◌, max, min}
use Rattle.std.specs.Int.{int_max, int_min}
use Rattle.tile_join.specs.Common.{Header, Options, options_with_zooms}

-- a header with the zooms and the bounds of another one beside its own
abbrev pub over_header : Header → Header → Header
over_header h g = record h {
  min_zoom = min h.min_zoom g.min_zoom;
  max_zoom = max h.max_zoom g.max_zoom;
  min_longitude = int_min h.min_longitude g.min_longitude;
  min_latitude = int_min h.min_latitude g.min_latitude;
  max_longitude = int_max h.max_longitude g.max_longitude;
  max_latitude = int_max h.max_latitude g.max_latitude;
}

-- with those of several others
abbrev pub over_headers : Header → List Header → Header
over_headers h [] = h
over_headers h (g ∷ gs) = over_headers (over_header h g) gs

-- Labels, type, centre and metadata of the last source; the least and the greatest zoom, and the box around the bounds,
-- of all.
abbrev pub options_for : Header → List Header → List ℕ → Options
options_for last hs text = options_with_zooms (over_headers last hs) text (over_headers last hs).min_zoom (over_headers last hs).max_zoom

-- a source labels its tiles as the last one does
abbrev pub IsAlike : Header → Header → Type 0
IsAlike last h = (h.tile_type ≡ last.tile_type) × (h.tile_compression ≡ last.tile_compression)

-- the first that doesn't has this number
abbrev pub UnlikeAt : Header → List Header → ℕ → Type 0
UnlikeAt last [] k = ⊥
UnlikeAt last (h ∷ hs) zero = IsAlike last h → ⊥
UnlikeAt last (h ∷ hs) (suc k) = IsAlike last h × UnlikeAt last hs k
