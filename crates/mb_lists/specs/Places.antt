-- Places of tiles and their ids.
use Rattle.std.specs.Prelude.{ℕ, ◌-◌, ◌<◌, ◌≤◌, ◌^◌}
use Rattle.tile_ids.specs.Hilbert.{tile_id}
use Rattle.mb_lists.specs.Common.{Place}

-- the id of a place, whose row is counted from the bottom
abbrev pub address : Place → ℕ
address p = tile_id p.zoom p.column (2 ^ p.zoom - 1 - p.row)

-- a place of zoom 0 to 31 in range
pub record InRange (p : Place) : Type 0 where
  pub zoom : p.zoom ≤ 31
  pub column : p.column < 2 ^ p.zoom
  pub row : p.row < 2 ^ p.zoom
