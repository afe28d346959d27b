-- How rows are counted in the paths of tiles.
use Rattle.std.specs.Prelude.{ℕ}
use Rattle.mb_tree.specs.declared.scheme.TileScheme.{TileScheme}
use Rattle.mb_tree.specs.declared.scheme.TileScheme.TheVariants.{Xyz, Tms}
use Rattle.mb_tree.specs.Common.{inverted_y}

-- a row of a zoom: as it is, or counted from the other edge
abbrev pub turned : TileScheme → ℕ → ℕ → ℕ
turned Xyz zoom row = row
turned Tms zoom row = inverted_y zoom row
