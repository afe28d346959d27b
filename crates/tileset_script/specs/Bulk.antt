-- Sets that are made from two numbers.
use Rattle.std.specs.Prelude.{ℕ, zero, suc, ◌/◌, pos, List, [], ◌∷◌, map, Option}
use Rattle.tileset_script.specs.Common.{Blob, Cell, Coord, coord_of, Int, inverted_y, no_rows, option_to_list, set_tables, Tables, Tiles, with_row}
use Rattle.std.specs.Fmt.{decimal}
use Rattle.mb_tables.specs.declared.kind.MbtType.TheVariants.{Flat}
use Rattle.tileset_script.specs.Script.{Script}
use Rattle.tileset_script.specs.Setting.{options_of}
use Rattle.tileset_script.specs.declared.script.setting.Setting.TheVariants.{MaxLeafEntries}

-- the row of a coordinate, whose contents are a number in decimal
abbrev pub numbered_row : Coord → ℕ → List Cell
numbered_row c number = Int (pos c.z) ∷ Int (pos c.x) ∷ Int (pos (inverted_y c.z c.y)) ∷ Blob (decimal number) ∷ []

-- a flat set with a row for each of the first ids, so many ids each with the same contents
unfoldable pub bulk_tables : ℕ → ℕ → Tables
bulk_tables zero repeat = no_rows (set_tables Flat)
bulk_tables (suc id) repeat = with_row (bulk_tables id repeat) Tiles (numbered_row (coord_of id) (id / repeat))

-- as a script with no other option than how many entries a leaf may have, where that is said, and without queries
abbrev pub bulk_script : ℕ → ℕ → Option ℕ → Script
bulk_script tiles repeat leaf = record { options = options_of (map MaxLeafEntries (option_to_list leaf)); base = bulk_tables tiles repeat; patches = []; queries = [] }
