-- Files that are written, one after another.
use Rattle.std.specs.Prelude.{◌≡◌, ℕ, Option, Some, None, option_and_then, slice_get}
use Rattle.mb_tree.specs.Common.{entries, insert, TileSet}
use Rattle.mb_tree.specs.Files.{File, Files}
use Rattle.mb_tree.specs.Unpacked.{file_of}
use Rattle.mb_tree.specs.declared.format.FileFormat.{FileFormat}
use Rattle.mb_tree.specs.declared.scheme.TileScheme.{TileScheme}

-- a file is written, if there is one
abbrev pub with_file : Files → Option File → Files
with_file files (Some f) = insert files f.0 f.1
with_file files None = files

-- the file of the tile at an index of a set is written, if it has one
abbrev pub IsPut : TileScheme → FileFormat → TileSet → ℕ → Files → Files → Type 0
IsPut scheme format tiles index old new = new ≡ with_file old (option_and_then (file_of scheme format) (slice_get (entries tiles) index))
