-- The tile entries of an archive that was opened and walked whole.
use Rattle.std.specs.Prelude.{ℕ, List, Option}
use Rattle.tile_import.specs.Common.{header_of, root_of}
use Rattle.pm_format.specs.Directory.{Entry}
use Rattle.pm_reader.specs.declared.state.ReaderState.{ReaderState}
use Rattle.pm_walk.specs.Gathered.{AreGiven}

-- These are all of its tile entries that have bytes, each of whose contents was read.
abbrev pub IsWalked : Option (List ℕ) → ℕ → ReaderState → List Entry → Type 0
IsWalked told most reader es = (cs : List (List ℕ)) × AreGiven told (header_of reader) (root_of reader) most es cs
