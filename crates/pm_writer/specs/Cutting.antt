-- Directories that are put one behind another, and those of an archive as bytes.
use Rattle.std.specs.Prelude.{◌≡◌, ℕ, ◌+◌, ◌<◌, ◌^◌, List, [], ◌∷◌, ◌++◌, length, map, flat_map}
use Rattle.pm_writer.specs.Common.{dir_bytes, Entry, entry, first_id, root_of, wide_as}
use Rattle.pm_format.specs.declared.wide_entry.WideEntry.{WideEntry}
use Rattle.pm_writer.specs.Leaves.{Layout, below_layout, end_of}
use Rattle.pm_writer.specs.declared.cutting.Directories.{Directories}
use Rattle.pm_writer.specs.declared.level.Level.{Level}

-- the entries that name the directories of a level
abbrev pub named : Level → List Entry
named l = map wide_as l.names.items

-- one more directory, in a level from a place on
pub record HasMore (old new : Level) (place : ℕ) (es : List Entry) : Type 0 where
  pub bytes : new.bytes.items ≡ old.bytes.items ++ dir_bytes es
  pub names : named new ≡ named old ++ entry (first_id es) (place + length old.bytes.items) (length (dir_bytes es)) 0 ∷ []

-- the names and the bytes of these directories
pub record IsCut (l : Level) (place : ℕ) (ls : List (List Entry)) : Type 0 where
  pub names : named l ≡ root_of place ls
  pub bytes : l.bytes.items ≡ flat_map dir_bytes ls

-- with the bytes of the root that names them
pub record IsRooted (l : Level) (bytes : List ℕ) (place : ℕ) (ls : List (List Entry)) : Type 0 where
  pub cut : IsCut l place ls
  pub root : bytes ≡ dir_bytes (root_of place ls)

-- the root and the levels of a layout
pub record IsLaid (bytes : List ℕ) (lower upper : Level) (l : Layout) : Type 0 where
  pub root : bytes ≡ dir_bytes l.root
  pub leaves : IsCut lower 0 l.leaves
  pub uppers : IsCut upper (end_of l.leaves) l.uppers

-- the same joined
pub record AreDirectories (d : Directories) (l : Layout) : Type 0 where
  pub root : d.root.items ≡ dir_bytes l.root
  pub below : d.below.items ≡ flat_map dir_bytes (below_layout l)
  pub leaves : d.leaves ≡ length l.leaves
  pub uppers : d.uppers ≡ length l.uppers

-- a size that fits an entry
abbrev pub IsShort : WideEntry → Type 0
IsShort w = w.length < 2 ^ 32
