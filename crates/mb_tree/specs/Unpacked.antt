-- The files of the tiles of a set.
use Rattle.std.specs.Prelude.{◌≡◌, ℕ, codes, ◌++◌, Bool, true, List, [], ◌∷◌, Option, Some, None, Result, Ok, Err, filter_map, option_map, take}
use Rattle.mb_tree.specs.Common.{begun, decimal, dot, entries, inverted_y, MbtError, NoFormatInMetadata, Place, slash, State, state_of, Tables, then, TileSet, UnknownFormatInMetadata}
use Rattle.mb_lists.specs.Metadata.{text_at}
use Rattle.mb_tree.specs.Files.{File, Files, written}
use Rattle.mb_tree.specs.Format.{format_of, format_word}
use Rattle.mb_tree.specs.Scheme.{turned}
use Rattle.mb_tree.specs.Wanting.{Gives}
use Rattle.mb_tree.specs.declared.format.FileFormat.{FileFormat}
use Rattle.mb_tree.specs.declared.scheme.TileScheme.{TileScheme}

-- the path of a tile: three numbers parted by slashes, and the format behind a dot
abbrev pub path_text : FileFormat → ℕ → ℕ → ℕ → List ℕ
path_text format zoom column row = decimal zoom ++ slash ∷ decimal column ++ slash ∷ decimal row ++ dot ∷ format_word format

-- the path of a place, whose row is counted from the bottom
abbrev pub path_at : TileScheme → FileFormat → Place → List ℕ
path_at scheme format p = path_text format p.zoom p.column (turned scheme p.zoom (inverted_y p.zoom p.row))

-- the file of a tile; null has none
abbrev pub file_of : TileScheme → FileFormat → Place × Option (List ℕ) → Option File
file_of scheme format e = option_map (λ bytes. (path_at scheme format e.0, bytes)) e.1

-- the files of tiles in the order of their places: zoom, column, and row counted from the bottom
abbrev pub files_of : TileScheme → FileFormat → TileSet → List File
files_of scheme format tiles = filter_map (file_of scheme format) (entries tiles)

-- the format that a set's metadata names, or the refusal of a set that names none, or none that is known
abbrev pub known_format : List ℕ → Option FileFormat → Result FileFormat MbtError
known_format text (Some format) = Ok format
known_format text None = Err (UnknownFormatInMetadata text)

abbrev pub format_named : Option (List ℕ) → Result FileFormat MbtError
format_named (Some text) = known_format text (format_of text)
format_named None = Err NoFormatInMetadata

abbrev pub format_due : State → Result FileFormat MbtError
format_due s = format_named (text_at s.metadata (codes "format"))

-- the answer that is due of a loaded set
abbrev pub unpacking : State → Result (Unit {0}) MbtError
unpacking s = then (format_due s) (λ _. Ok tt)

-- the files of a set that isn't refused
abbrev pub files_by : TileScheme → TileSet → Result FileFormat MbtError → List File
files_by scheme tiles (Ok format) = files_of scheme format tiles
files_by scheme tiles (Err e) = []

abbrev pub unpacked : TileScheme → Result State MbtError → List File
unpacked scheme (Ok s) = files_by scheme s.tiles (format_due s)
unpacked scheme (Err e) = []

-- a front of some files is written
abbrev pub IsFront : List File → Files → Files → Type 0
IsFront files old new = (n : ℕ) × (new ≡ written old (take n files))

-- a tree has all of some files over its own, and after a refusal a front of them
abbrev pub IsWritten : List File → Files → Files → Result (Unit {0}) MbtError → Type 0
IsWritten files old new (Ok _) = new ≡ written old files
IsWritten files old new (Err e) = IsFront files old new

-- the answer that is due of what a store tells, and of some tables that its answers could be of, where it tells
-- nothing; and what a tree that tells its files has then
pub record IsUnpacking (scheme : TileScheme) (tells : Bool) (told : Tables) (shows : Bool) (old new : Files) (answer : Result (Unit {0}) MbtError) : Type 0 where
  pub tables : Tables
  pub is_told : tells ≡ true → tables ≡ told
  pub answers : Gives (begun unpacking tables) answer
  pub leaves : shows ≡ true → IsWritten (unpacked scheme (state_of tables)) old new answer
