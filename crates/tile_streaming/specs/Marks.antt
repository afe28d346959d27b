-- Marks of tiles: what is held of them while their contents stay in the store.
use Rattle.std.specs.Prelude.{ℕ, ◌≡◌, ◌%◌, ◌^◌, All, false, List, length, map, nat_le, Option, Result, Ok, Err}
use Rattle.std.specs.List.Sorted.{IsNonDecreasingBy, IsPermutation}
use Rattle.tile_hash.specs.Xxh3.{xxh3_64}
use Rattle.tile_streaming.specs.Common.{address, bytes_of, entries, InRange, is_free, is_gzip, MbtError, Place, State, state_of, Tables, TileSet}
use Rattle.tile_streaming.specs.declared.mark.Mark.{Mark}
use Rattle.tile_streaming.specs.declared.mark.MarkedSet.{MarkedSet}

-- the mark of bytes under an id
abbrev pub mark_with : ℕ → List ℕ → Mark
mark_with id bytes = record {
  id = id;
  digest = xxh3_64 bytes;
  length = length bytes % 2 ^ 32;
  is_long = nat_le (2 ^ 32) (length bytes);
  gzip = is_gzip bytes;
}

-- the mark of a tile
abbrev pub mark_of : Place × Option (List ℕ) → Mark
mark_of e = mark_with (address e.0) (bytes_of e.1)

-- the marks of all tiles, by rising id
pub record AreMarksOf (tiles : TileSet) (marks : List Mark) : Type 0 where
  pub same : IsPermutation (map mark_of (entries tiles)) marks
  pub rising : IsNonDecreasingBy (λ m. m.id) marks

-- a set is what is held of a state: its metadata, and the marks of its tiles
pub record IsMarkedAs (s : State) (m : MarkedSet) : Type 0 where
  pub layout : m.layout ≡ s.layout
  pub algorithm : m.algorithm ≡ s.algorithm
  pub names : m.names ≡ s.metadata
  pub ranged : All (λ e. InRange e.0) (entries s.tiles)
  pub marks : AreMarksOf s.tiles m.marks.items

-- the tables load to a state, and the set is what is held of it
pub record IsMarkedSet (t : Tables) (m : MarkedSet) : Type 0 where
  pub state : State
  pub due : state_of t ≡ Ok state
  pub held : IsMarkedAs state m

-- what is due of tables that are read for their marks: the marked set, or the refusal of loading, unless memory ran out
-- or the store failed
abbrev pub IsMarked : Tables → Result MarkedSet MbtError → Type 0
IsMarked t (Ok m) = IsMarkedSet t m
IsMarked t (Err e) = is_free e ≡ false → state_of t ≡ Err e
