-- Tiles of another set that are copied to an opened set, each of its contents once.
use Rattle.std.specs.Prelude.{◌≡◌, ℕ, suc, ◌++◌, ◌∷◌, [], Bool, List, All, Option, Some, None, length, map, slice_get, unwrap_or}
use Rattle.mb_loaded.specs.Common.{Blob, Cell, Content, content_at, Coord, HashAlgorithm, HasId, IsDated, IsTile, listed, MbtType, newest_ids, newest_names, newest_tiles, PatchType, Place, place_of}
use Rattle.mb_loaded.specs.Common.{Put, StoredName, StoredTile, tile_mark, tile_value}
use Rattle.mb_loaded.specs.Edits.{dates_for}
use Rattle.mb_loaded.specs.FromLast.{from_last, tile_patched}
use Rattle.mb_loaded.specs.GivenIds.{cell_id}
use Rattle.mb_loaded.specs.Held.{Held}
use Rattle.mb_loaded.specs.HeldEntries.{held_of}
use Rattle.mb_loaded.specs.declared.copying.Copying.{Copying}

-- a tile of another set as its entry, and the id that a layout gives it
abbrev pub entry_of : List Content → StoredTile → Place × Option (List ℕ)
entry_of others t = (place_of t, unwrap_or (tile_value others t) None)

abbrev pub id_of : MbtType → HashAlgorithm → List Content → StoredTile → Cell
id_of layout a others t = cell_id layout a (content_at others t.contents).cell

-- one tile is copied, and all from the last to the first
abbrev pub tile_copied : List Content → StoredTile → Held → Held
tile_copied others t h = tile_patched h (entry_of others t)

abbrev pub tiles_copied : List Content → List StoredTile → Held → Held
tiles_copied others tiles h = from_last tile_patched h (map (entry_of others) tiles)

-- contents that are put under an id
abbrev pub put_content : Cell → List ℕ → Content
put_content id bytes = record { id = id; cell = Blob bytes; standing = Put }

-- at an index stand bytes under the id that the layout gives them
pub record IsPutAt (l : Copying) (i : ℕ) (bytes : List ℕ) : Type 0 where
  pub content : slice_get l.contents.items i ≡ Some (put_content (cell_id l.layout l.algorithm (Blob bytes)) bytes)

-- each copy is of the other set's contents at its place
abbrev pub AreCopies : List Content → Copying → Type 0
AreCopies others l = (k i : ℕ) (bytes : List ℕ) → slice_get l.copies.items k ≡ Some (suc i) → (content_at others k).cell ≡ Blob bytes → IsPutAt l i bytes

-- lists of an opened set, with a place for the copy of each of the other set's contents
pub record IsCopying (others : List Content) (l : Copying) : Type 0 where
  pub whole : All (IsTile l.contents.items) l.tiles.items
  pub ids : All (HasId l.contents.items) l.order.items
  pub dated : All (IsDated l.layout) l.tiles.items
  pub copies : AreCopies others l
  pub each : length l.copies.items ≡ length others

-- what the opened set holds, with its names
abbrev pub held_copying : Option PatchType → List StoredName → Copying → Held
held_copying p names l = held_of l.layout l.algorithm p l.contents.items (newest_ids l.contents.items l.order.items) (newest_tiles l.tiles.items) (newest_names names)

-- lists to which an edit of the set was made
pub record Edits (edit : Held → Held) (old new : Copying) : Type 0 where
  pub layout : new.layout ≡ old.layout
  pub algorithm : new.algorithm ≡ old.algorithm
  pub held : (p : Option PatchType) (names : List StoredName) → held_copying p names new ≡ edit (held_copying p names old)

-- contents at the end, which no tile has
pub record Adds (i : ℕ) (id : Cell) (bytes : List ℕ) (old new : Copying) : Type 0 where
  pub index : i ≡ length old.contents.items
  pub layout : new.layout ≡ old.layout
  pub algorithm : new.algorithm ≡ old.algorithm
  pub contents : new.contents.items ≡ old.contents.items ++ put_content id bytes ∷ []
  pub order : new.order.items ≡ old.order.items
  pub tiles : new.tiles.items ≡ old.tiles.items
  pub copies : new.copies.items ≡ old.copies.items

-- a copy of bytes at an index, with which the set is the same
pub record IsCopied (others : List Content) (i : ℕ) (bytes : List ℕ) (old new : Copying) : Type 0 where
  pub copying : IsCopying others new
  pub same : Edits (λ h. h) old new
  pub at : IsPutAt new i bytes

-- a tile with the contents at an index, in a cache without times; the contents are listed unless their id is null
pub record Puts (coord : Coord) (i : ℕ) (null : Bool) (old new : Copying) : Type 0 where
  pub layout : new.layout ≡ old.layout
  pub algorithm : new.algorithm ≡ old.algorithm
  pub contents : new.contents.items ≡ old.contents.items
  pub order : new.order.items ≡ old.order.items ++ listed null i
  pub tiles : new.tiles.items ≡ old.tiles.items ++ record { coord = coord; contents = i; dates = dates_for old.layout; standing = Put } ∷ []
  pub copies : new.copies.items ≡ old.copies.items

-- the mark of a tile
pub record Removes (coord : Coord) (old new : Copying) : Type 0 where
  pub layout : new.layout ≡ old.layout
  pub algorithm : new.algorithm ≡ old.algorithm
  pub contents : new.contents.items ≡ old.contents.items
  pub order : new.order.items ≡ old.order.items
  pub tiles : new.tiles.items ≡ old.tiles.items ++ tile_mark coord ∷ []
  pub copies : new.copies.items ≡ old.copies.items
