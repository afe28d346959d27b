-- The adds of a tile set: the ids and bytes of its tiles of at least one byte.
use Rattle.std.specs.Prelude.{◌≡◌, ◌≢◌, ◌≤◌, ◌<◌, ℕ, true, List, [], ◌∷◌, map, filter_map, slice_get, take, unwrap_or, Option, Some, None, All}
use Rattle.tile_bridge.specs.Common.{address, bytes_of, Cell, entries, find, get, InRange, is_sorted, len, MAX_TILE_ID, nat_cmp, option_map, Place, solid, TileSet}
use Rattle.mb_tables.specs.declared.cell.Cell.TheVariants.{Blob}
use Rattle.tile_bridge.specs.declared.adds.Add.{Add}

-- the bytes under an id, if any
abbrev pub content_at : List (ℕ × List ℕ) → ℕ → Option (List ℕ)
content_at adds id = find nat_cmp id adds

-- ids that strictly rise, and under each the bytes of the tile there, if it has any
pub record AreAddsOf (adds : List (ℕ × List ℕ)) (tiles : TileSet) : Type 0 where
  pub rising : is_sorted nat_cmp adds ≡ true
  pub low : All (λ a. a.0 ≤ MAX_TILE_ID) adds
  pub filled : All (λ a. a.1 ≢ []) adds
  pub each : (p : Place) (bytes : List ℕ) → get (solid tiles) p ≡ Some (Some bytes) → content_at adds (address p) ≡ Some bytes
  pub only : (id : ℕ) (bytes : List ℕ) → content_at adds id ≡ Some bytes → (p : Place) × (get (solid tiles) p ≡ Some (Some bytes)) × (address p ≡ id)

-- the bytes of a cell, none where it has none
abbrev pub cell_bytes : Cell → List ℕ
cell_bytes (Blob bytes) = bytes
cell_bytes _ = []

-- the add of an entry of a tile set, where it has a byte
abbrev pub add_of : Place × Option (List ℕ) → Option (ℕ × List ℕ)
add_of (p, Some (byte ∷ bytes)) = Some (address p, byte ∷ bytes)
add_of _ = None

-- the bytes of the tile at an index, in the order of zoom, column and row counted from the bottom
abbrev pub bytes_at : TileSet → ℕ → List ℕ
bytes_at tiles index = unwrap_or (option_map (λ e. bytes_of e.1) (slice_get (entries tiles) index)) []

-- the ids and bytes that adds stand for
abbrev pub shown : TileSet → List Add → List (ℕ × List ℕ)
shown tiles adds = map (λ a. (a.id, bytes_at tiles a.index)) adds

-- each add is a tile of the set
abbrev pub AreWithin : TileSet → List Add → Type 0
AreWithin tiles adds = All (λ a. a.index < len tiles) adds

-- all places of entries are in range
abbrev pub Ranged : List (Place × Option (List ℕ)) → Type 0
Ranged [] = Unit {0}
Ranged (e ∷ es) = InRange e.0 × Ranged es

-- the tiles of at least one byte among the first n, whose places are in range
pub record AreFilled (tiles : TileSet) (adds : List Add) (n : ℕ) : Type 0 where
  pub shown : shown tiles adds ≡ filter_map add_of (take n (entries tiles))
  pub within : AreWithin tiles adds
  pub ranged : Ranged (take n (entries tiles))
