-- What entries of lists mean.
use Rattle.std.specs.Prelude.{ℕ, ◌≡◌, Bool, true, false, cond, List, Option, Some, None, option_and_then, slice_get, is_some, unwrap_or}
use Rattle.mb_lists.specs.Common.{Blob, Cache, Cell, cell_cmp, Coord, FinMap, from_entries, inverted_y, is_null, is_text, MbtType, nat_cmp, Null, Other, Place, place_cmp, slice_cmp, Text}
use Rattle.mb_lists.specs.Contents.{Contents}
use Rattle.mb_lists.specs.Keyed.{IsInOrder, entries_by, newest}
use Rattle.mb_lists.specs.Metadata.{Names, text_of}
use Rattle.mb_lists.specs.declared.dates.Dates.{Dates}
use Rattle.mb_lists.specs.declared.entries.Content.{Content}
use Rattle.mb_lists.specs.declared.entries.Standing.{Standing}
use Rattle.mb_lists.specs.declared.entries.Standing.TheVariants.{Kept, Removed}
use Rattle.mb_lists.specs.declared.entries.StoredName.{StoredName}
use Rattle.mb_lists.specs.declared.entries.StoredTile.{StoredTile}
use Rattle.mb_tables.specs.Tiles.{contents_of}

-- the place of a coordinate: its row is counted from the bottom
abbrev pub place_at : Coord → Place
place_at c = record { zoom = c.z; column = c.x; row = inverted_y c.z c.y }

-- bytes or null as a cell, and a text or null
abbrev pub blob_cell : Option (List ℕ) → Cell
blob_cell None = Null
blob_cell (Some bytes) = Blob bytes

abbrev pub text_cell : Option (List ℕ) → Cell
text_cell None = Null
text_cell (Some text) = Text text

-- what is there, unless it was removed
abbrev pub unless_removed : {A : Type 0} → Standing → Option A → Option A
unless_removed Removed x = None
unless_removed _ x = x

abbrev pub if_edited : Standing → Option (Unit {0})
if_edited Kept = None
if_edited _ = Some tt

abbrev pub is_removed : Standing → Bool
is_removed Removed = true
is_removed _ = false

-- whether an entry is only a mark of one that was removed
abbrev pub is_gone : StoredTile → Bool
is_gone t = is_removed t.standing

abbrev pub is_name_gone : StoredName → Bool
is_name_gone n = is_removed n.standing

-- the contents at an index; past the end none that a tile can have, and without an id
abbrev pub nothing : Content
nothing = record { id = Null; cell = Other; standing = Kept }

abbrev pub content_at : List Content → ℕ → Content
content_at contents i = unwrap_or (slice_get contents i) nothing

abbrev pub id_at : List Content → ℕ → Cell
id_at contents i = (content_at contents i).id

-- keys and values of tiles
abbrev pub place_of : StoredTile → Place
place_of t = place_at t.coord

abbrev pub tile_value : List Content → StoredTile → Option (Option (List ℕ))
tile_value contents t = unless_removed t.standing (contents_of (content_at contents t.contents).cell)

abbrev pub tile_id : List Content → StoredTile → Option Cell
tile_id contents t = unless_removed t.standing (cond (is_null (id_at contents t.contents)) None (Some (id_at contents t.contents)))

abbrev pub tile_dates : StoredTile → Option Dates
tile_dates t = unless_removed t.standing t.dates

-- keys and values of names
abbrev pub name_of : StoredName → List ℕ
name_of n = n.name

abbrev pub name_value : StoredName → Option (Option (List ℕ))
name_value n = unless_removed n.standing (Some (text_of n.value))

-- values of contents by id
abbrev pub content_value : List Content → ℕ → Option Cell
content_value contents i = option_and_then (λ c. unless_removed c.standing (Some c.cell)) (slice_get contents i)

abbrev pub is_content_gone : List Content → ℕ → Bool
is_content_gone contents i = is_removed (content_at contents i).standing

-- what the entries mean: tiles with the indexes of their contents, contents, the order of those
-- that have an id, and names
abbrev pub names_held : List StoredName → Names
names_held names = from_entries (entries_by name_of name_value names)

abbrev pub contents_held : List Content → List ℕ → Contents
contents_held contents order = from_entries (entries_by (id_at contents) (content_value contents) order)

abbrev pub tiles_held : {A : Type 0} → (StoredTile → Option A) → List StoredTile → FinMap place_cmp A
tiles_held value tiles = from_entries (entries_by place_of value tiles)

-- tiles in the order of their places, names in the order of their bytes, contents in the order of their ids
abbrev pub AreInOrder : ℕ → List StoredTile → Type 0
AreInOrder live tiles = IsInOrder place_cmp place_of is_gone live tiles

abbrev pub AreNamesInOrder : ℕ → List StoredName → Type 0
AreNamesInOrder live names = IsInOrder (slice_cmp nat_cmp) name_of is_name_gone live names

abbrev pub AreContentsInOrder : List Content → ℕ → List ℕ → Type 0
AreContentsInOrder contents live order = IsInOrder cell_cmp (id_at contents) (is_content_gone contents) live order

-- the order of ids as edits leave it: the latest listing of an id counts, and so the latest of the tiles of a place
-- and of the values of a name
abbrev pub newest_ids : List Content → List ℕ → List ℕ
newest_ids contents order = newest cell_cmp (id_at contents) order

abbrev pub newest_tiles : List StoredTile → List StoredTile
newest_tiles tiles = newest place_cmp place_of tiles

abbrev pub newest_names : List StoredName → List StoredName
newest_names names = newest (slice_cmp nat_cmp) name_of names

-- contents that are listed have an id
abbrev pub HasId : List Content → ℕ → Type 0
HasId contents i = is_null (id_at contents i) ≡ false

-- a tile that isn't removed has times in a cache, and in no other layout
abbrev pub is_cache : MbtType → Bool
is_cache Cache = true
is_cache _ = false

abbrev pub IsDated : MbtType → StoredTile → Type 0
IsDated layout t = is_gone t ≡ false → is_some t.dates ≡ is_cache layout

-- a tile that isn't removed has bytes or null, and a name a text or null
abbrev pub IsTile : List Content → StoredTile → Type 0
IsTile contents t = is_gone t ≡ false → is_some (contents_of (content_at contents t.contents).cell) ≡ true

abbrev pub IsName : StoredName → Type 0
IsName n = is_text n.value ≡ true
