-- Contents of a base with which those of its patches may collide.
use Rattle.std.specs.Prelude.{ℕ, ◌&&◌, ◌||◌, Bool, false, cond, find, List, None, option_and_then, Option, Some}
use Rattle.mb_edit.specs.Collision.{is_other}
use Rattle.mb_edit.specs.Common.{bytes_eq, cell_eq, digest, Text}
use Rattle.mb_tables.specs.declared.table.TableName.TheVariants.{Images}
use Rattle.tile_streaming.specs.Common.{Cell, cell_at, has_key, HashAlgorithm, id_key, list_any, MbtType, option_map, option_map_or, option_or, Tables}
use Rattle.tile_streaming.specs.Finding.{tile_told}
use Rattle.tile_streaming.specs.Layouts.{has_digests}
use Rattle.tile_streaming.specs.declared.mark.Mark.{Mark}
use Rattle.tile_streaming.specs.declared.rest.Rest.{Rest}

-- the row of the contents that tables have under an id, and their cell
abbrev pub id_told : Tables → Cell → Option (List Cell)
id_told t id = option_and_then (λ key. find (has_key Images key) (t.rows Images)) (id_key id)

abbrev pub content_told : Tables → Cell → Option Cell
content_told t id = option_map (cell_at 1) (id_told t id)

-- whether a row names an id
abbrev pub has_named : Cell → List Cell → Bool
has_named id row = cell_eq (cell_at 3 row) id

-- whether the row of a mark's tile does
abbrev pub is_named_at : MbtType → Tables → Cell → Mark → Bool
is_named_at layout t id m = option_map_or (has_named id) (tile_told layout t m.id) false

-- whether contents under an id stand: before the first patch all of them, and then those that the tile of a mark names
abbrev pub stands_under : Tables → Rest → Cell → Bool
stands_under t rest id = rest.is_whole || list_any (is_named_at rest.layout t id) rest.marks.items

-- whether other contents than bytes stand under an id
abbrev pub has_other : Tables → Rest → List ℕ → Cell → Bool
has_other t rest bytes id = is_other bytes (content_told t id) && stands_under t rest id

-- whether a digest is the one that is known to collide
abbrev pub is_known : Option (List ℕ) → List ℕ → Bool
is_known None digest = false
is_known (Some known) digest = bytes_eq known digest

-- whether bytes have that digest, or another content stands under theirs
abbrev pub is_taken : Tables → Rest → HashAlgorithm → Option (List ℕ) → List ℕ → Bool
is_taken t rest a known bytes = is_known known (digest a bytes) || has_other t rest bytes (Text (digest a bytes))

-- the digest of the first of such bytes
abbrev pub first_taken : Tables → Rest → HashAlgorithm → Option (List ℕ) → List (List ℕ) → Option (List ℕ)
first_taken t rest a known put = option_map (digest a) (find (is_taken t rest a known) put)

-- The digest that a refusal of bytes that are put names: the first one, where contents stand under their digests.
abbrev pub collided : Tables → Rest → HashAlgorithm → Option (List ℕ) → List (List ℕ) → Option (List ℕ)
collided t rest a known put = cond (has_digests rest.layout) (option_or (first_taken t rest a known put) known) known
