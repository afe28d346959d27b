-- The one archive of a list of adds, and that of a map.
use Rattle.std.specs.Prelude.{◌≡◌, ℕ, Bool, true, List, [], ◌∷◌, map, nat_lt, nat_eq, ◌&&◌, if◌then◌else◌, Option, Some, None, refl}
use Rattle.pm_writer.specs.Common.{archive_bytes, archive_map, default_options, dir_bytes, dir_of, entries, FinMap, head, nat_cmp, one_tile, opened, Options, Parts, reached, scan, tile_by, u64_at}
use Rattle.pm_writer.specs.Common.{varint}
use Rattle.pm_format.specs.declared.tile_type.TileType.TheVariants as tile_type
use Rattle.pm_writer.specs.Adds.{contents_from, entries_of_adds}
use Rattle.pm_writer.specs.Leaves.{laid}

-- whether ids strictly rise
abbrev pub rising : List ℕ → Bool
rising [] = true
rising (a ∷ []) = true
rising (a ∷ b ∷ ids) = nat_lt a b && rising (b ∷ ids)

abbrev pub ids_of : List (ℕ × List ℕ) → List ℕ
ids_of adds = map (λ a. a.0) adds

-- the parts of the archive of adds with distinct ids, none of them empty
abbrev pub parts_of : Options → List (ℕ × List ℕ) → Parts
parts_of o adds =
    let l = laid o.max_leaf_entries (entries_of_adds adds) in
    record { root = l.root; leaves = l.leaves; uppers = l.uppers; contents = contents_from [] adds }

-- its bytes
unfoldable pub archive : Options → List (ℕ × List ℕ) → List ℕ
archive o adds = archive_bytes o (rising (ids_of adds)) (parts_of o adds)

-- the tile at an id, where there is one
abbrev pub tile_in : List (ℕ × List ℕ) → ℕ → Option (List ℕ)
tile_in [] t = None
tile_in (a ∷ adds) t = if nat_eq a.0 t then Some a.1 else tile_in adds t

-- the one archive of a finite map from ids to tiles: that of its pairs by rising id
abbrev pub canon : Options → FinMap nat_cmp (List ℕ) → List ℕ
canon o tiles = archive o (entries tiles)

-- the archive of one tile of one byte, whose bytes are known
pub one_tile_archive : archive (default_options tile_type.Unknown) ((0, 48 ∷ []) ∷ []) ≡ one_tile
unfolding archive archive_bytes dir_bytes varint
one_tile_archive = refl

pub its_tile : archive_map (archive (default_options tile_type.Unknown) ((0, 48 ∷ []) ∷ [])) 0 ≡ Some (48 ∷ [])
unfolding archive archive_bytes dir_bytes varint opened head dir_of u64_at scan reached tile_by
its_tile = refl
