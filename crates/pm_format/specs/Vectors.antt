-- Whole archives, byte for byte, and what is read from them.
use Rattle.std.specs.Prelude.{◌≡◌, ℕ, List, [], ◌∷◌, ◌++◌, replicate, Some, None, Ok, true, codes, refl}
use Rattle.pm_format.specs.declared.tile_type.TileType.TheVariants as tile_type
use Rattle.pm_format.specs.Directory.{entry, dir_of, dir_bytes}
use Rattle.pm_format.specs.Header.{header_bytes, head}
use Rattle.pm_format.specs.LookUp.{archive_map, reached, tile_by}
use Rattle.pm_format.specs.Opened.{opened}
use Rattle.pm_format.specs.Options.{default_options}
use Rattle.pm_format.specs.Scan.{scan}
use Rattle.pm_format.specs.Varint.{varint, u64_at}
use Rattle.pm_format.specs.WellFormed.{Parts, header_of}

-- no tile
abbrev pub no_parts : Parts
no_parts = record { root = []; leaves = []; uppers = []; contents = [] }

-- the bytes behind the magic bytes and the version, up to the zooms, where nothing is there
abbrev pub empty_header : List ℕ
empty_header =
    codes "PMTiles" ++ (3 ∷ 127 ∷ replicate 7 0
    ++ (1 ∷ replicate 7 0
    ++ (0 ∷ 64 ∷ replicate 6 0
    ++ (2 ∷ replicate 7 0
    ++ (replicate 16 0
    ++ (2 ∷ 64 ∷ replicate 6 0
    ++ (replicate 32 0
    ++ (1 ∷ 1 ∷ 1 ∷ 0 ∷ 0 ∷ 22 ∷ 0 ∷ 46 ∷ 182 ∷ 148 ∷ 70 ∷ 58 ∷ 78 ∷ 205 ∷ 0 ∷ 210 ∷ 73 ∷ 107 ∷ 186 ∷ 197 ∷ 177 ∷ 50 ∷ replicate 9 0))))))))

pub empty_header_written : header_bytes (header_of (default_options tile_type.Unknown) true no_parts) ≡ empty_header
unfolding dir_bytes varint
empty_header_written = refl

abbrev pub empty_set : List ℕ
empty_set = empty_header ++ (0 ∷ replicate 16256 0 ++ codes "{}")

pub empty_set_opens : opened empty_set ≡ Ok (header_of (default_options tile_type.Unknown) true no_parts, [])
unfolding opened head dir_of u64_at dir_bytes varint
empty_set_opens = refl

-- one tile of one byte at the id 0
abbrev pub one_part : Parts
one_part = record { root = entry 0 0 1 1 ∷ []; leaves = []; uppers = []; contents = (48 ∷ []) ∷ [] }

abbrev pub one_tile_header : List ℕ
one_tile_header =
    codes "PMTiles" ++ (3 ∷ 127 ∷ replicate 7 0
    ++ (5 ∷ replicate 7 0
    ++ (0 ∷ 64 ∷ replicate 6 0
    ++ (2 ∷ replicate 7 0
    ++ (replicate 16 0
    ++ (2 ∷ 64 ∷ replicate 6 0
    ++ (1 ∷ replicate 7 0
    ++ (1 ∷ replicate 7 0
    ++ (1 ∷ replicate 7 0
    ++ (1 ∷ replicate 7 0
    ++ (1 ∷ 1 ∷ 1 ∷ 0 ∷ 0 ∷ 22 ∷ 0 ∷ 46 ∷ 182 ∷ 148 ∷ 70 ∷ 58 ∷ 78 ∷ 205 ∷ 0 ∷ 210 ∷ 73 ∷ 107 ∷ 186 ∷ 197 ∷ 177 ∷ 50 ∷ replicate 9 0)))))))))))

pub one_tile_header_written : header_bytes (header_of (default_options tile_type.Unknown) true one_part) ≡ one_tile_header
unfolding dir_bytes varint
one_tile_header_written = refl

abbrev pub one_tile : List ℕ
one_tile = one_tile_header ++ (1 ∷ 0 ∷ 1 ∷ 1 ∷ 1 ∷ [] ++ (replicate 16252 0 ++ (codes "{}" ++ 48 ∷ [])))

pub one_tile_opens : opened one_tile ≡ Ok (header_of (default_options tile_type.Unknown) true one_part, entry 0 0 1 1 ∷ [])
unfolding opened head dir_of u64_at dir_bytes varint
one_tile_opens = refl

pub one_tile_at_0 : archive_map one_tile 0 ≡ Some (48 ∷ [])
unfolding opened head dir_of u64_at scan reached tile_by
one_tile_at_0 = refl

pub no_tile_at_1 : archive_map one_tile 1 ≡ None
unfolding opened head dir_of u64_at scan reached tile_by
no_tile_at_1 = refl
