-- What the values of options stand for.
use Rattle.std.specs.Prelude.{◌≡◌, ℕ, List, [], ◌∷◌, ◌++◌, Option, Some, None, codes, if◌then◌else◌, refl}
use Rattle.std.specs.Option.{option_and_then}
use Rattle.mb_check.specs.declared.validation.AggHashType.TheVariants.{Verify, Update, Off}
use Rattle.mb_copy.specs.declared.copy_type.CopyType.TheVariants.{All, Metadata, Tiles}
use Rattle.mb_insert.specs.declared.mode.CopyDuplicateMode.TheVariants.{Override, Ignore, Abort}
use Rattle.mb_tables.specs.declared.kind.MbtTypeCli.TheVariants as layouts
use Rattle.mb_tree.specs.declared.scheme.TileScheme.TheVariants.{Xyz, Tms}
use Rattle.tile_hash.specs.declared.algorithm.HashAlgorithm.TheVariants as hashes
use Rattle.tile_command.specs.Common.{AggHashType, bytes_eq, CopyDuplicateMode, CopyType, HashAlgorithm, MbtTypeCli, number_to, parted, TileScheme}

abbrev pub copy_of : List ℕ → Option CopyType
copy_of word =
    if bytes_eq word (codes "all") then Some All
    else (if bytes_eq word (codes "tiles") then Some Tiles
    else (if bytes_eq word (codes "metadata") then Some Metadata else None))

abbrev pub layout_of : List ℕ → Option MbtTypeCli
layout_of word =
    if bytes_eq word (codes "flat") then Some layouts.Flat
    else (if bytes_eq word (codes "flat-with-hash") then Some layouts.FlatWithHash
    else (if bytes_eq word (codes "normalized") then Some layouts.Normalized
    else (if bytes_eq word (codes "cache") then Some layouts.Cache else None)))

abbrev pub mode_of : List ℕ → Option CopyDuplicateMode
mode_of word =
    if bytes_eq word (codes "override") then Some Override
    else (if bytes_eq word (codes "ignore") then Some Ignore
    else (if bytes_eq word (codes "abort") then Some Abort else None))

abbrev pub algorithm_of : List ℕ → Option HashAlgorithm
algorithm_of word =
    if bytes_eq word (codes "md5") then Some hashes.Md5
    else (if bytes_eq word (codes "fnv1a") then Some hashes.Fnv1a
    else (if bytes_eq word (codes "fnv1a-decimal") then Some hashes.Fnv1aDecimal
    else (if bytes_eq word (codes "xxh64") then Some hashes.Xxh64
    else (if bytes_eq word (codes "xxh3") then Some hashes.Xxh3 else None))))

-- rows are counted from the top, where no word says it
abbrev pub scheme_of : Option (List ℕ) → Option TileScheme
scheme_of None = Some Xyz
scheme_of (Some word) = if bytes_eq word (codes "xyz") then Some Xyz else (if bytes_eq word (codes "tms") then Some Tms else None)

-- the stored hash has to be right, where no word says it
abbrev pub agg_hash_of : Option (List ℕ) → Option AggHashType
agg_hash_of None = Some Verify
agg_hash_of (Some word) =
    if bytes_eq word (codes "verify") then Some Verify
    else (if bytes_eq word (codes "update") then Some Update
    else (if bytes_eq word (codes "off") then Some Off else None))

-- ten millions of tiles, where no word says it
abbrev pub max_tiles_of : Option (List ℕ) → Option ℕ
max_tiles_of None = Some 10000000
max_tiles_of (Some word) = number_to 18446744073709551615 word

abbrev pub zoom_of : List ℕ → Option ℕ
zoom_of word = number_to 30 word

-- zooms behind others, by their words
abbrev pub zooms_after : List ℕ → List (List ℕ) → Option (List ℕ)
zooms_after before [] = Some before
zooms_after before (word ∷ words) = option_and_then (λ z. zooms_after (before ++ (z ∷ [])) words) (zoom_of word)

-- the zooms that the words between commas spell
abbrev pub zooms_of : List ℕ → Option (List ℕ)
zooms_of text = zooms_after [] (parted 44 text)

pub two_zooms : zooms_of (codes "3,12") ≡ Some (3 ∷ 12 ∷ [])
unfolding parted
two_zooms = refl

pub no_zoom : zooms_of (codes "3,") ≡ None
unfolding parted
no_zoom = refl
