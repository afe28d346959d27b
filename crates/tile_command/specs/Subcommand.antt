-- The subcommands, by their words.
use Rattle.std.specs.Prelude.{◌≡◌, ◌||◌, ℕ, Bool, false, List, [], ◌∷◌, Option, Some, None, codes, if◌then◌else◌, option_map, refl}
use Rattle.std.specs.Option.{option_or}
use Rattle.tile_command.specs.Common.{bytes_eq}
use Rattle.tile_command.specs.declared.subcommand.Subcommand.{Subcommand}
use Rattle.tile_command.specs.declared.subcommand.Subcommand.TheVariants as sub

abbrev pub looking_of : List ℕ → Option Subcommand
looking_of word =
    if bytes_eq word (codes "show") then Some sub.Show
    else (if bytes_eq word (codes "tile") then Some sub.Tile
    else (if bytes_eq word (codes "summary") then Some sub.Summary
    else (if bytes_eq word (codes "validate") then Some sub.Validate
    else (if bytes_eq word (codes "hash") then Some sub.Hash
    else (if bytes_eq word (codes "serve") then Some sub.Serve
    else (if bytes_eq word (codes "header") then Some sub.Header else None))))))

abbrev pub making_of : List ℕ → Option Subcommand
making_of word =
    if bytes_eq word (codes "copy") then Some sub.Copy
    else (if bytes_eq word (codes "patch") then Some sub.Patch
    else (if bytes_eq word (codes "pack") then Some sub.Pack
    else (if bytes_eq word (codes "unpack") then Some sub.Unpack
    else (if bytes_eq word (codes "extract") then Some sub.Extract
    else (if bytes_eq word (codes "join") then Some sub.Join else None)))))

abbrev pub meta_of : List ℕ → Option Subcommand
meta_of word =
    if bytes_eq word (codes "get") then Some sub.MetaGet
    else (if bytes_eq word (codes "set") then Some sub.MetaSet
    else (if bytes_eq word (codes "all") then Some sub.MetaAll else None))

-- a subcommand and the words behind it
abbrev pub with_rest : List (List ℕ) → Option Subcommand → Option (Subcommand × List (List ℕ))
with_rest rest s = option_map (λ s. (s, rest)) s

abbrev pub meta_in : List (List ℕ) → Option (Subcommand × List (List ℕ))
meta_in [] = None
meta_in (word ∷ words) = with_rest words (meta_of word)

-- the subcommand that words begin with, and the words that follow it
abbrev pub subcommand_of : List (List ℕ) → Option (Subcommand × List (List ℕ))
subcommand_of [] = None
subcommand_of (word ∷ words) =
    if bytes_eq word (codes "meta") then meta_in words else with_rest words (option_or (looking_of word) (making_of word))

-- the options that stand alone
abbrev pub has_flag : Subcommand → List ℕ → Bool
has_flag sub.Show word = bytes_eq word (codes "--metadata") || (bytes_eq word (codes "--tilejson") || bytes_eq word (codes "--entries"))
has_flag sub.Hash word = bytes_eq word (codes "--update")
has_flag sub.Copy word = bytes_eq word (codes "--skip-agg-tiles-hash") || (bytes_eq word (codes "--validate") || bytes_eq word (codes "--force"))
has_flag sub.Patch word = bytes_eq word (codes "--force")
has_flag sub.Extract word = bytes_eq word (codes "--overwrite")
has_flag sub.Join word = bytes_eq word (codes "--overwrite")
has_flag s word = false

-- the options that a value follows
abbrev pub has_option : Subcommand → List ℕ → Bool
has_option sub.Show word = bytes_eq word (codes "--url")
has_option sub.Validate word = bytes_eq word (codes "--agg-hash")
has_option sub.Copy word =
    bytes_eq word (codes "--copy") || (bytes_eq word (codes "--mbtiles-type") || (bytes_eq word (codes "--on-duplicate")
    || (bytes_eq word (codes "--min-zoom") || (bytes_eq word (codes "--max-zoom")
    || (bytes_eq word (codes "--zoom-levels") || (bytes_eq word (codes "--hash-algorithm")
    || (bytes_eq word (codes "--box") || bytes_eq word (codes "--apply-patch"))))))))
has_option sub.Pack word = bytes_eq word (codes "--scheme")
has_option sub.Unpack word = bytes_eq word (codes "--scheme")
has_option sub.Extract word = bytes_eq word (codes "--max-tiles")
has_option sub.Join word = bytes_eq word (codes "--max-tiles")
has_option s word = false

-- how many other words there are, at least and at most
abbrev pub places : Subcommand → ℕ × ℕ
places sub.Show = (1, 1)
places sub.Summary = (1, 1)
places sub.Validate = (1, 1)
places sub.Hash = (1, 1)
places sub.MetaAll = (1, 1)
places sub.Header = (1, 1)
places sub.MetaGet = (2, 2)
places sub.Copy = (2, 2)
places sub.Patch = (2, 2)
places sub.Pack = (2, 2)
places sub.Unpack = (2, 2)
places sub.MetaSet = (2, 3)
places sub.Tile = (4, 4)
places sub.Serve = (1, 5)
places sub.Extract = (3, 4002)
places sub.Join = (2, 1001)

pub behind_meta : subcommand_of (codes "meta" ∷ codes "get" ∷ codes "a" ∷ []) ≡ Some (sub.MetaGet, codes "a" ∷ [])
behind_meta = refl

pub meta_alone : subcommand_of (codes "meta" ∷ []) ≡ None
meta_alone = refl
