-- What a conversion comes to: the state of the set that is converted, or the first refusal.
use Rattle.std.specs.Prelude.{ℕ, codes, suc, ◌^◌, Bool, cond, ◌&&◌, ◌||◌, List, [], ◌∷◌, length, map, sum_by, nat_le, Option, Some, None, Result, Ok, Err}
use Rattle.tile_bridge.specs.Common.{aggregate, bytes_of, entries, list_all, list_any, MbtError, State, state_of, step, Tables, TileSet, unless}
use Rattle.std.specs.Str.{bytes_eq}
use Rattle.mb_lists.specs.Metadata.{text_at}
use Rattle.mb_tables.specs.declared.error.MbtError.TheVariants.{AggHashMismatch, AggHashValueNotFound}
use Rattle.tile_bridge.specs.declared.error.ConvertError.{ConvertError}
use Rattle.tile_bridge.specs.declared.error.ConvertError.TheVariants.{IndexEntryOverflow, Store}
use Rattle.tile_bridge.specs.declared.options.ConvertOptions.{ConvertOptions}

-- the refusal of the store at a place: 0 is the base, k the k-th patch
abbrev pub at_place : ℕ → Result State MbtError → Result State ConvertError
at_place place (Ok s) = Ok s
at_place place (Err e) = Err (Store place e)

-- what is done with a state, unless there is a refusal before
abbrev pub then : Result State ConvertError → (State → Result State ConvertError) → Result State ConvertError
then (Ok s) next = next s
then (Err e) next = Err e

-- the patch at a place on a state: the patch is loaded, and then it is the patch of the state
abbrev pub one_patched : Bool → ℕ → State → Tables → Result State ConvertError
one_patched force place s patch = then (at_place place (state_of patch)) (λ q. at_place place (step force s q))

-- patches one after another on a state, the first of them at this place
abbrev pub all_patched : Bool → ℕ → State → List Tables → Result State ConvertError
all_patched force place s [] = Ok s
all_patched force place s (patch ∷ patches) = then (one_patched force place s patch) (λ next. all_patched force (suc place) next patches)

-- the stored aggregate hash is missing, or another than that of the tiles
abbrev pub hash_wrong : Option (List ℕ) → List ℕ → Option MbtError
hash_wrong None computed = Some AggHashValueNotFound
hash_wrong (Some stored) computed = unless (bytes_eq stored computed) (AggHashMismatch computed stored)

abbrev pub unverified : State → Option MbtError
unverified s = hash_wrong (text_at s.metadata (codes "agg_tiles_hash")) (aggregate s.algorithm s.tiles)

-- a tile of 2^32 bytes, 2^32 tiles, or 2^60 bytes in all
abbrev pub overflows : TileSet → Bool
overflows tiles =
    list_any (λ e. nat_le (2 ^ 32) (length (bytes_of e.1))) (entries tiles)
    || (nat_le (2 ^ 32) (length (entries tiles)) || nat_le (2 ^ 60) (sum_by (λ e. length (bytes_of e.1)) (entries tiles)))

-- the tests of the state that is converted: its stored aggregate hash, where that is to be verified, and its size
abbrev pub sized : State → Result State ConvertError
sized s = cond (overflows s.tiles) (Err IndexEntryOverflow) (Ok s)

abbrev pub unless_wrong : State → Option MbtError → Result State ConvertError
unless_wrong s (Some e) = Err (Store 0 e)
unless_wrong s None = sized s

abbrev pub tested : Bool → State → Result State ConvertError
tested verify s = unless_wrong s (cond verify (unverified s) None)

-- The base is loaded, patches follow in their order, and what comes of them is tested. The first refusal counts.
abbrev pub outcome : Tables → List Tables → Bool → Bool → Result State ConvertError
outcome base patches force verify = then (at_place 0 (state_of base)) (λ s. then (all_patched force 1 s patches) (tested verify))

-- the outcome of stores, where all of them tell
abbrev pub due : {S P : Type 0} → (S → Bool) → (S → Tables) → (P → Bool) → (P → Tables) → S → List P → ConvertOptions → Option (Result State ConvertError)
due tells told patch_tells patch_told base patches options = cond (tells base && list_all patch_tells patches) (Some (outcome (told base) (map patch_told patches) options.force options.verify)) None
