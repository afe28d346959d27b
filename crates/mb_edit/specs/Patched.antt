-- The tiles and the metadata of a set after a patch.
use Rattle.std.specs.Prelude.{ℕ, codes, ◌++◌, ◌||◌, Bool, true, false, cond, not, List, Option, Some, None, filter_map, option_and_then, option_map}
use Rattle.std.specs.declared.cmp.Ordering.{Ordering}
use Rattle.mb_edit.specs.Common.{bytes_eq, contains_key, entries, FinMap, from_entries, get, Names, Place, place_cmp, retain_keys, TileSet}

-- entries over those of a map: the first of a key counts
abbrev pub over : {K V : Type 0} {R : K → K → Ordering} → List (K × V) → FinMap R V → FinMap R V
over es m = from_entries (es ++ entries m)

-- what a patch gives its places by their bytes, where it has bytes
abbrev pub put_entry : {A : Type 0} → (List ℕ → Option A) → Place × Option (List ℕ) → Option (Place × A)
put_entry given e = option_and_then (λ bytes. option_map (λ a. (e.0, a)) (given bytes)) e.1

-- what a set has at each place after a patch: at a place of the patch what is given by its bytes, and nothing where it
-- has null; elsewhere what it had
abbrev pub patched_by : {A : Type 0} → (List ℕ → Option A) → TileSet → FinMap place_cmp A → FinMap place_cmp A
patched_by given patch m = over (filter_map (put_entry given) (entries patch)) (retain_keys m (λ place. not (contains_key patch place)))

-- the tiles: a given tile has the bytes of the patch
abbrev pub patched : TileSet → TileSet → TileSet
patched tiles patch = patched_by (λ bytes. Some (Some bytes)) patch tiles

-- the same at one place
abbrev pub patched_at : {A : Type 0} → (List ℕ → Option A) → Option (Option (List ℕ)) → Option A → Option A
patched_at given (Some (Some bytes)) had = given bytes
patched_at given (Some None) had = None
patched_at given None had = had

-- the name on which a name of a patch lands, if on any
abbrev pub target_of : List ℕ → Option (List ℕ)
target_of name =
    cond (bytes_eq name (codes "agg_tiles_hash") || bytes_eq name (codes "agg_tiles_hash_before_apply")) None
    (Some (cond (bytes_eq name (codes "agg_tiles_hash_after_apply")) (codes "agg_tiles_hash") name))

-- a name of a patch under its target
abbrev pub landed : List ℕ × Option (List ℕ) → Option (List ℕ × Option (List ℕ))
landed e = option_map (λ target. (target, e.1)) (target_of e.0)

-- whether a patch has null under a name
abbrev pub is_null_at : Option (Option (List ℕ)) → Bool
is_null_at (Some None) = true
is_null_at _ = false

-- the metadata: each target has the value of the patch, and then each name that the patch has null for is gone
abbrev pub meta_patched : Names → Names → Names
meta_patched metadata patch = retain_keys (over (filter_map landed (entries patch)) metadata) (λ name. not (is_null_at (get patch name)))
