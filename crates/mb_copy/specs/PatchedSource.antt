-- A source after a patch, as it is copied.
use Rattle.std.specs.Prelude.{ℕ, codes, ◌&&◌, ◌||◌, Bool, not, List, Option, Some, None}
use Rattle.mb_copy.specs.Common.{bytes_eq, entries, get, Held, is_null_at, Names, over, removed_name, retain_keys, State, with_name}
use Rattle.mb_edit.specs.Put.{state_put}

-- the hashes of all tiles, by which patches are kept in order
abbrev pub is_hash_name : List ℕ → Bool
is_hash_name name = bytes_eq name (codes "agg_tiles_hash") || bytes_eq name (codes "agg_tiles_hash_before_apply") || bytes_eq name (codes "agg_tiles_hash_after_apply")

-- metadata after a patch: the values of the patch over the others, without the names for which it has null,
-- and without those hashes
abbrev pub names_patched : Names → Names → Names
names_patched names patch = retain_keys (over (entries patch) names) (λ name. not (is_null_at (get patch name)) && not (is_hash_name name))

-- a source after a patch: a tile has the bytes of the patch, and is gone where the patch has null
abbrev pub source_patched : State → State → State
source_patched source patch = record (state_put source patch.tiles) { metadata = names_patched source.metadata patch.metadata }

-- the edit by a name of a patch: its text is put, and the name goes where it has null
abbrev pub name_patched_at : Held → List ℕ → Option (List ℕ) → Held
name_patched_at h name (Some text) = with_name h name (Some text)
name_patched_at h name None = removed_name h name

abbrev pub name_patched : Held → List ℕ × Option (List ℕ) → Held
name_patched h e = name_patched_at h e.0 e.1

-- the edits by which those hashes go
abbrev pub hashes_removed : Held → Held
hashes_removed h = removed_name (removed_name (removed_name h (codes "agg_tiles_hash")) (codes "agg_tiles_hash_before_apply")) (codes "agg_tiles_hash_after_apply")
