-- A loaded set after one patch, by its edits.
use Rattle.std.specs.Prelude.{ℕ, List, Option, Some, None}
use Rattle.mb_edit.specs.Common.{entries, Held, only_referenced, removed_name, State, with_name}
use Rattle.mb_edit.specs.Patched.{landed}
pub use Rattle.mb_loaded.specs.FromLast.{from_last, tile_patched, tiles_put}

-- a name of a patch: its value is put under its target
abbrev pub name_patched : Held → List ℕ × Option (List ℕ) → Held
name_patched h e = by (landed e)
  where
    by : Option (List ℕ × Option (List ℕ)) → Held
    by (Some put) = with_name h put.0 put.1
    by None = h

-- a name of a patch that has null: it goes
abbrev pub null_cleared : Held → List ℕ × Option (List ℕ) → Held
null_cleared h e = by e.1
  where
    by : Option (List ℕ) → Held
    by (Some text) = h
    by None = removed_name h e.0

abbrev pub tiles_patched : Held → State → Held
tiles_patched h patch = tiles_put h patch.tiles

abbrev pub names_patched : Held → State → Held
names_patched h patch = from_last name_patched h (entries patch.metadata)

abbrev pub nulls_cleared : Held → State → Held
nulls_cleared h patch = from_last null_cleared h (entries patch.metadata)

-- tiles first, then names, then those that have null; contents that no tile has any more go
abbrev pub held_patched : Held → State → Held
held_patched h patch = only_referenced (nulls_cleared (names_patched (tiles_patched h patch) patch) patch)
