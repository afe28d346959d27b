-- A loaded set into which another one is copied, by its edits.
use Rattle.std.specs.Prelude.{◌≡◌, ℕ, Bool, true, cond, List, Option, Some, None}
use Rattle.mb_copy.specs.Common.{contains_key, Dates, entries, FinMap, from_last, get, Held, is_cache, is_normalized, Names, Place, place_cmp, State, tiles_put, TileSet, with_dates, with_name}
use Rattle.mb_copy.specs.Common.{with_null}
use Rattle.mb_copy.specs.Chosen.{names_to_put, tiles_to_put, times_to_put}
use Rattle.mb_copy.specs.Copied.{entries_put}
use Rattle.mb_copy.specs.declared.copier.MbtilesCopier.{MbtilesCopier}

-- null at the place of a tile that is null
abbrev pub null_at : Held → Place → Option (List ℕ) → Held
null_at h p None = with_null h p
null_at h p (Some bytes) = h

abbrev pub null_put : Held → Place × Option (List ℕ) → Held
null_put h e = null_at h e.0 e.1

abbrev pub nulls_put : Held → TileSet → Held
nulls_put h put = cond (is_normalized h.state.layout) h (from_last null_put h (entries put))

-- the times that a source has at a place
abbrev pub times_at : Held → Place → Option Dates → Held
times_at h p (Some dates) = with_dates h p dates
times_at h p None = h

abbrev pub time_put : FinMap place_cmp Dates → Held → Place × Option (List ℕ) → Held
time_put times h e = times_at h e.0 (get times e.0)

abbrev pub all_times_put : FinMap place_cmp Dates → Held → TileSet → Held
all_times_put times h put = cond (is_cache h.state.layout) (from_last (time_put times) h (entries put)) h

-- the value of a name
abbrev pub name_put : Held → List ℕ × Option (List ℕ) → Held
name_put h e = with_name h e.0 e.1

-- names then, from the last to the first
abbrev pub held_with_names : MbtilesCopier → Bool → Held → Names → Held
held_with_names c made h names = from_last name_put h (entries_put c made h.state.algorithm h.state.tiles names)

-- a cache has a tile at each place that is put
abbrev pub IsPutIn : TileSet → Held → Type 0
IsPutIn put h = is_cache h.state.layout ≡ true → (p : Place) → contains_key put p ≡ true → contains_key h.state.tiles p ≡ true

-- a set into which tiles were put, with the nulls among these, then the times, then names
abbrev pub held_completed : MbtilesCopier → Bool → Held → TileSet → FinMap place_cmp Dates → Names → Held
held_completed c made h put times names = held_with_names c made (all_times_put times (nulls_put h put) put) names

abbrev pub held_with : MbtilesCopier → Bool → Held → TileSet → FinMap place_cmp Dates → Names → Held
held_with c made h put times names = held_completed c made (tiles_put h put) put times names

-- a set into which a source is copied
abbrev pub held_copied : MbtilesCopier → Bool → State → Held → Held
held_copied c made source h = held_with c made h (tiles_to_put c source.tiles h.state) (times_to_put c source h.state) (names_to_put c source.metadata h.state.metadata)
