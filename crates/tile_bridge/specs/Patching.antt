-- What patches make of a base.
use Rattle.std.specs.Prelude.{ℕ, ◌≡◌, Bool, true, false, not, List, [], ◌∷◌, filter, map, Option, Some, Result, Ok, Err}
use Rattle.tile_bridge.specs.Common.{Cell, cell_at, contains_key, fresh, get, Held, IsLoadedFrom, list_any, MbtError, NamesAlgorithm, option_map_or, Place, place_of, State, state_of, step, Tables}
use Rattle.mb_edit.specs.Applying.{put_row}
use Rattle.mb_load.specs.Committing.{MakesChanges}
use Rattle.mb_edit.specs.HeldPatched.{held_patched}
use Rattle.mb_loaded.specs.Changing.{content_table, tile_key}
use Rattle.mb_load.specs.Committed.{is_set_table, rows_under}
use Rattle.mb_tables.specs.Cell.{is_null}
use Rattle.mb_tables.specs.Kind.{tile_table}
use Rattle.mb_tables.specs.declared.table.TableName.{TableName}
use Rattle.mb_tables.specs.declared.table.TableName.TheVariants.{Metadata}
use Rattle.tile_bridge.specs.Outcome.{all_patched, tested}

-- patches one after another on a loaded set
abbrev pub all_held : Held → List State → Held
all_held h [] = h
all_held h (q ∷ qs) = all_held (held_patched h q) qs

-- the states that tables hold
abbrev pub AreStatesOf : List Tables → List State → Type 0
AreStatesOf ts qs = map state_of ts ≡ map Ok qs

-- a store's tables that hold a state: those that it tells, or where it tells nothing some that its answers could be of
pub record HoldsState (tells : Bool) (told : Tables) (s : State) : Type 0 where
  pub tables : Tables
  pub are_told : tells ≡ true → tables ≡ told
  pub state : state_of tables ≡ Ok s

-- a set after a patch whose store tells its tables or not
pub record IsPatchedBy (force : Bool) (tells : Bool) (told : Tables) (h next : Held) : Type 0 where
  pub state : State
  pub of : HoldsState tells told state
  pub made : step force h.state state ≡ Ok next.state
  pub held : next ≡ held_patched h state

-- tables of patches: of each that tells, those that it tells
abbrev pub AreToldBy : List Bool → List Tables → List Tables → Type 0
AreToldBy [] [] [] = Unit {0}
AreToldBy (tells ∷ all_tell) (told ∷ all_told) (t ∷ ts) = (tells ≡ true → t ≡ told) × AreToldBy all_tell all_told ts
AreToldBy _ _ _ = ⊥

-- a set after patches whose stores tell their tables or not
pub record IsPatchedByAll (force : Bool) (tells : List Bool) (told : List Tables) (base h : Held) : Type 0 where
  pub tables : List Tables
  pub are_told : AreToldBy tells told tables
  pub states : List State
  pub read : AreStatesOf tables states
  pub made : all_patched force 1 base.state tables ≡ Ok h.state
  pub held : h ≡ all_held base states

-- a set that was loaded from a base with patches since, and passes the tests of the set that is converted
pub record IsHeldFrom (force verify : Bool) (tells : Bool) (base : Tables) (patch_tells : List Bool) (patches : List Tables) (h : Held) : Type 0 where
  pub first : State
  pub base_state : tells ≡ true → state_of base ≡ Ok first
  pub patched : IsPatchedByAll force patch_tells patches (fresh first) h
  pub passes : tested verify h.state ≡ Ok h.state
  pub loaded : tells ≡ true → IsLoadedFrom base h
  pub named : tells ≡ true → NamesAlgorithm h.state

-- whether a patch has a tile at a place, of bytes or null
abbrev pub has_place : Place → Result State MbtError → Bool
has_place p (Ok q) = contains_key q.tiles p
has_place p (Err e) = false

-- whether one of the patches has
abbrev pub is_patched_at : List Tables → Place → Bool
is_patched_at patches p = list_any (λ t. has_place p (state_of t)) patches

-- a row that stands at such a place
abbrev pub is_patched_row : List Tables → List Cell → Bool
is_patched_row patches row = option_map_or (is_patched_at patches) (place_of row) false

-- the rows that stand under the key of a place that patches have: none, or that of the bytes, with their digest where
-- the layout has one, and with their id in a normalised set
abbrev pub rows_put : State → Place → List (List Cell)
rows_put s p = by (get s.tiles p)
  where
    by : Option (Option (List ℕ)) → List (List Cell)
    by (Some (Some bytes)) = put_row s.layout s.algorithm p bytes ∷ []
    by _ = []

-- Tables after patches. They hold the state; rows of other places, rows of contents with a null id, of metadata with a
-- null name, and of other tables stay. Contents with an id are those that a tile has.
pub record IsPatched (patches : List Tables) (s : State) (old new : Tables) : Type 0 where
  pub again : state_of new ≡ Ok s
  pub descriptions : new.descriptions ≡ old.descriptions
  pub put : (p : Place) → is_patched_at patches p ≡ true → rows_under new (tile_table s.layout) (tile_key p) ≡ rows_put s p
  pub kept : filter (λ row. not (is_patched_row patches row)) (new.rows (tile_table s.layout)) ≡ filter (λ row. not (is_patched_row patches row)) (old.rows (tile_table s.layout))
  pub referenced : (id cell : Cell) → get s.contents id ≡ Some cell → (p : Place) × (get s.ids p ≡ Some id)
  pub null_ids : filter (λ row. is_null (cell_at 0 row)) (new.rows (content_table s.layout)) ≡ filter (λ row. is_null (cell_at 0 row)) (old.rows (content_table s.layout))
  pub null_names : filter (λ row. is_null (cell_at 0 row)) (new.rows Metadata) ≡ filter (λ row. is_null (cell_at 0 row)) (old.rows Metadata)
  pub others : (table : TableName) → is_set_table s.layout table ≡ false → new.rows table ≡ old.rows table

-- the base after its patches; without patches its tables are as they were
abbrev pub IsBaseWith : List Tables → State → Tables → Tables → Type 0
IsBaseWith [] s old new = new ≡ old
IsBaseWith (t ∷ ts) s old new = IsPatched (t ∷ ts) s old new

-- tables after the commit of a set's changes, where there is one
abbrev pub IsStored : Bool → Held → Tables → Tables → Type 0
IsStored false h old new = new ≡ old
IsStored true h old new = MakesChanges h old new
