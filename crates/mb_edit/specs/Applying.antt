-- What a patch makes of the tables of a store.
use Rattle.std.specs.Prelude.{ℕ, ◌≡◌, ◌++◌, Bool, false, not, true, List, [], ◌∷◌, Some, None, Result, Ok, Err, filter, is_some, option_and_then}
use Rattle.mb_edit.specs.Common.{Answers, Cell, cell_at, cells_for, content_table, dates_for, FinMap, front, get, HashAlgorithm, id_for, is_null, is_set_table, MbtError, MbtType, Place, place_cmp}
use Rattle.mb_edit.specs.Common.{place_of, State, state_of, TableName, Tables, then, tile_key, tile_table}
use Rattle.mb_edit.specs.Step.{step}
use Rattle.mb_tables.specs.Key.{has_key}
use Rattle.mb_tables.specs.declared.table.TableName.TheVariants.{Metadata}

-- the first refusal: of loading the set, of loading the patch, of the patch; or the set after the patch
abbrev pub applied : Bool → Tables → Tables → Result State MbtError
applied force base patch = then (state_of base) (λ s. then (state_of patch) (λ q. step force s q))

-- whether a row stands at a place that a map has
abbrev pub stands_in : {A : Type 0} → FinMap place_cmp A → List Cell → Bool
stands_in m row = is_some (option_and_then (get m) (place_of row))

-- the row of bytes that are put at a place: with their digest where the layout has one, and with
-- their id in a normalised set
abbrev pub put_row : MbtType → HashAlgorithm → Place → List ℕ → List Cell
put_row layout a p bytes = front p ++ cells_for layout a (Some bytes) (id_for layout a bytes) (dates_for layout)

-- the tables of a set after a patch was applied
pub record IsApplied (force : Bool) (old patch new : Tables) : Type 0 where
  pub base : State
  pub other : State
  pub next : State
  pub loaded : state_of old ≡ Ok base
  pub read : state_of patch ≡ Ok other
  pub made : step force base other ≡ Ok next
  -- they load again, as the set after the patch
  pub again : state_of new ≡ Ok next
  pub descriptions : new.descriptions ≡ old.descriptions
  -- the rows of places that the patch doesn't name stay, in their order, and so do contents of a null id, values of a
  -- null name and other tables
  pub kept : filter (λ row. not (stands_in other.tiles row)) (new.rows (tile_table base.layout)) ≡ filter (λ row. not (stands_in other.tiles row)) (old.rows (tile_table base.layout))
  pub null_ids : filter (λ row. is_null (cell_at 0 row)) (new.rows (content_table base.layout)) ≡ filter (λ row. is_null (cell_at 0 row)) (old.rows (content_table base.layout))
  pub null_names : filter (λ row. is_null (cell_at 0 row)) (new.rows Metadata) ≡ filter (λ row. is_null (cell_at 0 row)) (old.rows Metadata)
  pub others : (table : TableName) → is_set_table base.layout table ≡ false → new.rows table ≡ old.rows table
  -- a place has the row of the bytes that the patch puts there, and none where it has null
  pub put : (p : Place) (bytes : List ℕ) → get other.tiles p ≡ Some (Some bytes) → filter (has_key (tile_table base.layout) (tile_key p)) (new.rows (tile_table base.layout)) ≡ put_row base.layout base.algorithm p bytes ∷ []
  pub cleared : (p : Place) → get other.tiles p ≡ Some None → filter (has_key (tile_table base.layout) (tile_key p)) (new.rows (tile_table base.layout)) ≡ []

-- the same of a patch that tells its tables or not: then of some tables that its answers could be of
pub record IsAppliedBy (force : Bool) (tells : Bool) (told old new : Tables) : Type 0 where
  pub patch : Tables
  pub is_told : tells ≡ true → patch ≡ told
  pub applied : IsApplied force old patch new

-- what a call answers that keeps the set after the patch to itself
abbrev pub answer_of : Result State MbtError → Result (Unit {0}) MbtError
answer_of r = then r (λ next. Ok tt)

-- the answer that is due of a set and a patch: of what they tell, and of some tables that their answers could be of,
-- where they tell nothing. Only running out of memory and a fault of a store may come in its place
pub record IsAnsweredBy (force : Bool) (base_tells : Bool) (base_told : Tables) (patch_tells : Bool) (patch_told : Tables) (answer : Result (Unit {0}) MbtError) : Type 0 where
  pub base : Tables
  pub is_base : base_tells ≡ true → base ≡ base_told
  pub patch : Tables
  pub is_patch : patch_tells ≡ true → patch ≡ patch_told
  pub answers : Answers (answer_of (applied force base patch)) answer
