-- The set that tiles are packed into.
use Rattle.std.specs.Prelude.{◌≡◌, Bool, true, false, List, [], ◌∷◌, Result, Ok, Err, IfErr, IfOk}
use Rattle.mb_tree.specs.Common.{empty_state, Flat, MbtError, MismatchedTargetType, State, state_of, Tables, then}
use Rattle.mb_store.specs.Store.{created}
use Rattle.mb_tables.specs.Schema.{set_tables}
use Rattle.mb_tables.specs.declared.description.TableDesc.{TableDesc}
use Rattle.mb_tables.specs.declared.kind.MbtType.{MbtType}
use Rattle.mb_tree.specs.Wanting.{is_wanting}
use Rattle.mb_tree.specs.declared.base.Base.{Base}
use Rattle.tile_hash.specs.declared.algorithm.HashAlgorithm.TheVariants.{Md5}

-- a flat set, and a refusal of any other
abbrev pub if_flat : MbtType → State → Result State MbtError
if_flat Flat s = Ok s
if_flat layout s = Err (MismatchedTargetType layout Flat)

abbrev pub flat_alone : State → Result State MbtError
flat_alone s = if_flat s.layout s

-- what tables hold, where they describe anything, and else no tiles and no metadata
abbrev pub base_by : List TableDesc → Tables → Result State MbtError
base_by [] t = Ok (empty_state Flat Md5)
base_by (d ∷ ds) t = then (state_of t) flat_alone

unfoldable pub base_of : Tables → Result State MbtError
base_of t = base_by t.descriptions t

-- tables after those of a flat set were made, where nothing was described
abbrev pub made_by : List TableDesc → Tables → Tables
made_by [] t = created t (set_tables Flat)
made_by (d ∷ ds) t = t

unfoldable pub made : Tables → Tables
made t = made_by t.descriptions t

-- the set of a store, and whether its tables are yet to be made: that of what the store tells, and of some tables that
-- its answers could be of, where it tells nothing
pub record IsBaseOf (tells : Bool) (told : Tables) (answer : Result Base MbtError) : Type 0 where
  pub tables : Tables
  pub is_told : tells ≡ true → tables ≡ told
  pub state : IfOk answer (λ b. base_of tables ≡ Ok b.set.state)
  pub refused : IfErr answer (λ e. is_wanting e ≡ false → base_of tables ≡ Err e)

-- the same of a store that describes tables
pub record IsFlatOf (tells : Bool) (told : Tables) (answer : Result Base MbtError) : Type 0 where
  pub tables : Tables
  pub is_told : tells ≡ true → tables ≡ told
  pub state : IfOk answer (λ b. then (state_of tables) flat_alone ≡ Ok b.set.state)
  pub refused : IfErr answer (λ e. is_wanting e ≡ false → then (state_of tables) flat_alone ≡ Err e)

-- tables after those of a flat set were made, if they are yet to be made
abbrev pub made_if : Bool → Tables → Tables
made_if true t = created t (set_tables Flat)
made_if false t = t
