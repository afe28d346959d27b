-- What storing the hash of all tiles makes of a set and of its tables.
use Rattle.std.specs.Prelude.{◌≡◌, ℕ, codes, ◌||◌, Bool, false, not, List, [], ◌∷◌, Some, Ok, filter}
use Rattle.mb_check.specs.Common.{aggregate, cell_at, HashAlgorithm, insert, Names, State, table_eq, Tables, with_name}
use Rattle.mb_load.specs.Committed.{rows_under}
use Rattle.mb_loaded.specs.Held.{Held}
use Rattle.mb_load.specs.StateOf.{state_of}
use Rattle.mb_tables.specs.Cell.{cell_eq}
use Rattle.mb_tables.specs.declared.cell.Cell.{Cell}
use Rattle.mb_tables.specs.declared.cell.Cell.TheVariants.{Text}
use Rattle.mb_tables.specs.declared.key.RowKey.TheVariants.{TextId}
use Rattle.mb_tables.specs.declared.table.TableName.{TableName}
use Rattle.mb_tables.specs.declared.table.TableName.TheVariants.{Metadata}
use Rattle.tile_hash.specs.Digest.{name_of}

-- metadata with a hash of all tiles and the name of its algorithm
abbrev pub names_hashed : Names → HashAlgorithm → List ℕ → Names
names_hashed names a hash = insert (insert names (codes "agg_tiles_hash") (Some hash)) (codes "hash_algorithm") (Some (name_of a))

-- a set with its computed hash in its metadata
abbrev pub state_hashed : State → State
state_hashed s = record s { metadata = names_hashed s.metadata s.algorithm (aggregate s.algorithm s.tiles) }

-- the same by edits of a loaded set
abbrev pub held_hashed : Held → List ℕ → Held
held_hashed h hash = with_name (with_name h (codes "agg_tiles_hash") (Some hash)) (codes "hash_algorithm") (Some (name_of h.state.algorithm))

-- whether a row of metadata has one of the two names
abbrev pub is_hash_row : List Cell → Bool
is_hash_row row = cell_eq (cell_at 0 row) (Text (codes "agg_tiles_hash")) || cell_eq (cell_at 0 row) (Text (codes "hash_algorithm"))

-- tables after the computed hash was stored
pub record IsUpdated (old new : Tables) : Type 0 where
  pub state : State
  pub loaded : state_of old ≡ Ok state
  -- they load again, with the two names in the metadata
  pub again : state_of new ≡ Ok (state_hashed state)
  pub descriptions : new.descriptions ≡ old.descriptions
  pub hash : rows_under new Metadata (TextId (codes "agg_tiles_hash")) ≡ (Text (codes "agg_tiles_hash") ∷ Text (aggregate state.algorithm state.tiles) ∷ []) ∷ []
  pub algorithm : rows_under new Metadata (TextId (codes "hash_algorithm")) ≡ (Text (codes "hash_algorithm") ∷ Text (name_of state.algorithm) ∷ []) ∷ []
  -- all other rows stay, in their order
  pub kept : filter (λ row. not (is_hash_row row)) (new.rows Metadata) ≡ filter (λ row. not (is_hash_row row)) (old.rows Metadata)
  pub others : (table : TableName) → table_eq table Metadata ≡ false → new.rows table ≡ old.rows table
