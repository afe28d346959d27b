-- What becomes of a store that is filled from an archive: in one commit tiles are put over those of its set and a
-- document into its metadata; the tables of a flat set are made before
-- it where nothing is described.
use Rattle.std.specs.Prelude.{◌≡◌, ◌⊎◌, ℕ, codes, Bool, true, false, List, [], ◌∷◌, Option, IfSome, Result, Ok, Err}
use Rattle.set_import.specs.Common.{Answers, Archive, created, document_edits, Flat, HasTilesOf, held_edited, ImportCauses, ImportError, is_edited, IsAnswered, IsPutOver, len, MakesChanges}
use Rattle.set_import.specs.Common.{OutOfMemory, PmtError, State, state_edited, state_of, state_put, Store, Tables, TileJson, tiles_put, TileSet}
use Rattle.mb_load.specs.Committed.{IsCommitted}
use Rattle.mb_loaded.specs.Held.{Held, fresh}
use Rattle.mb_tables.specs.Schema.{set_tables}
use Rattle.mb_tables.specs.declared.cell.Cell.TheVariants.{Text}
use Rattle.mb_tables.specs.declared.description.TableDesc.{TableDesc}
use Rattle.mb_tables.specs.declared.error.MbtError.TheVariants as stores
use Rattle.pm_format.specs.declared.error.PmtError.TheVariants as errors
use Rattle.set_import.specs.Said.{IsSaidAs, IsSaidBy}
use Rattle.tile_import.specs.Refusals.{is_free}

-- tables, with those of a flat set described too
abbrev pub flat_made : Tables → Tables
flat_made t = created t (set_tables Flat)

-- the tables into which an archive goes: these, and where they describe nothing, with those of a flat set
abbrev pub started_by : Tables → List TableDesc → Tables
started_by t [] = flat_made t
started_by t (d ∷ ds) = t

abbrev pub started : Tables → Tables
started t = started_by t t.descriptions

-- a loaded set with as many tiles as are answered over its own, and with what a document says in its metadata
pub record IsFilledSet (told : Option (List ℕ)) (t : TileJson) (base next : Held) (n : ℕ) : Type 0 where
  pub between : Held
  pub put : IsPutOver told base between n
  pub named : next ≡ held_edited between (document_edits t)

-- a set as it was loaded, with tiles over its own and what a document says in its metadata; and its state
abbrev pub held_filled : State → TileSet → TileJson → Held
held_filled s tiles t = held_edited (tiles_put (fresh s) tiles) (document_edits t)

abbrev pub state_filled : State → TileSet → TileJson → State
state_filled s tiles t = state_edited (state_put s tiles) (document_edits t)

-- Tables that held a set, and took in one commit as many tiles as were answered, those of the archive where it tells
-- its bytes, and a document into the metadata.
pub record IsFilled (told : Option (List ℕ)) (t : TileJson) (made new : Tables) (n : ℕ) : Type 0 where
  pub tiles : TileSet
  pub are : IfSome told (λ b. HasTilesOf b tiles)
  pub count : n ≡ len tiles
  pub base : State
  pub loaded : state_of made ≡ Ok base
  -- under each key that was put stands its row, with the digest of its bytes where the layout has one; all other rows
  -- and the descriptions are as before
  pub rows : IsCommitted (held_filled base tiles t) made new
  -- one commit made of them exactly what the set with both asks for, also of rows without a place or a name
  pub commits : MakesChanges (held_filled base tiles t) made new
  -- they load again, as the set with both, where the document doesn't name the algorithm
  pub again : is_edited (document_edits t) (Text (codes "hash_algorithm")) ≡ false → state_of new ≡ Ok (state_filled base tiles t)

-- the same of the tables as they are started, with the document that the archive says
pub record IsMade (told : Option (List ℕ)) (old new : Tables) (n : ℕ) : Type 0 where
  pub document : TileJson
  pub said : IfSome told (λ b. IsSaidBy b document)
  pub filled : IsFilled told document (started old) new n

-- running out of memory, or a fault of the store: the store can't be written
abbrev pub is_unwritten : ImportError → Bool
is_unwritten (Store stores.StoreFault) = true
is_unwritten OutOfMemory = true
is_unwritten e = false

-- what a refusal leaves: the tables as they were; or, where they described nothing, those of a flat set without rows,
-- if the store didn't take the commit itself
abbrev pub IsLeft : Tables → Tables → ImportError → Type 0
IsLeft old new e = (new ≡ old) ⊎ ((old.descriptions ≡ []) × (new ≡ flat_made old) × (is_unwritten e ≡ true))

-- The answer that is due, in order: the refusal of what the archive says of itself, or else that of the import into
-- tables.
abbrev pub IsDue : Result TileJson PmtError → ℕ → Option (List ℕ) → Bool → Tables → Result ℕ ImportError → Type 0
IsDue (Err e) most told tells made answer = Answers (Err (Archive e)) answer
IsDue (Ok t) most told tells made answer = IsAnswered most told tells made answer

-- It is that of the tables and the bytes that are told; of a store or a backend that tells nothing, that of some
-- tables, or of something that an archive may say and give.
pub record IsOwed (most : ℕ) (told : Option (List ℕ)) (tells : Bool) (store : Tables) (answer : Result ℕ ImportError) : Type 0 where
  pub said : Result TileJson PmtError
  pub is_said : IfSome told (λ b. IsSaidAs b said)
  pub due : IsDue said most told tells (started store) answer

-- running out of memory, or a fault of the archive or the store
abbrev pub IsFree : Result ℕ ImportError → Type 0
IsFree (Ok n) = ⊥
IsFree (Err e) = is_free e ≡ true

-- the answer is the one that is due, unless it is free
abbrev pub IsAnsweredAs : ℕ → Option (List ℕ) → Bool → Tables → Result ℕ ImportError → Type 0
IsAnsweredAs most told tells store answer = IsFree answer ⊎ IsOwed most told tells store answer

-- why: metadata that isn't UTF-8 or no object of JSON, or as an import
abbrev pub MadeCauses : ℕ → ℕ → ℕ → ℕ → ℕ → Result ℕ ImportError → Type 0
MadeCauses most before now old new (Err (Archive errors.InvalidMetadata)) = Unit {0}
MadeCauses most before now old new (Err (Archive errors.InvalidMetadataUtf8Encoding)) = Unit {0}
MadeCauses most before now old new r = ImportCauses most before now old new r
