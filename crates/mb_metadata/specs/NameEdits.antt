-- Edits of names of metadata, and what a commit of them leaves of a set and of its tables.
use Rattle.std.specs.Prelude.{◌≡◌, ℕ, codes, ◌||◌, Bool, true, false, not, List, [], ◌∷◌, Option, Some, None, Result, Ok, cond, filter, option_map, option_to_list}
use Rattle.mb_metadata.specs.Common.{cell_at, contains_key, FinMap, insert, MbtError, Names, nat_cmp, remove, slice_cmp, State, state_of, table_eq, Tables}
use Rattle.mb_loaded.specs.Changing.{name_row}
use Rattle.mb_load.specs.Committed.{rows_under}
use Rattle.mb_loaded.specs.Held.{Held, fresh, nothing_edited}
use Rattle.mb_load.specs.LoadedFrom.{IsLoadedFrom, NamesAlgorithm}
use Rattle.mb_metadata.specs.declared.name_edits.NameEdit.{NameEdit}
use Rattle.mb_tables.specs.Cell.{cell_eq}
use Rattle.mb_tables.specs.declared.cell.Cell.{Cell}
use Rattle.mb_tables.specs.declared.cell.Cell.TheVariants.{Text}
use Rattle.mb_tables.specs.declared.key.RowKey.TheVariants.{TextId}
use Rattle.mb_tables.specs.declared.table.TableName.{TableName}
use Rattle.mb_tables.specs.declared.table.TableName.TheVariants.{Metadata}

-- a text is put under a name; a text, if there is one; a name is removed, if it is there
abbrev pub put_of : List ℕ → List ℕ → NameEdit
put_of name text = record { name = name; text = Some text }

abbrev pub put_any : List ℕ → Option (List ℕ) → Option NameEdit
put_any name text = option_map (put_of name) text

abbrev pub removal_of : List ℕ → NameEdit
removal_of name = record { name = name; text = None }

abbrev pub removal : Names → List ℕ → Option NameEdit
removal names name = cond (contains_key names name) (Some (removal_of name)) None

-- metadata after one edit, and after edits one after another
abbrev pub with_text : Names → List ℕ → Option (List ℕ) → Names
with_text names name None = remove names name
with_text names name (Some text) = insert names name (Some text)

abbrev pub names_edited : Names → List NameEdit → Names
names_edited names [] = names
names_edited names (e ∷ es) = names_edited (with_text names e.name e.text) es

-- a set with the metadata after edits
abbrev pub state_edited : State → List NameEdit → State
state_edited s edits = record s { metadata = names_edited s.metadata edits }

-- names that were edited, and those of edits
abbrev pub with_touched : FinMap (slice_cmp nat_cmp) (Unit {0}) → List NameEdit → FinMap (slice_cmp nat_cmp) (Unit {0})
with_touched names [] = names
with_touched names (e ∷ es) = with_touched (insert names e.name tt) es

abbrev pub held_edited : Held → List NameEdit → Held
held_edited h edits = record { state = state_edited h.state edits; edited = record h.edited { names = with_touched h.edited.names edits } }

-- whether a cell is the name of one of the edits
abbrev pub is_edited : List NameEdit → Cell → Bool
is_edited [] cell = false
is_edited (e ∷ es) cell = cell_eq cell (Text e.name) || is_edited es cell

-- a set as it was loaded from tables, with nothing edited since
pub record IsFresh (t : Tables) (h : Held) : Type 0 where
  pub loaded : state_of t ≡ Ok h.state
  pub clean : h.edited ≡ nothing_edited
  pub from : IsLoadedFrom t h

-- tables of a set after edits of its metadata
pub record AreEdited (s : State) (edits : List NameEdit) (old new : Tables) : Type 0 where
  -- they hold the set with the metadata after the edits. They load as it where that names the algorithm of the set, as
  -- it does where the edits don't name it
  pub holds : IsLoadedFrom new (fresh (state_edited s edits))
  pub again : NamesAlgorithm (state_edited s edits) → state_of new ≡ Ok (state_edited s edits)
  pub unnamed : is_edited edits (Text (codes "hash_algorithm")) ≡ false → state_of new ≡ Ok (state_edited s edits)
  -- under the name of each edit stands its row, or none; all other rows stay, in their order,
  -- and so do the descriptions
  pub put : (name : List ℕ) → is_edited edits (Text name) ≡ true → rows_under new Metadata (TextId name) ≡ option_to_list (name_row (names_edited s.metadata edits) name)
  pub kept : filter (λ row. not (is_edited edits (cell_at 0 row))) (new.rows Metadata) ≡ filter (λ row. not (is_edited edits (cell_at 0 row))) (old.rows Metadata)
  pub others : (table : TableName) → table_eq table Metadata ≡ false → new.rows table ≡ old.rows table
  pub descriptions : new.descriptions ≡ old.descriptions
  -- nothing is committed where there is nothing to edit
  pub idle : edits ≡ [] → new ≡ old

-- the same of tables that load, after edits that their set asks for
pub record EditsNames (edits : State → List NameEdit) (old new : Tables) : Type 0 where
  pub state : State
  pub loaded : state_of old ≡ Ok state
  pub edited : AreEdited state (edits state) old new

-- nothing more than loading is tested
abbrev pub done_answer : State → Result (Unit {0}) MbtError
done_answer s = Ok tt
