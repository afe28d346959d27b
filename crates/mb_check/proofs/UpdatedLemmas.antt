-- A set with its computed hash stored, and its tables after the commit: edits of two names.
use Rattle.mb_check.proofs.Common.{aggregate, ap, Cell, cell_at, codes, filter, get, get-insert, HashAlgorithm, Held, insert, IsLoadedFrom, List, MakesChanges, Names, NamesAlgorithm, not}
use Rattle.mb_check.proofs.Common.{nothing_edited, Ok, Option, option_and_then, option_map, option_to_list, refl, Some, sym, Tables, text_at, text_cell, with_name, ℕ, [], ◌||◌, ◌∙◌, ◌∷◌, ◌≡◌}
use Rattle.std.proofs.Math.Bool.{or-false}
use Rattle.std.proofs.lemmas.Cmp.{nat_list_cmp_total}
use Rattle.mb_check.specs.Updated.{IsUpdated, held_hashed, is_hash_row, names_hashed}
use Rattle.mb_constraints.specs.Algorithm.{algorithm_by, unknown_name}
use Rattle.mb_load.proofs.AlgorithmNames.{name_back, name_known}
use Rattle.mb_load.proofs.EditedFrom.{from_with_name}
use Rattle.mb_load.specs.StateOf.{state_of}
use Rattle.mb_metadata.proofs.NameEditLemmas.{edits_committed}
use Rattle.mb_metadata.specs.NameEdits.{AreEdited, is_edited, put_of}
use Rattle.mb_store.specs.Store.{IsSound}
use Rattle.mb_tables.specs.Cell.{cell_eq}
use Rattle.mb_tables.specs.declared.cell.Cell.TheVariants.{Text}
use Rattle.mb_tables.specs.declared.table.TableName.TheVariants.{Metadata}
use Rattle.tile_hash.specs.Digest.{name_of}

abbrev hash_name : List ℕ
hash_name = codes "agg_tiles_hash"

abbrev algorithm_name : List ℕ
algorithm_name = codes "hash_algorithm"

-- the two names are edited
abbrev two_edits : {A : Type 0} → (List ℕ → List ℕ → A) → HashAlgorithm → List ℕ → List A
two_edits put a hash = put hash_name hash ∷ put algorithm_name (name_of a) ∷ []

some : {A : Type 0} (a b : A) → a ∷ b ∷ [] ≡ [] → ⊥
some a b h = cc

-- what metadata have under the two names
get_hash : (names : Names) (a : HashAlgorithm) (hash : List ℕ) → get (names_hashed names a hash) hash_name ≡ Some (Some hash)
get_hash names a hash =
    get-insert nat_list_cmp_total (insert names hash_name (Some hash)) algorithm_name (Some (name_of a)) hash_name
    ∙ get-insert nat_list_cmp_total names hash_name (Some hash) hash_name

get_algorithm : (names : Names) (a : HashAlgorithm) (hash : List ℕ) → get (names_hashed names a hash) algorithm_name ≡ Some (Some (name_of a))
get_algorithm names a hash = get-insert nat_list_cmp_total (insert names hash_name (Some hash)) algorithm_name (Some (name_of a)) algorithm_name

text_named : (names : Names) (a : HashAlgorithm) (hash : List ℕ) → text_at (names_hashed names a hash) algorithm_name ≡ Some (name_of a)
text_named names a hash = ap (λ (o : Option (Option (List ℕ))). option_and_then (λ (value : Option (List ℕ)). value) o) (get_algorithm names a hash)

pub hashed_named : (h : Held) (hash : List ℕ) → NamesAlgorithm (held_hashed h hash).state
hashed_named h hash = record {
  known = ap unknown_name (text_named h.state.metadata h.state.algorithm hash) ∙ name_known h.state.algorithm;
  named = ap algorithm_by (text_named h.state.metadata h.state.algorithm hash) ∙ name_back h.state.algorithm;
}

-- the two names are put one after the other
pub hashed_by : (h first second third : Held) (hash v w : List ℕ) (a : HashAlgorithm) → first ≡ h → second ≡ with_name first hash_name (Some v) → third ≡ with_name second algorithm_name (Some w) → v ≡ hash → w ≡ name_of a → a ≡ h.state.algorithm → third ≡ held_hashed h hash
hashed_by h first second third hash v w a opened one two hashed named same =
    two
    ∙ (ap (λ (x : Held). with_name x algorithm_name (Some w)) (one ∙ (ap (λ (x : Held). with_name x hash_name (Some v)) opened ∙ ap (λ (x : List ℕ). with_name h hash_name (Some x)) hashed))
    ∙ ap (λ (x : List ℕ). with_name (with_name h hash_name (Some hash)) algorithm_name (Some x)) (named ∙ ap name_of same))

-- it was loaded from the tables of the set
pub hashed_loaded : (t : Tables) (h : Held) (hash : List ℕ) → IsLoadedFrom t h → IsLoadedFrom t (held_hashed h hash)
hashed_loaded t h hash l = from_with_name t (with_name h hash_name (Some hash)) algorithm_name (Some (name_of h.state.algorithm)) (from_with_name t h hash_name (Some hash) l)

-- rows of other names are those without the two keys
same_rows : (a : HashAlgorithm) (hash : List ℕ) (rows : List (List Cell)) → filter (λ row. not (is_edited (two_edits put_of a hash) (cell_at 0 row))) rows ≡ filter (λ row. not (is_hash_row row)) rows
same_rows a hash rows = λ i. filter (λ row. not (cell_eq (cell_at 0 row) (Text hash_name) || or-false (cell_eq (cell_at 0 row) (Text algorithm_name)) i)) rows

-- the tables after the commit
pub hashed_updated : (old new : Tables) (h next : Held) (hash : List ℕ) → next ≡ held_hashed h hash → hash ≡ aggregate h.state.algorithm h.state.tiles → h.edited ≡ nothing_edited → state_of old ≡ Ok h.state → IsLoadedFrom old h → IsSound new → MakesChanges next old new → IsUpdated old new
hashed_updated old new h next hash value is clean loaded from sound made =
    let edited : AreEdited h.state (two_edits put_of h.state.algorithm hash) old new =
    edits_committed old new h next (two_edits put_of h.state.algorithm hash) value (some (put_of hash_name hash) (put_of algorithm_name (name_of h.state.algorithm))) (record { loaded = loaded; clean = clean; from = from }) sound made in
    record {
      state = h.state;
      loaded = loaded;
      again = edited.again (hashed_named h hash) ∙ ap (λ (x : List ℕ). Ok (record h.state { metadata = names_hashed h.state.metadata h.state.algorithm x })) is;
      descriptions = edited.descriptions;
      hash = edited.put hash_name refl ∙ (ap (λ o. option_to_list (row_of hash_name o)) (get_hash h.state.metadata h.state.algorithm hash) ∙ ap (λ (x : List ℕ). (Text hash_name ∷ Text x ∷ []) ∷ []) is);
      algorithm = edited.put algorithm_name refl ∙ ap (λ o. option_to_list (row_of algorithm_name o)) (get_algorithm h.state.metadata h.state.algorithm hash);
      kept = sym (same_rows h.state.algorithm hash (new.rows Metadata)) ∙ (edited.kept ∙ same_rows h.state.algorithm hash (old.rows Metadata));
      others = edited.others;
    }
  where
    row_of : List ℕ → Option (Option (List ℕ)) → Option (List Cell)
    row_of name o = option_map (λ (value : Option (List ℕ)). Text name ∷ text_cell value ∷ []) o
