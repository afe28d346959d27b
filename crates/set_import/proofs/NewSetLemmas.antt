-- A set that is made of an archive where nothing was described.
use Rattle.set_import.proofs.Common.{address, AllPairs, ap, archive_map, arith, begun, Bool, codes, document_edits, editable, empty, Err, false, false≢true, Flat, flat_made, fresh, get, get-empty}
use Rattle.set_import.proofs.Common.{get-patched, HasTilesOf, Held, IfErr, IfOk, inl, inr, is_some, IsBase, IsBegun, IsMade, IsSaidBy, IsSound, length, List, MbtError, names_edited, NamesAlgorithm, nat_cmp}
use Rattle.set_import.proofs.Common.{None, Ok, OnOk, Option, option_and_then, option_map, patched, patched_at, Place, place_cmp, refl, Result, Some, started, started_by, State, state_filled, state_of}
use Rattle.set_import.proofs.Common.{subst, sym, Tables, TileJson, TileSet, true, width, with_tables, ℕ, [], ◌∙◌, ◌∷◌, ◌≡◌, ◌⊎◌}
use Rattle.std.specs.Cmp.Lexicographic.{slice_cmp}
use Rattle.std.proofs.lemmas.List.Elements.{All-nil}
use Rattle.set_options.proofs.NameLemmas.{algorithm_unsaid}
use Rattle.set_options.specs.Document.{IsDocumentOf}
use Rattle.mb_constraints.specs.Algorithm.{algorithm_by, unknown_name}
use Rattle.mb_constraints.specs.Described.{index_missing, metadata_missing}
use Rattle.mb_load.proofs.EmptyLemmas.{from_empty}
use Rattle.mb_load.proofs.StateAgain.{state_again}
use Rattle.mb_load.specs.EmptyTables.{AreEmpty}
use Rattle.mb_loaded.specs.Empty.{empty_state}
use Rattle.mb_metadata.proofs.ReadBackLemmas.{algorithm_unnamed}
use Rattle.mb_metadata.proofs.UpdateLemmas.{ok_same}
use Rattle.mb_store.specs.Store as stores
use Rattle.mb_tables.specs.Described.{is_table, names_apart}
use Rattle.mb_tables.specs.Detection.{layout_of, patch_type_of}
use Rattle.mb_tables.specs.Key.{clash}
use Rattle.mb_tables.specs.Refusals.{then}
use Rattle.mb_tables.specs.Schema.{set_tables}
use Rattle.mb_tables.specs.declared.description.TableDesc.{TableDesc}
use Rattle.mb_tables.specs.declared.table.TableName.{TableName}
use Rattle.mb_tables.specs.declared.table.TableName.TheVariants.{Metadata, Tiles}
use Rattle.set_import.specs.NewSet.{IsNewSet}
use Rattle.tile_hash.specs.declared.algorithm.HashAlgorithm.TheVariants.{Md5}

-- a table that isn't described has no rows
no_rows : (t : Tables) → IsSound t → t.descriptions ≡ [] → (table : TableName) → t.rows table ≡ []
no_rows t sound none table = sound.described table (ap (λ ds. is_table ds table) none)

none_clash : (table : TableName) → AllPairs (λ r s. clash table r s ≡ false) []
none_clash table = λ i j d less within. absurd (omega (arith, within))

made_sound : (t : Tables) → IsSound t → t.descriptions ≡ [] → IsSound (flat_made t)
made_sound t sound none = record {
  names = ap (λ ds. names_apart (with_tables ds (set_tables Flat))) none;
  described = λ table h. no_rows t sound none table;
  keys = λ table h. subst (AllPairs (λ r s. clash table r s ≡ false)) (sym (no_rows t sound none table)) (none_clash table);
  widths = sound.widths;
  counts = sound.counts;
}

pub made_empty : (t : Tables) → IsSound t → t.descriptions ≡ [] → AreEmpty Flat (flat_made t)
made_empty t sound none = record {
  is_layout = ap (λ ds. layout_of (with_tables ds (set_tables Flat))) none;
  whole = ap (λ ds. patch_type_of (with_tables ds (set_tables Flat))) none;
  described = ap (λ ds. metadata_missing (with_tables ds (set_tables Flat))) none;
  indexed = ap (λ ds. index_missing (with_tables ds (set_tables Flat)) Flat) none;
  tiles = no_rows t sound none Tiles;
  contents = refl;
  names = no_rows t sound none Metadata;
}

none_named : NamesAlgorithm (empty_state Flat Md5)
none_named = record {
  known = ap (λ (o : Option (Option (List ℕ))). unknown_name (option_and_then (λ (value : Option (List ℕ)). value) o)) (get-empty {X = Option (List ℕ)} (slice_cmp nat_cmp) (codes "hash_algorithm"));
  named = ap (λ (o : Option (Option (List ℕ))). algorithm_by (option_and_then (λ (value : Option (List ℕ)). value) o)) (get-empty {X = Option (List ℕ)} (slice_cmp nat_cmp) (codes "hash_algorithm"));
}

pub made_loads : (t : Tables) → IsSound t → t.descriptions ≡ [] → state_of (flat_made t) ≡ Ok (empty_state Flat Md5)
made_loads t sound none = state_again (flat_made t) (empty_state Flat Md5) (made_sound t sound none) (from_empty (flat_made t) Flat Md5 (made_empty t sound none)) none_named

-- tiles that are put where there are none
abbrev pub At : Type 0
At = Option (Option (List ℕ))

abbrev pub put_at : At → At
put_at o = patched_at (λ bytes. Some (Some bytes)) o None

pub alone : (old tiles : TileSet) (p : Place) → old ≡ empty → get (patched old tiles) p ≡ put_at (get tiles p)
alone old tiles p none = get-patched old tiles p ∙ ap (patched_at (λ bytes. Some (Some bytes)) (get tiles p)) (ap (λ (m : TileSet). get m p) none ∙ get-empty place_cmp p)

given : (o : Option (List ℕ)) → put_at (option_map (λ bytes. Some bytes) o) ≡ option_map (λ bytes. Some bytes) o
given None = refl
given (Some bytes) = refl

had : (o : At) → is_some (put_at o) ≡ true → is_some o ≡ true
had (Some x) h = refl
had None h = absurd (false≢true h)

has_tiles : (b : List ℕ) (old tiles : TileSet) → old ≡ empty → HasTilesOf b tiles → HasTilesOf b (patched old tiles)
has_tiles b old tiles none has = record {
  at = λ p board. alone old tiles p none ∙ (ap put_at (has.at p board) ∙ given (archive_map b (address p)));
  within = λ p h. has.within p (had (get tiles p) (ap is_some (sym (alone old tiles p none)) ∙ h));
  shallow = has.shallow;
}

said_algorithm : (b : List ℕ) (t : TileJson) → IsSaidBy b t → get t.other (codes "hash_algorithm") ≡ None
said_algorithm b t said =
    let of : IsDocumentOf said.opened_as.0 said.says.0 t = said.says.3 in
    algorithm_unsaid said.opened_as.0 of.0 t of.2

-- tables that describe nothing are started with those of a flat set
pub started_new : (t : Tables) → t.descriptions ≡ [] → started t ≡ flat_made t
started_new t none = ap (started_by t) none

-- an empty flat set is what a new store is loaded as
pub base_new : (t : Tables) → IsSound t → t.descriptions ≡ [] → IsBase (started t) (fresh (empty_state Flat Md5))
base_new t sound none = subst (λ (x : Tables). IsBase x (fresh (empty_state Flat Md5))) (sym (started_new t none)) record {
  loaded = from_empty (flat_made t) Flat Md5 (made_empty t sound none);
  clean = refl;
  named = none_named;
}

abbrev nothing : Tables
nothing = stores.no_rows []

nothing_sound : IsSound nothing
nothing_sound = record {
  names = refl;
  described = λ table h. refl;
  keys = λ table h. none_clash table;
  widths = λ table. All-nil (λ row. length row ≡ width table);
  counts = λ table. omega arith;
}

begun_empty : (t : Tables) → IsSound t → t.descriptions ≡ [] → begun editable (flat_made t) ≡ Ok (empty_state Flat Md5)
unfolding begun
begun_empty t sound none = ap (λ (r : Result State MbtError). then r editable) (made_loads t sound none)

pub begun_new : (tells : Bool) (t : Tables) → (tells ≡ true → IsSound t) → (tells ≡ true → t.descriptions ≡ []) → IsBegun editable tells (started t) (Ok (empty_state Flat Md5))
begun_new true t sound none = record {
  tables = started t;
  is_told = λ told. refl;
  answers = ap (begun editable) (started_new t (none refl)) ∙ begun_empty t (sound refl) (none refl);
}
begun_new false t sound none = record {
  tables = flat_made nothing;
  is_told = λ told. absurd (false≢true told);
  answers = begun_empty nothing nothing_sound refl;
}

-- other tables are started as they are
pub started_old : (t : Tables) → (t.descriptions ≡ [] → ⊥) → started t ≡ t
started_old t some = by t.descriptions some
  where
    by : (ds : List TableDesc) → (ds ≡ [] → ⊥) → started_by t ds ≡ t
    by [] some = absurd (some refl)
    by (d ∷ ds) some = refl

pub begun_old : (tells : Bool) (t : Tables) (r : Result State MbtError) → (tells ≡ true → t.descriptions ≡ [] → ⊥) → IsBegun editable tells t r → IsBegun editable tells (started t) r
begun_old tells t r some began = record {
  tables = began.tables;
  is_told = λ told. began.is_told told ∙ sym (started_old t (some told));
  answers = began.answers;
}

pub base_old : (t : Tables) (r : Result Held MbtError) → (t.descriptions ≡ [] → ⊥) → IfOk r (IsBase t) → IfOk r (IsBase (started t))
base_old t (Ok h) some base = subst (λ (x : Tables). IsBase x h) (sym (started_old t some)) base
base_old t (Err e) some base = tt

pub made_by : (t new : Tables) (r : Result (Unit {0}) MbtError) → t.descriptions ≡ [] → OnOk r (new ≡ flat_made t) → OnOk r (new ≡ started t)
made_by t new (Ok u) none is = is ∙ sym (started_new t none)
made_by t new (Err e) none is = tt

-- what a commit that is refused leaves of tables that were started
pub left_by : (old mid new : Tables) → mid ≡ started old → new ≡ mid → (new ≡ old) ⊎ ((old.descriptions ≡ []) × (new ≡ flat_made old))
left_by old mid new made kept = by old.descriptions refl
  where
    by : (ds : List TableDesc) → old.descriptions ≡ ds → (new ≡ old) ⊎ ((old.descriptions ≡ []) × (new ≡ flat_made old))
    by [] is = inr (is, kept ∙ (made ∙ started_new old is))
    by (d ∷ ds) is = inl (kept ∙ (made ∙ ap (started_by old) is))

-- what holds anyway holds after a refusal
pub at_refusal : {T E P : Type 0} (r : Result T E) → P → IfErr r (λ _. P)
at_refusal (Ok x) p = tt
at_refusal (Err e) p = p

pub new_set : (b : List ℕ) (old new : Tables) (n : ℕ) → IsSound old → old.descriptions ≡ [] → IsMade (Some b) old new n → IsNewSet b new
new_set b old new n sound none made =
    let is = made.filled in
    let as_empty : is.base ≡ empty_state Flat Md5 = ok_same is.base (empty_state Flat Md5) (sym is.loaded ∙ (ap state_of (started_new old none) ∙ made_loads old sound none)) in
    record {
      state = state_filled is.base is.tiles made.document;
      loads = is.again (algorithm_unnamed made.document (said_algorithm b made.document made.said));
      flat = ap (λ (s : State). s.layout) as_empty;
      tiles = has_tiles b is.base.tiles is.tiles (ap (λ (s : State). s.tiles) as_empty) is.are;
      document = made.document;
      said = made.said;
      names = ap (λ (s : State). names_edited s.metadata (document_edits made.document)) as_empty;
    }
