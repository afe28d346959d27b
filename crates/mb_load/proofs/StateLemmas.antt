-- What is due of tables is what is due of their rows.
use Rattle.mb_load.proofs.Common.{algorithm_of, ap, Bool, by_place, Cell, cell_at, cond, content_of, content_rows, contents_by_id, dates_in, DedupId, due_by, Err, false, false≢true, filter_map}
use Rattle.mb_load.proofs.Common.{first_refusal, Flat, from_entries, Hash, Held, held_by, held_in, id_in, IfErr, index_missing, is_free, is_normalized, is_null, layout_of, List, Loads, MbtError, MbtType}
use Rattle.mb_load.proofs.Common.{Metadata, metadata_missing, names_of, None, Normalized, NormalizedSchema, Ok, Option, option_and_then, option_or, pairs_by_id, patch_type_of, PatchType, place_cmp}
use Rattle.mb_load.proofs.Common.{refl, Result, row_refusals, rows_due, Some, State, state_of, stated, StoreFault, subst, sym, table_eq, TableDesc, Tables, tile_in, tile_of, tile_table, tiles_of}
use Rattle.mb_load.proofs.Common.{true, unless_refused, [], ◌∙◌, ◌∷◌, ◌≡◌, ◌≢◌}
use Rattle.mb_store.specs.Errors.{of_store}
use Rattle.mb_store.specs.declared.store.StoreError.{StoreError}
use Rattle.mb_store.specs.declared.store.StoreError.TheVariants.{Fault, OutOfMemory}

-- a row of a normalised set
named_row : (view : Bool) (schema : NormalizedSchema) (contents : List (List Cell)) (row : List Cell) → cond (is_null (cell_at 3 row)) None (tile_of row (content_of contents (cell_at 3 row))) ≡ tile_in (Normalized view schema) contents row
named_row view schema contents row = by (is_null (cell_at 3 row))
  where
    by : (b : Bool) → cond b None (tile_of row (content_of contents (cell_at 3 row))) ≡ option_and_then (tile_of row) (cond b None (Some (content_of contents (cell_at 3 row))))
    by true = refl
    by false = refl

pub named_rows : (view : Bool) (schema : NormalizedSchema) (contents rows : List (List Cell)) → pairs_by_id rows contents ≡ filter_map (tile_in (Normalized view schema) contents) rows
named_rows view schema contents rows = λ i. filter_map (λ row. named_row view schema contents row i) rows

tiles_same : (layout : MbtType) (t : Tables) → tiles_of layout t ≡ from_entries (filter_map (tile_in layout (content_rows layout t)) (t.rows (tile_table layout)))
tiles_same (Normalized view Hash) t = ap (from_entries {R = place_cmp}) (named_rows view Hash (content_rows (Normalized view Hash) t) (t.rows (tile_table (Normalized view Hash))))
tiles_same (Normalized view DedupId) t = ap (from_entries {R = place_cmp}) (named_rows view DedupId (content_rows (Normalized view DedupId) t) (t.rows (tile_table (Normalized view DedupId))))
tiles_same _ t = refl

held_same : (layout : MbtType) (t : Tables) → held_in layout t ≡ held_by layout (patch_type_of t.descriptions) (t.rows Metadata) (content_rows layout t) (t.rows (tile_table layout))
held_same layout t = λ i. record {
  layout = layout;
  algorithm = algorithm_of (t.rows Metadata);
  patch_type = patch_type_of t.descriptions;
  tiles = tiles_same layout t i;
  metadata = names_of (t.rows Metadata);
  ids = by_place (id_in layout) (t.rows (tile_table layout));
  contents = contents_by_id (content_rows layout t);
  dates = by_place (dates_in layout) (t.rows (tile_table layout));
}

after_two : (a b : Option MbtError) (rest : List (Option MbtError)) → a ≡ None → b ≡ None → first_refusal (a ∷ b ∷ rest) ≡ first_refusal rest
after_two a b rest h k = ap (λ o. option_or o (option_or b (first_refusal rest))) h ∙ ap (λ o. option_or o (first_refusal rest)) k

pub state_is : (t : Tables) (layout : MbtType) → layout_of t.descriptions ≡ Some layout → metadata_missing t.descriptions ≡ None → index_missing t.descriptions layout ≡ None → state_of t ≡ rows_due layout (patch_type_of t.descriptions) (t.rows Metadata) (content_rows layout t) (t.rows (tile_table layout))
state_is t layout l m x =
    ap (λ o. stated o t) l
    ∙ (ap (unless_refused layout t) (after_two (metadata_missing t.descriptions) (index_missing t.descriptions layout) (row_refusals layout (t.rows Metadata) (content_rows layout t) (t.rows (tile_table layout))) m x)
    ∙ by (first_refusal (row_refusals layout (t.rows Metadata) (content_rows layout t) (t.rows (tile_table layout)))))
  where
    by : (o : Option MbtError) → unless_refused layout t o ≡ due_by (held_by layout (patch_type_of t.descriptions) (t.rows Metadata) (content_rows layout t) (t.rows (tile_table layout))) o
    by (Some e) = refl
    by None = ap Ok (held_same layout t)

-- tables of these rows
abbrev pub made : List TableDesc → MbtType → List (List Cell) → List (List Cell) → List (List Cell) → Tables
made ds layout metadata contents rows = record { descriptions = ds; rows = λ table. cond (table_eq table Metadata) metadata (cond (table_eq table (tile_table layout)) rows contents) }

made_rows : (ds : List TableDesc) (layout : MbtType) (metadata contents rows : List (List Cell)) → (made ds layout metadata contents rows).rows (tile_table layout) ≡ rows
made_rows ds (Normalized view Hash) metadata contents rows = refl
made_rows ds _ metadata contents rows = refl

made_contents : (ds : List TableDesc) (layout : MbtType) (metadata contents rows : List (List Cell)) → (is_normalized layout ≡ false → contents ≡ []) → content_rows layout (made ds layout metadata contents rows) ≡ contents
made_contents ds (Normalized view Hash) metadata contents rows h = refl
made_contents ds (Normalized view DedupId) metadata contents rows h = refl
made_contents ds _ metadata contents rows h = sym (h refl)

-- an answer that is due of rows is due of the tables that have them
pub answer_of : (t : Tables) (layout : MbtType) (r : Result Held MbtError) (ds : List TableDesc) (patch_type : Option PatchType) (metadata contents rows : List (List Cell)) → ds ≡ t.descriptions → patch_type ≡ patch_type_of ds → layout_of ds ≡ Some layout → metadata_missing ds ≡ None → index_missing ds layout ≡ None → metadata ≡ t.rows Metadata → contents ≡ content_rows layout t → rows ≡ t.rows (tile_table layout) → Loads (rows_due layout patch_type metadata contents rows) r → Loads (state_of t) r
answer_of t layout r ds patch_type metadata contents rows d p l m x ms cs rs =
    subst (λ (due : Result State MbtError). Loads due r)
    (ap (λ o. rows_due layout o metadata contents rows) (p ∙ ap patch_type_of d)
    ∙ (ap (λ o. rows_due layout (patch_type_of t.descriptions) o contents rows) ms
    ∙ (ap (λ o. rows_due layout (patch_type_of t.descriptions) (t.rows Metadata) o rows) cs
    ∙ (ap (λ o. rows_due layout (patch_type_of t.descriptions) (t.rows Metadata) (content_rows layout t) o) rs
    ∙ sym (state_is t layout (ap layout_of (sym d) ∙ l) (ap metadata_missing (sym d) ∙ m) (ap (λ (e : List TableDesc). index_missing e layout) (sym d) ∙ x))))))

pub own_of : (layout : MbtType) (r : Result Held MbtError) (ds : List TableDesc) (patch_type : Option PatchType) (metadata contents rows : List (List Cell)) → patch_type ≡ patch_type_of ds → layout_of ds ≡ Some layout → metadata_missing ds ≡ None → index_missing ds layout ≡ None → (is_normalized layout ≡ false → contents ≡ []) → Loads (rows_due layout patch_type metadata contents rows) r → (t : Tables) × Loads (state_of t) r
own_of layout r ds patch_type metadata contents rows p l m x h loads = (
  made ds layout metadata contents rows,
  answer_of (made ds layout metadata contents rows) layout r ds patch_type metadata contents rows refl p l m x refl (sym (made_contents ds layout metadata contents rows h)) (sym (made_rows ds layout metadata contents rows)) loads,
)

-- a store that failed, or running out of memory, is due of any tables
pub store_free : (s : StoreError) → is_free (of_store s) ≡ true
store_free Fault = refl
store_free OutOfMemory = refl

pub own_of_store : (r : Result Held MbtError) (s : StoreError) (e : MbtError) → r ≡ Err e → e ≡ of_store s → (t : Tables) × Loads (state_of t) r
own_of_store r s e h k = (made [] Flat [] [] [], subst (λ (x : Result Held MbtError). Loads (state_of (made [] Flat [] [] [])) x) (sym h) (λ free. absurd (false≢true (sym free ∙ (ap is_free k ∙ store_free s)))))

pub own_refused : (r : Result Held MbtError) (ds : List TableDesc) (e f : MbtError) → r ≡ Err e → e ≡ f → ((t : Tables) → t.descriptions ≡ ds → state_of t ≡ Err f) → (t : Tables) × Loads (state_of t) r
own_refused r ds e f h k due = (made ds Flat [] [] [], subst (λ (x : Result Held MbtError). Loads (state_of (made ds Flat [] [] [])) x) (sym h) (λ free. due (made ds Flat [] [] []) refl ∙ ap Err (sym k)))

-- an error that is no fault of a store
pub no_fault : {A : Type 0} (r : Result A MbtError) (e f : MbtError) → r ≡ Err e → e ≡ f → f ≢ StoreFault → r ≢ Err StoreFault
no_fault r e f h k n fault = let same : e ≡ StoreFault = cc in n (sym k ∙ same)

pub never_faulted : {A : Type 0} (r : Result A MbtError) → IfErr r (λ e. e ≢ StoreFault) → r ≢ Err StoreFault
never_faulted {A = A} r h fault = subst (λ (x : Result A MbtError). IfErr x (λ e. e ≢ StoreFault)) fault h refl
