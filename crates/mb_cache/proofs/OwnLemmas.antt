-- What a step of opening a cache that is refused answers: over the tables that are told, and over some
-- tables where nothing is told.
use Rattle.mb_cache.proofs.Common.{Agrees, ap, AreEntries, Bool, Cache, Cell, cond, described_answer, Entry, Err, false, false≢true, Flat, InvalidDataFormat, is_cache_layout, is_free, is_keyed}
use Rattle.mb_cache.proofs.Common.{is_metadata, layout_of, List, list_any, made, MbtError, Metadata, None, NotACacheFile, NoUniquenessConstraint, Null, Ok, OnOk, open_answer, OpensAs, Other, refl}
use Rattle.mb_cache.proofs.Common.{Result, row_refusal, Some, store_free, StoreFault, subst, sym, TableDesc, Tables, TileCache, true, [], ◌∙◌, ◌∷◌, ◌≡◌}
use Rattle.mb_cache.proofs.OpenLemmas.{described_refused, is_cache, rows_agree, rows_refused}
use Rattle.mb_cache.proofs.RowOrder.{kinds_first}
use Rattle.mb_store.specs.Errors.{of_store}
use Rattle.mb_store.specs.declared.store.StoreError.{StoreError}
use Rattle.mb_tables.specs.declared.description.TableKind.TheVariants.{Table}

pub on_ok : {A E : Type 0} (r : Result A E) (P : Type 0) → P → OnOk r P
on_ok (Ok x) P p = p
on_ok (Err x) P p = tt

module _ (r : Result (List Entry) MbtError) (e f : MbtError) (is : r ≡ Err e) (same : e ≡ f) where
  -- an answer that is the error of a step
  pub opens_err : (t : Tables) → (is_free f ≡ false → open_answer t ≡ Err f) → OpensAs t r
  opens_err t due = subst (λ (x : Result (List Entry) MbtError). OpensAs t x) (sym is) (λ free. due (sym (ap is_free same) ∙ free) ∙ ap Err (sym same))

  pub opens_free : (t : Tables) → is_free f ≡ true → OpensAs t r
  opens_free t free = opens_err t (λ h. absurd (false≢true (sym h ∙ free)))

pub opens_store : (r : Result (List Entry) MbtError) (e : MbtError) (s : StoreError) → r ≡ Err e → e ≡ of_store s → (t : Tables) → OpensAs t r
opens_store r e s is same t = opens_free r e (of_store s) is same t (store_free s)

-- tables without rows, and tables that are those of no cache
abbrev pub no_tables : Tables
no_tables = made [] Flat [] [] []

abbrev other_tables : Tables
other_tables = made (record { name = []; kind = Table; columns = []; indexes = [] } ∷ []) Flat [] [] []

no_cache : open_answer other_tables ≡ Err NotACacheFile
no_cache = refl

pub own_begin : (r : Result (List Entry) MbtError) (e f : MbtError) → r ≡ Err e → e ≡ f → (is_free f ≡ false → f ≡ NotACacheFile) → (t : Tables) × OpensAs t r
own_begin r e f is same cause = (other_tables, opens_err r e f is same other_tables (λ free. no_cache ∙ ap Err (sym (cause free))))

-- descriptions that are refused
pub own_described : (ds : List TableDesc) (r : Result (List Entry) MbtError) (e f : MbtError) → r ≡ Err e → e ≡ f → described_answer ds ≡ Err f → (t : Tables) × OpensAs t r
own_described ds r e f is same refused = by (is_cache_layout (layout_of ds)) refl refused
  where
    by : (b : Bool) → is_cache_layout (layout_of ds) ≡ b → ◌≡◌ {A = Result (Unit {0}) MbtError} (cond b (cond (list_any is_metadata ds) (cond (is_keyed ds TileCache) (Ok tt) (Err NoUniquenessConstraint)) (Err InvalidDataFormat)) (Err NotACacheFile)) (Err f) → (t : Tables) × OpensAs t r
    by true g h = (made ds Cache [] [] [], opens_err r e f is same (made ds Cache [] [] []) (λ free. described_refused (made ds Cache [] [] []) (is_cache (layout_of ds) g) f refused))
    by false g h = let cause : NotACacheFile ≡ f = cc in (other_tables, opens_err r e f is same other_tables (λ free. no_cache ∙ ap Err cause))

pub described_no_fault : (ds : List TableDesc) (f : MbtError) → described_answer ds ≡ Err f → f ≡ StoreFault → ⊥
described_no_fault ds f refused fault = by (is_cache_layout (layout_of ds)) (list_any is_metadata ds) (is_keyed ds TileCache) (refused ∙ ap Err fault)
  where
    by : (a b c : Bool) → ◌≡◌ {A = Result (Unit {0}) MbtError} (cond a (cond b (cond c (Ok tt) (Err NoUniquenessConstraint)) (Err InvalidDataFormat)) (Err NotACacheFile)) (Err StoreFault) → ⊥
    by true true true h = cc
    by _ _ _ h = cc

-- rows with a cell of another kind
abbrev bad_rows : List (List Cell)
bad_rows = (Null ∷ Null ∷ Null ∷ Other ∷ []) ∷ []

pub own_kind : (ds : List TableDesc) (r : Result (List Entry) MbtError) (e f : MbtError) → r ≡ Err e → e ≡ f → described_answer ds ≡ Ok tt → (is_free f ≡ false → f ≡ InvalidDataFormat) → (t : Tables) × OpensAs t r
own_kind ds r e f is same described cause =
    let t : Tables = made ds Cache [] [] bad_rows in
    (t, opens_err r e f is same t (λ free. rows_refused t described InvalidDataFormat (kinds_first [] bad_rows InvalidDataFormat refl) ∙ ap Err (sym (cause free))))

-- rows that are refused, and rows that pass
module _ (t : Tables) (metadata rows : List (List Cell)) (described : described_answer t.descriptions ≡ Ok tt) (ms : metadata ≡ t.rows Metadata) (rs : rows ≡ t.rows TileCache) where
  moved : row_refusal (t.rows Metadata) (t.rows TileCache) ≡ row_refusal metadata rows
  moved = ap (λ m. row_refusal m (t.rows TileCache)) (sym ms) ∙ ap (row_refusal metadata) (sym rs)

  pub due_rows : (f : MbtError) → row_refusal metadata rows ≡ Some f → open_answer t ≡ Err f
  due_rows f h = rows_refused t described f (moved ∙ h)

  pub due_agrees : (es : List Entry) → row_refusal metadata rows ≡ None → AreEntries rows es → Agrees t es
  due_agrees es h entries = rows_agree t described es (moved ∙ h) (subst (λ l. AreEntries l es) rs entries)
