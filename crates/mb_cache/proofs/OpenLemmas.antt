-- What opening answers, and that the entries of rows that were read agree with their tables.
use Rattle.mb_cache.proofs.Common.{Agrees, Answers, ap, AreEntries, ArePassing, begin_answer, begun_with, Bool, Cache, cond, created, described_answer, done, Entry, Err, false, holds, IfOk}
use Rattle.mb_cache.proofs.Common.{index_missing, InvalidDataFormat, is_bare, is_cache_layout, is_keyed, is_metadata, layout_of, List, list_any, may_begin, MbtError, Metadata, metadata_missing, None}
use Rattle.mb_cache.proofs.Common.{NotACacheFile, NoUniquenessConstraint, Ok, open_answer, OpensAs, Option, option_or, passing, refl, Result, row_refusal, set_tables, Some, state_of, stated, subst}
use Rattle.mb_cache.proofs.Common.{sym, TableDesc, Tables, then, TileCache, true, unless, unless_refused, with_tables, [], ◌||◌, ◌∙◌, ◌∷◌, ◌≡◌}
use Rattle.mb_cache.proofs.SetLemmas.{opens}
use Rattle.mb_load.proofs.FrameLemmas.{tables_found}
use Rattle.mb_tables.specs.declared.kind.MbtType.{MbtType}

pub is_cache : (o : Option MbtType) → is_cache_layout o ≡ true → o ≡ Some Cache
is_cache (Some Cache) h = refl
is_cache _ h = cc

-- the tables that opening begins with are those of a cache
pub begun_layout : (t : Tables) → may_begin t.descriptions ≡ true → layout_of (begun_with t).descriptions ≡ Some Cache
begun_layout t h = by t.descriptions refl
  where
    by : (ds : List TableDesc) → t.descriptions ≡ ds → layout_of (begun_with t).descriptions ≡ Some Cache
    by [] e = ap (λ b. layout_of (cond b (created t (set_tables Cache)) t).descriptions) (ap is_bare e) ∙ ap (λ ds. layout_of (with_tables ds (set_tables Cache))) e
    by (d ∷ ds) e = ap (λ b. layout_of (cond b (created t (set_tables Cache)) t).descriptions) (ap is_bare e) ∙ is_cache (layout_of t.descriptions) (ap (λ xs. is_bare xs || is_cache_layout (layout_of t.descriptions)) (sym e) ∙ h)

pub begun_may : (ds : List TableDesc) → begin_answer ds ≡ Ok tt → may_begin ds ≡ true
begun_may ds h = by (may_begin ds) refl h
  where
    by : (b : Bool) → may_begin ds ≡ b → ◌≡◌ {A = Result (Unit {0}) MbtError} (cond b (Ok tt) (Err NotACacheFile)) (Ok tt) → may_begin ds ≡ true
    by true e h = e
    by false e h = cc

-- tables of a cache open as they load
loads_first : (t u : Tables) → begin_answer t.descriptions ≡ Ok tt → u ≡ begun_with t → open_answer t ≡ then (state_of u) (λ _. Ok tt)
loads_first t u first same = ap (λ r. then r (λ _. then (state_of (begun_with t)) (λ _. Ok tt))) first ∙ ap (λ (x : Tables). then (state_of x) (λ _. Ok tt)) (sym same)

cache_opens : (t : Tables) → layout_of t.descriptions ≡ Some Cache → open_answer t ≡ then (state_of t) (λ _. Ok tt)
cache_opens t layout = by t.descriptions refl
  where
    by : (ds : List TableDesc) → t.descriptions ≡ ds → open_answer t ≡ then (state_of t) (λ _. Ok tt)
    by [] e = absurd (nowhere (sym (ap layout_of e) ∙ layout))
      where
        nowhere : layout_of [] ≡ Some Cache → ⊥
        nowhere h = cc
    by (d ∷ ds) e =
        let bare : is_bare t.descriptions ≡ false = ap is_bare e in
        let may : may_begin t.descriptions ≡ true = ap (λ b. b || is_cache_layout (layout_of t.descriptions)) bare ∙ ap is_cache_layout layout in
        loads_first t t (ap (λ (b : Bool). cond b (Ok tt) (Err NotACacheFile)) may) (sym (ap (λ (b : Bool). cond b (created t (set_tables Cache)) t) bare))

pub opened_as : (t u : Tables) (r : Result (List Entry) MbtError) → begin_answer t.descriptions ≡ Ok tt → u ≡ begun_with t → OpensAs u r → Answers (open_answer t) (done r)
opened_as t u r first same opened = by r opened
  where
    as_loaded : open_answer t ≡ open_answer u
    as_loaded = loads_first t u first same ∙ sym (cache_opens u (ap (λ (x : Tables). layout_of x.descriptions) same ∙ begun_layout t (begun_may t.descriptions first)))

    by : (r : Result (List Entry) MbtError) → OpensAs u r → Answers (open_answer t) (done r)
    by (Ok es) agrees = as_loaded ∙ opens u es agrees
    by (Err e) due = λ free. as_loaded ∙ due free

pub agrees_opened : (t u v : Tables) (r : Result (List Entry) MbtError) → v ≡ u → OpensAs u r → IfOk r (Agrees v)
agrees_opened t u v (Ok es) same agrees = subst (λ (x : Tables). Agrees x es) (sym same) agrees
agrees_opened t u v (Err e) same due = tt

-- tables whose descriptions are refused, or whose rows are
module _ (t : Tables) (layout : layout_of t.descriptions ≡ Some Cache) where
  refused_by : (e : MbtError) → option_or (metadata_missing t.descriptions) (option_or (index_missing t.descriptions Cache) (row_refusal (t.rows Metadata) (t.rows TileCache))) ≡ Some e → open_answer t ≡ Err e
  refused_by e h = cache_opens t layout ∙ ap (λ r. then r (λ _. Ok tt)) (ap (λ o. stated o t) layout ∙ ap (unless_refused Cache t) h)

  pub described_refused : (e : MbtError) → described_answer t.descriptions ≡ Err e → open_answer t ≡ Err e
  described_refused e h = by (list_any is_metadata t.descriptions) refl (is_keyed t.descriptions TileCache) refl (sym (ap (λ b. cond b (cond (list_any is_metadata t.descriptions) (cond (is_keyed t.descriptions TileCache) (Ok tt) (Err NoUniquenessConstraint)) (Err InvalidDataFormat)) (Err NotACacheFile)) (ap is_cache_layout layout)) ∙ h)
    where
      by : (b : Bool) → list_any is_metadata t.descriptions ≡ b → (c : Bool) → is_keyed t.descriptions TileCache ≡ c → ◌≡◌ {A = Result (Unit {0}) MbtError} (cond (list_any is_metadata t.descriptions) (cond (is_keyed t.descriptions TileCache) (Ok tt) (Err NoUniquenessConstraint)) (Err InvalidDataFormat)) (Err e) → open_answer t ≡ Err e
      by true f true g h = let k = rw (f, g) at h in cc
      by true f false g h =
          let k = rw (f, g) at h in
          let same : NoUniquenessConstraint ≡ e = cc in
          refused_by e (ap (λ b. option_or (unless b InvalidDataFormat) (option_or (index_missing t.descriptions Cache) (row_refusal (t.rows Metadata) (t.rows TileCache)))) f ∙ (ap (λ b. option_or (unless b NoUniquenessConstraint) (row_refusal (t.rows Metadata) (t.rows TileCache))) g ∙ ap Some same))
      by false f c g h =
          let k = rw f at h in
          let same : InvalidDataFormat ≡ e = cc in
          refused_by e (ap (λ b. option_or (unless b InvalidDataFormat) (option_or (index_missing t.descriptions Cache) (row_refusal (t.rows Metadata) (t.rows TileCache)))) f ∙ ap Some same)

-- descriptions that pass their tests
described_parts : (ds : List TableDesc) → described_answer ds ≡ Ok tt → (layout_of ds ≡ Some Cache) × (metadata_missing ds ≡ None) × (index_missing ds Cache ≡ None)
described_parts ds h = by (is_cache_layout (layout_of ds)) refl (list_any is_metadata ds) refl (is_keyed ds TileCache) refl h
  where
    by : (a : Bool) → is_cache_layout (layout_of ds) ≡ a → (b : Bool) → list_any is_metadata ds ≡ b → (c : Bool) → is_keyed ds TileCache ≡ c → ◌≡◌ {A = Result (Unit {0}) MbtError} (cond a (cond b (cond c (Ok tt) (Err NoUniquenessConstraint)) (Err InvalidDataFormat)) (Err NotACacheFile)) (Ok tt) → (layout_of ds ≡ Some Cache) × (metadata_missing ds ≡ None) × (index_missing ds Cache ≡ None)
    by true e true f true g h = (is_cache (layout_of ds) e, ap (λ b. unless b InvalidDataFormat) f, ap (λ b. unless b NoUniquenessConstraint) g)
    by _ e _ f _ g h = cc

-- tables with these descriptions and rows
module _ (t : Tables) (described : described_answer t.descriptions ≡ Ok tt) where
  layout_is : layout_of t.descriptions ≡ Some Cache
  layout_is = (described_parts t.descriptions described).0

  pub rows_refused : (e : MbtError) → row_refusal (t.rows Metadata) (t.rows TileCache) ≡ Some e → open_answer t ≡ Err e
  rows_refused e h =
      let parts = described_parts t.descriptions described in
      refused_by t layout_is e (ap (λ o. option_or o (option_or (index_missing t.descriptions Cache) (row_refusal (t.rows Metadata) (t.rows TileCache)))) parts.1 ∙ (ap (λ o. option_or o (row_refusal (t.rows Metadata) (t.rows TileCache))) parts.2 ∙ h))

  pub rows_agree : (es : List Entry) → row_refusal (t.rows Metadata) (t.rows TileCache) ≡ None → AreEntries (t.rows TileCache) es → Agrees t es
  rows_agree es passed entries =
      let parts = described_parts t.descriptions described in
      let pass : ArePassing Cache (t.rows Metadata) [] (t.rows TileCache) = passing Cache (t.rows Metadata) [] (t.rows TileCache) passed in
      record {
        set = record {
          layout = layout_is;
          passes = ap (λ o. option_or o (option_or (index_missing t.descriptions Cache) (row_refusal (t.rows Metadata) (t.rows TileCache)))) parts.1 ∙ (ap (λ o. option_or o (row_refusal (t.rows Metadata) (t.rows TileCache))) parts.2 ∙ passed);
        };
        table = (tables_found t.descriptions Cache layout_is).0;
        keyed = holds _ _ parts.2;
        rows = λ k d far. record { place = holds _ _ (pass.places k d far); kinds = pass.tile_kinds k d far };
        members = entries.members;
        ordered = entries.ordered;
      }
