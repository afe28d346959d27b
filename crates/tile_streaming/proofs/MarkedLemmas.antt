-- What is due of tables is what is due of their rows.
use Rattle.tile_streaming.proofs.Common.{ap, AreContents, AreMarked, AreMarkedFrom, Bool, Cell, cond, content_rows, due_by, entries, Err, false, false≢true, held_by, id_twice, IfErr, index_missing, is_free, is_normalized, IsMarked, layout_of}
use Rattle.tile_streaming.proofs.Common.{List, MbtError, MbtType, Metadata, metadata_missing, None, Ok, patch_type_of, refl, Result, Some, State, state_is, state_of, StoreFault, subst, sym, table_eq, TableDesc}
use Rattle.tile_streaming.proofs.Common.{Tables, tile_table, true, [], ◌∙◌, ◌≡◌, ◌≢◌}
use Rattle.mb_store.specs.Store.{no_rows}
use Rattle.mb_tables.specs.declared.kind.MbtType.TheVariants.{Cache, Flat, FlatWithHash, Normalized}
use Rattle.mb_tables.specs.declared.kind.NormalizedSchema.TheVariants.{DedupId, Hash}
use Rattle.tile_streaming.proofs.MarkLemmas.{all_ranged}
use Rattle.tile_streaming.proofs.RowRefusalLemmas.{due, twice_refused}
use Rattle.tile_streaming.proofs.StoredLemmas.{state_ranged}
use Rattle.tile_streaming.proofs.TableLemmas.{told_contents}
use Rattle.tile_streaming.specs.declared.mark.MarkedSet.{MarkedSet}

-- descriptions that pass their tests
pub record AreDescribed (layout : MbtType) (ds : List TableDesc) : Type 0 where
  pub is_layout : layout_of ds ≡ Some layout
  pub metadata : metadata_missing ds ≡ None
  pub index : index_missing ds layout ≡ None

module _ (layout : MbtType) (t : Tables) (d : AreDescribed layout t.descriptions) where
  abbrev held : State
  held = held_by layout (patch_type_of t.descriptions) (t.rows Metadata) (content_rows layout t) (t.rows (tile_table layout))

  state_due : state_of t ≡ due_by held (due layout (t.rows Metadata) (content_rows layout t) (t.rows (tile_table layout)))
  state_due = state_is t layout d.is_layout d.metadata d.index

  marked_at : (r : Result MarkedSet MbtError) → AreMarked layout (t.rows Metadata) (content_rows layout t) (t.rows (tile_table layout)) r → IsMarked t r
  marked_at (Ok m) h =
      let is : state_of t ≡ Ok held = state_due ∙ ap (due_by held) h.pass in
      record {
        state = held;
        due = is;
        held = record {
          layout = h.layout;
          algorithm = h.algorithm;
          names = h.names;
          ranged = all_ranged (entries held.tiles) (state_ranged t held is);
          marks = h.marks;
        };
      }
  marked_at (Err e) h = λ free. state_due ∙ ap (due_by held) (h free)

  marked_by : (metadata contents rows : List (List Cell)) → metadata ≡ t.rows Metadata → contents ≡ content_rows layout t → rows ≡ t.rows (tile_table layout) → (r : Result MarkedSet MbtError) → AreMarked layout metadata contents rows r → IsMarked t r
  marked_by metadata contents rows n k s r h = marked_at r (subst (λ l. AreMarked layout (t.rows Metadata) (content_rows layout t) l r) s (subst (λ l. AreMarked layout (t.rows Metadata) l rows r) k (subst (λ l. AreMarked layout l contents rows r) n h)))

-- the answer that is due of what a store tells
pub told_marked : (layout : MbtType) (ds : List TableDesc) → AreDescribed layout ds → (tells : Bool) (told before : Tables) (r : Result MarkedSet MbtError) → tells ≡ true → told ≡ before → ds ≡ before.descriptions → AreMarkedFrom layout tells told r → IsMarked before r
told_marked layout ds d tells told before r t same is m =
    let kept : AreMarkedFrom layout tells before r = subst (λ (x : Tables). AreMarkedFrom layout tells x r) same m in
    marked_by layout before (subst (AreDescribed layout) is d) kept.metadata kept.contents kept.rows (kept.names_told t) (kept.contents_are.are_told t) (kept.rows_told t) r kept.due

-- tables of these rows
abbrev made : List TableDesc → MbtType → List (List Cell) → List (List Cell) → List (List Cell) → Tables
made ds layout metadata contents rows = record { descriptions = ds; rows = λ table. cond (table_eq table Metadata) metadata (cond (table_eq table (tile_table layout)) rows contents) }

made_rows : (ds : List TableDesc) (layout : MbtType) (metadata contents rows : List (List Cell)) → rows ≡ (made ds layout metadata contents rows).rows (tile_table layout)
made_rows ds (Normalized view Hash) metadata contents rows = refl
made_rows ds (Normalized view DedupId) metadata contents rows = refl
made_rows ds Flat metadata contents rows = refl
made_rows ds FlatWithHash metadata contents rows = refl
made_rows ds Cache metadata contents rows = refl

made_contents : (ds : List TableDesc) (layout : MbtType) (metadata contents rows : List (List Cell)) → (is_normalized layout ≡ false → contents ≡ []) → contents ≡ content_rows layout (made ds layout metadata contents rows)
made_contents ds (Normalized view Hash) metadata contents rows none = refl
made_contents ds (Normalized view DedupId) metadata contents rows none = refl
made_contents ds Flat metadata contents rows none = none refl
made_contents ds FlatWithHash metadata contents rows none = none refl
made_contents ds Cache metadata contents rows none = none refl

-- the answer that is due of some tables
pub own_marked : (layout : MbtType) (ds : List TableDesc) → AreDescribed layout ds → (tells : Bool) (told : Tables) (r : Result MarkedSet MbtError) → AreMarkedFrom layout tells told r → (t : Tables) × IsMarked t r
own_marked layout ds d tells told r m =
    let t = made ds layout m.metadata m.contents m.rows in
    (t, marked_by layout t d m.metadata m.contents m.rows refl (made_contents ds layout m.metadata m.contents m.rows m.contents_are.none) (made_rows ds layout m.metadata m.contents m.rows) r m.due)

-- lack of memory, or a store that failed, is due of any tables
pub free_from : (layout : MbtType) (tells : Bool) (told : Tables) (r : Result MarkedSet MbtError) (e : MbtError) → r ≡ Err e → is_free e ≡ true → AreMarkedFrom layout tells told r
free_from layout tells told r e is free = record {
  metadata = told.rows Metadata;
  contents = content_rows layout told;
  rows = told.rows (tile_table layout);
  contents_are = told_contents layout tells told;
  names_told = λ t. refl;
  rows_told = λ t. refl;
  due = subst (AreMarked layout (told.rows Metadata) (content_rows layout told) (told.rows (tile_table layout))) (sym is) (λ h. absurd (false≢true (sym h ∙ free)));
}

-- an id of contents that stands twice
pub twice_from : (layout : MbtType) (tells : Bool) (told : Tables) (contents : List (List Cell)) (r : Result MarkedSet MbtError) (e : MbtError) → AreContents layout tells told contents → r ≡ Err e → (is_free e ≡ false → id_twice contents ≡ Some e) → AreMarkedFrom layout tells told r
twice_from layout tells told contents r e are is twice = record {
  metadata = told.rows Metadata;
  contents = contents;
  rows = told.rows (tile_table layout);
  contents_are = are;
  names_told = λ t. refl;
  rows_told = λ t. refl;
  due = subst (AreMarked layout (told.rows Metadata) contents (told.rows (tile_table layout))) (sym is) (λ h. twice_refused layout (told.rows Metadata) contents (told.rows (tile_table layout)) e (twice h));
}

pub free_own : (t : Tables) (r : Result MarkedSet MbtError) (e : MbtError) → r ≡ Err e → is_free e ≡ true → (u : Tables) × IsMarked u r
free_own t r e is free = (t, subst (IsMarked t) (sym is) (λ h. absurd (false≢true (sym h ∙ free))))

-- a refusal of the descriptions
pub refused_at : (t : Tables) (r : Result MarkedSet MbtError) (e : MbtError) → r ≡ Err e → state_of t ≡ Err e → IsMarked t r
refused_at t r e is s = subst (IsMarked t) (sym is) (λ free. s)

pub refused_own : (ds : List TableDesc) (r : Result MarkedSet MbtError) (e : MbtError) → r ≡ Err e → ((t : Tables) → t.descriptions ≡ ds → state_of t ≡ Err e) → (t : Tables) × IsMarked t r
refused_own ds r e is s = (no_rows ds, refused_at (no_rows ds) r e is (s (no_rows ds) refl))

-- no fault of a store
pub never_faulted : {A X : Type 0} (r : Result A MbtError) → IfErr r (λ e. e ≢ StoreFault) → r ≡ Err StoreFault → X
never_faulted (Ok x) n is = absurd (cc)
never_faulted (Err e) n is = let same : e ≡ StoreFault = cc in absurd (n same)
