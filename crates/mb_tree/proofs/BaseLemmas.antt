-- The set that tiles are packed into.
use Rattle.mb_tree.proofs.Common.{algorithm_by, ap, Base, base_by, base_of, Bool, codes, created, empty_state, Err, false, false≢true, Flat, flat_alone, fresh, get-empty, Held, if_flat, IfErr, IfOk}
use Rattle.mb_tree.proofs.Common.{index_missing, inl, inr, is_table, is_wanting, IsBaseOf, IsFlatOf, IsLoadable, IsLoadedFrom, IsSound, layout_of, List, Loads, made, made_by, made_if, MbtError}
use Rattle.mb_tree.proofs.Common.{MbtType, Md5, Metadata, metadata_missing, MismatchedTargetType, NamesAlgorithm, nat_cmp, no_rows, Ok, Option, option_and_then, OutOfMemory, patch_type_of, refl}
use Rattle.mb_tree.proofs.Common.{Result, slice_cmp, State, state_of, stated, StoreFault, subst, sym, TableDesc, Tables, then, Tiles, true, unknown_name, with_tables, ℕ, [], ◌∙◌, ◌∷◌, ◌≡◌, ◌≢◌, ◌⊎◌}
use Rattle.mb_load.proofs.EmptyLemmas.{from_empty}
use Rattle.mb_load.specs.EmptyTables.{AreEmpty}
use Rattle.mb_tables.specs.Schema.{set_tables}
use Rattle.mb_tables.specs.declared.description.TableKind.TheVariants.{Table}
use Rattle.mb_tree.proofs.RefusalLemmas.{not_free}

pub made_new : (t : Tables) → t.descriptions ≡ [] → made_if true t ≡ made t
unfolding made
made_new t e = ap (λ ds. made_by ds t) (sym e)

pub made_old : (t : Tables) → (t.descriptions ≡ [] → ⊥) → made_if false t ≡ made t
unfolding made
made_old t some = by t.descriptions some
  where
    by : (ds : List TableDesc) → (ds ≡ [] → ⊥) → t ≡ made_by ds t
    by [] h = absurd (h refl)
    by (d ∷ ds) h = refl

-- tables that are made of nothing have no rows
new_empty : (t : Tables) → IsSound t → t.descriptions ≡ [] → AreEmpty Flat (created t (set_tables Flat))
new_empty t sound e = record {
  is_layout = ap (λ ds. layout_of (with_tables ds (set_tables Flat))) e;
  whole = ap (λ ds. patch_type_of (with_tables ds (set_tables Flat))) e;
  described = ap (λ ds. metadata_missing (with_tables ds (set_tables Flat))) e;
  indexed = ap (λ ds. index_missing (with_tables ds (set_tables Flat)) Flat) e;
  tiles = sound.described Tiles (ap (λ ds. is_table ds Tiles) e);
  contents = refl;
  names = sound.described Metadata (ap (λ ds. is_table ds Metadata) e);
}

pub new_from : (t : Tables) (h : Held) → IsSound t → t.descriptions ≡ [] → h ≡ fresh (empty_state Flat Md5) → IsLoadedFrom (made t) h
new_from t h sound e is =
    subst (λ (u : Tables). IsLoadedFrom u h) (made_new t e) (subst (IsLoadedFrom (created t (set_tables Flat))) (sym is) (from_empty (created t (set_tables Flat)) Flat Md5 (new_empty t sound e)))

pub new_due : (t : Tables) → t.descriptions ≡ [] → base_of t ≡ Ok (empty_state Flat Md5)
unfolding base_of
new_due t e = ap (λ ds. base_by ds t) e

pub some_due : (t : Tables) → (t.descriptions ≡ [] → ⊥) → base_of t ≡ then (state_of t) flat_alone
unfolding base_of
some_due t some = by t.descriptions some
  where
    by : (ds : List TableDesc) → (ds ≡ [] → ⊥) → base_by ds t ≡ then (state_of t) flat_alone
    by [] h = absurd (h refl)
    by (d ∷ ds) h = refl

-- the answer of a store that describes nothing
pub is_new : (tells : Bool) (told : Tables) (b : Base) → (tells ≡ true → told.descriptions ≡ []) → b.set ≡ fresh (empty_state Flat Md5) → IsBaseOf tells told (Ok b)
is_new true told b none is = record { tables = told; is_told = λ _. refl; state = new_due told (none refl) ∙ ap (λ (h : Held). Ok h.state) (sym is); refused = tt }
is_new false told b none is = record { tables = no_rows []; is_told = λ e. absurd (false≢true e); state = new_due (no_rows []) refl ∙ ap (λ (h : Held). Ok h.state) (sym is); refused = tt }

-- of one that describes tables, and of one that tells nothing
moved : (tells : Bool) (told : Tables) (r : Result Base MbtError) (f : IsFlatOf tells told r) (t : Tables) → (tells ≡ true → t ≡ told) → base_of t ≡ then (state_of f.tables) flat_alone → IsBaseOf tells told r
moved tells told r f t k e = record {
  tables = t;
  is_told = k;
  state = subst (λ (d : Result State MbtError). IfOk r (λ b. d ≡ Ok b.set.state)) (sym e) f.state;
  refused = subst (λ (d : Result State MbtError). IfErr r (λ x. is_wanting x ≡ false → d ≡ Err x)) (sym e) f.refused;
}

-- tables of no layout
abbrev odd : Tables
odd = no_rows (record { name = []; kind = Table; columns = []; indexes = [] } ∷ [])

none_loads : (t : Tables) → t.descriptions ≡ [] → base_of odd ≡ then (state_of t) flat_alone
unfolding base_of
none_loads t e = sym (ap (λ ds. then (stated (layout_of ds) t) flat_alone) e)

not_empty : (d : TableDesc) (ds : List TableDesc) → d ∷ ds ≡ [] → ⊥
not_empty d ds h = cc

pub is_old : (tells : Bool) (told : Tables) (r : Result Base MbtError) → (tells ≡ true → told.descriptions ≡ [] → ⊥) → IsFlatOf tells told r → IsBaseOf tells told r
is_old true told r some f = moved true told r f f.tables f.is_told (some_due f.tables (λ e. some refl (ap (λ (t : Tables). t.descriptions) (sym (f.is_told refl)) ∙ e)))
is_old false told r some f = by f.tables.descriptions refl
  where
    by : (ds : List TableDesc) → f.tables.descriptions ≡ ds → IsBaseOf false told r
    by [] e = moved false told r f odd (λ h. absurd (false≢true h)) (none_loads f.tables e)
    by (d ∷ ds) e = moved false told r f f.tables f.is_told (some_due f.tables (λ n. not_empty d ds (sym e ∙ n)))

-- the answers of a store whose set is loaded
pub other_layout : (layout : MbtType) (s : State) → layout ≢ Flat → if_flat layout s ≡ Err (MismatchedTargetType layout Flat)
other_layout Flat s h = absurd (h refl)
other_layout _ s h = refl

pub loads_refused : (tells : Bool) (told : Tables) (e : MbtError) → (tells ≡ true → Loads (state_of told) (Err e)) → ((t : Tables) × Loads (state_of t) (Err e)) → IsFlatOf tells told (Err e)
loads_refused true told e it own = record { tables = told; is_told = λ _. refl; state = tt; refused = λ w. ap (λ (d : Result State MbtError). then d flat_alone) (it refl (not_free e w)) }
loads_refused false told e it own = record { tables = own.0; is_told = λ h. absurd (false≢true h); state = tt; refused = λ w. ap (λ (d : Result State MbtError). then d flat_alone) (own.1 (not_free e w)) }

flat_due : (s : State) → s.layout ≡ Flat → flat_alone s ≡ Ok s
flat_due s e = ap (λ l. if_flat l s) e

pub loads_flat : (tells : Bool) (told : Tables) (h : Held) (b : Base) → (tells ≡ true → Loads (state_of told) (Ok h)) → ((t : Tables) × Loads (state_of t) (Ok h)) → h.state.layout ≡ Flat → b.set ≡ h → IsFlatOf tells told (Ok b)
loads_flat true told h b it own flat is = record { tables = told; is_told = λ _. refl; state = ap (λ (d : Result State MbtError). then d flat_alone) (it refl).0 ∙ (flat_due h.state flat ∙ ap (λ (k : Held). Ok k.state) (sym is)); refused = tt }
loads_flat false told h b it own flat is = record { tables = own.0; is_told = λ e. absurd (false≢true e); state = ap (λ (d : Result State MbtError). then d flat_alone) own.1.0 ∙ (flat_due h.state flat ∙ ap (λ (k : Held). Ok k.state) (sym is)); refused = tt }

pub loads_other : (tells : Bool) (told : Tables) (h : Held) (e : MbtError) → (tells ≡ true → Loads (state_of told) (Ok h)) → ((t : Tables) × Loads (state_of t) (Ok h)) → h.state.layout ≢ Flat → e ≡ MismatchedTargetType h.state.layout Flat → IsFlatOf tells told (Err e)
loads_other true told h e it own other is = record { tables = told; is_told = λ _. refl; state = tt; refused = λ w. ap (λ (d : Result State MbtError). then d flat_alone) (it refl).0 ∙ (other_layout h.state.layout h.state other ∙ ap Err (sym is)) }
loads_other false told h e it own other is = record { tables = own.0; is_told = λ k. absurd (false≢true k); state = tt; refused = λ w. ap (λ (d : Result State MbtError). then d flat_alone) own.1.0 ∙ (other_layout h.state.layout h.state other ∙ ap Err (sym is)) }

-- a set of no tiles and no metadata
empty_from : IsLoadedFrom (created (no_rows []) (set_tables Flat)) (fresh (empty_state Flat Md5))
empty_from = from_empty (created (no_rows []) (set_tables Flat)) Flat Md5 (record { is_layout = refl; whole = refl; described = refl; indexed = refl; tiles = refl; contents = refl; names = refl })

pub new_whole : (h : Held) → h ≡ fresh (empty_state Flat Md5) → IsLoadable h.state
new_whole h is = subst (λ (k : Held). IsLoadable k.state) (sym is) empty_from.state

pub new_named : (h : Held) → h ≡ fresh (empty_state Flat Md5) → NamesAlgorithm h.state
new_named h is = subst (λ (k : Held). NamesAlgorithm k.state) (sym is) (record {
  known = ap (λ (o : Option (Option (List ℕ))). unknown_name (option_and_then (λ (value : Option (List ℕ)). value) o)) (get-empty {X = Option (List ℕ)} (slice_cmp nat_cmp) (codes "hash_algorithm"));
  named = ap (λ (o : Option (Option (List ℕ))). algorithm_by (option_and_then (λ (value : Option (List ℕ)). value) o)) (get-empty {X = Option (List ℕ)} (slice_cmp nat_cmp) (codes "hash_algorithm"));
})

-- running out of memory, and a store that failed
pub base_wanting : (tells : Bool) (told : Tables) (e : MbtError) → (e ≡ StoreFault) ⊎ (e ≡ OutOfMemory) → IsBaseOf tells told (Err e)
base_wanting tells told e either = record { tables = told; is_told = λ _. refl; state = tt; refused = λ w. absurd (false≢true (sym w ∙ wants either)) }
  where
    wants : (e ≡ StoreFault) ⊎ (e ≡ OutOfMemory) → is_wanting e ≡ true
    wants (inl f) = ap is_wanting f
    wants (inr f) = ap is_wanting f

-- what was answered of a store that tells what it told before
pub old_moved : (tells now : Bool) (told later : Tables) (r : Result Base MbtError) → now ≡ tells → later ≡ told → IsFlatOf now later r → IsFlatOf tells told r
old_moved tells now told later r e f i = record {
  tables = i.tables;
  is_told = λ t. i.is_told (e ∙ t) ∙ f;
  state = i.state;
  refused = i.refused;
}

pub old_made : (told : Tables) (r : Result Base MbtError) → (told.descriptions ≡ [] → ⊥) → IfOk r (λ b. b.is_new ≡ false) → IfOk r (λ b. made_if b.is_new told ≡ made told)
old_made told (Ok b) some old = ap (λ n. made_if n told) old ∙ made_old told some
old_made told (Err e) some old = tt

pub old_from : (told later : Tables) (r : Result Base MbtError) → (told.descriptions ≡ [] → ⊥) → later ≡ told → IfOk r (λ b. IsLoadedFrom later b.set) → IfOk r (λ b. IsLoadedFrom (made told) b.set)
old_from told later (Ok b) some same from = subst (λ (t : Tables). IsLoadedFrom t b.set) (same ∙ made_old told some) from
old_from told later (Err e) some same from = tt
