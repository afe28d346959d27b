-- The tables after the commit of a set into which another one was copied.
use Rattle.mb_copy.proofs.Common.{ap, AreEmpty, AreTimes, asked_type, Bool, both_pass, bytes_put, codes, contains_key, copies_metadata, created, Dates, duplicates, Edited, false, false≢true}
use Rattle.mb_copy.proofs.Common.{first_refusal, Flat, fresh, get, has_both, Held, held_copied, holds, id_collides, inl, inr, is_cache, is_editable, is_free, is_put, is_put_name, is_some, IsAnew}
use Rattle.mb_copy.proofs.Common.{IsLeft, IsLoadable, IsLoadedFrom, IsOnBoard, IsOver, IsPut, IsSound, IsSource, kind_wrong, List, made_state, made_type, MakesChanges, may_copy, may_copy_over}
use Rattle.mb_copy.proofs.Common.{may_put, MbtError, MbtilesCopier, MbtType, mode_of, names_antisymmetric, names_to_put, NamesAlgorithm, nat_list_cmp_total, None, nothing_edited, Ok, Option}
use Rattle.mb_copy.proofs.Common.{pass_first, pass_rest, Place, places_antisymmetric, places_total, put_refusals, refl, set_tables, Some, started_as, State, state_of, subst, sym, Tables, tiles_to_put}
use Rattle.mb_copy.proofs.Common.{TileSet, times_to_put, true, unless, UnsupportedCopyOperation, wanted_algorithm, wanted_type, wins, ℕ, [], ◌&&◌, ◌∙◌, ◌∷◌, ◌≡◌, ◌⊎◌}
use Rattle.mb_copy.proofs.ClearedLemmas.{gone_at, was_there}
use Rattle.mb_copy.proofs.LoadedLemmas.{loaded_with}
use Rattle.mb_copy.proofs.MadeLemmas.{made_empty}
use Rattle.mb_copy.proofs.NameStateLemmas.{copied_state, edited_with, named_with}
use Rattle.mb_insert.proofs.InsertedLemmas.{fresh_is}
use Rattle.mb_load.proofs.CommittedLemmas.{is_committed}
use Rattle.mb_load.proofs.EmptyLemmas.{from_empty}
use Rattle.mb_load.specs.Committed.{IsCommitted}

-- the name of the algorithm isn't put
pub algorithm_not_put : (c : MbtilesCopier) (source base : State) → get (names_to_put c source.metadata base.metadata) (codes "hash_algorithm") ≡ None
algorithm_not_put c source base = gone_at nat_list_cmp_total names_antisymmetric (is_put_name c base.metadata) source.metadata (codes "hash_algorithm") (by (copies_metadata c.copy) (wins (mode_of c) (contains_key base.metadata (codes "hash_algorithm")) false))
  where
    by : (a w : Bool) → ((a && false) && w) ≡ false
    by true w = refl
    by false w = refl

-- a set that tables can hold is a source
pub is_source : (s : State) → IsLoadable s → IsSource s
is_source s whole = record {
  on_board = whole.on_board;
  dated = λ p h. second (is_cache s.layout) (contains_key s.tiles p) (sym (whole.dated p) ∙ h);
  times = whole.times;
}
  where
    second : (a b : Bool) → (a && b) ≡ true → b ≡ true
    second true b h = h
    second false b h = absurd (false≢true h)

-- what is put of a source
module _ (c : MbtilesCopier) (source base : State) (whole : IsSource source) where
  pub put_on_board : (p : Place) → contains_key (tiles_to_put c source.tiles base) p ≡ true → IsOnBoard p
  put_on_board p h = by (get (tiles_to_put c source.tiles base) p) refl h
    where
      by : (o : Option (Option (List ℕ))) → get (tiles_to_put c source.tiles base) p ≡ o → is_some o ≡ true → IsOnBoard p
      by (Some x) e h = whole.on_board p (ap is_some (was_there places_total places_antisymmetric (is_put c source.tiles base) source.tiles p x e))
      by None e h = absurd (false≢true h)

  pub put_times : (p : Place) (d : Dates) → get (times_to_put c source base) p ≡ Some d → AreTimes d
  put_times p d h = whole.times p d (was_there places_total places_antisymmetric (is_put c source.tiles base) source.dates p d h)

-- a set that passes the tests of a copy
passes : (c : MbtilesCopier) (source base : State) → is_editable base.layout ≡ true → may_copy c source base ≡ None → may_put base (tiles_to_put c source.tiles base) ≡ None
passes c source base edit may =
    both_pass base put base.layout refl (ap (λ b. unless b UnsupportedCopyOperation) edit) (pass_first ids [] (pass_rest (duplicates (mode_of c) (has_both c source.tiles source.metadata base)) (ids ∷ []) may))
  where
    put : TileSet
    put = tiles_to_put c source.tiles base

    ids : Option MbtError
    ids = id_collides base.layout base.algorithm base.contents (bytes_put put)

pub copied_loaded : (t : Tables) (c : MbtilesCopier) (made : Bool) (source : State) (h : Held) → IsSource source → is_editable h.state.layout ≡ true → may_copy c source h.state ≡ None → IsLoadedFrom t h → IsLoadedFrom t (held_copied c made source h)
copied_loaded t c made source h whole edit may l = loaded_with t c made h (tiles_to_put c source.tiles h.state) (times_to_put c source h.state) (names_to_put c source.metadata h.state.metadata) (passes c source h.state edit may) (put_on_board c source h.state whole) (put_times c source h.state whole) l

pub is_put_by : (c : MbtilesCopier) (made : Bool) (source base : State) (old new : Tables) (next : Held) → next ≡ held_copied c made source (fresh base) → IsSource source → is_editable base.layout ≡ true → may_copy c source base ≡ None → IsLoadedFrom old (fresh base) → (made ≡ false → NamesAlgorithm base) → IsSound new → MakesChanges next old new → IsPut c made source base old new
is_put_by c made source base old new next value whole edit may from named sound done =
    let are : MakesChanges (held_copied c made source (fresh base)) old new = subst (λ (x : Held). MakesChanges x old new) value done in
    let rows : IsCommitted (held_copied c made source (fresh base)) old new = is_committed (held_copied c made source (fresh base)) old new are.changes (copied_loaded old c made source (fresh base) whole edit may from) are.are are.made sound in
    record {
      again = rows.again (named_with c made (fresh base) (tiles_to_put c source.tiles base) (times_to_put c source base) (names_to_put c source.metadata base.metadata) (algorithm_not_put c source base) named) ∙ ap Ok (copied_state c made source (fresh base));
      rows = rows;
      commits = are;
      places = edited_with c made (fresh base) (tiles_to_put c source.tiles base) (times_to_put c source base) (names_to_put c source.metadata base.metadata) refl;
    }

-- a set that was loaded, with nothing edited, is its state
pub as_fresh : (P : Held → Type 0) (h : Held) → h.edited ≡ nothing_edited → P h → P (fresh h.state)
as_fresh P h clean p = subst (λ (e : Edited). P (record { state = h.state; edited = e })) clean p

-- over a set that was loaded
pub over_passes : (c : MbtilesCopier) (source base : State) → may_copy_over c source base ≡ None → (is_editable base.layout ≡ true) × (may_copy c source base ≡ None)
over_passes c source base may =
    let edit = unless (is_editable base.layout) UnsupportedCopyOperation in
    let put = put_refusals c source.tiles source.metadata base in
    let rest : first_refusal (edit ∷ put) ≡ None = pass_rest (kind_wrong base.layout (asked_type c)) (edit ∷ put) may in
    (holds (is_editable base.layout) UnsupportedCopyOperation (pass_first edit put rest), pass_rest edit put rest)

module _ (c : MbtilesCopier) (source : State) (whole : IsSource source) (set next : Held) (may : may_copy_over c source set.state ≡ None) (value : next ≡ held_copied c false source set) where
  pub over_loaded : (t : Tables) → IsLoadedFrom t set → IsLoadedFrom t next
  over_loaded t l =
      let two = over_passes c source set.state may in
      subst (IsLoadedFrom t) (sym value) (copied_loaded t c false source set whole two.0 two.1 l)

  pub is_over : (old new : Tables) → set.edited ≡ nothing_edited → state_of old ≡ Ok set.state → IsLoadedFrom old set → NamesAlgorithm set.state → IsSound new → MakesChanges next old new → IsOver c source old new
  is_over old new clean loaded from named sound done =
      let two = over_passes c source set.state may in
      record {
        base = set.state;
        loaded = loaded;
        passed = may;
        put = is_put_by c false source set.state old new next (value ∙ ap (held_copied c false source) (fresh_is set clean)) whole two.0 two.1 (as_fresh (IsLoadedFrom old) set clean from) (λ _. named) sound done;
      }

-- into a set that was made
pub made_editable : (l : MbtType) → is_editable (started_as l) ≡ true
made_editable Flat = refl
made_editable _ = refl

started_twice : (l : MbtType) → started_as (started_as l) ≡ started_as l
started_twice Flat = refl
started_twice _ = refl

module _ (c : MbtilesCopier) (source : State) (whole : IsSource source) (next : Held) (may : may_copy c source (made_state c source) ≡ None) (value : next ≡ held_copied c true source (fresh (made_state c source))) where
  pub anew_layout : next.state.layout ≡ made_type c source.layout
  anew_layout = ap (λ (h : Held). h.state.layout) value ∙ ap (λ (s : State). s.layout) (copied_state c true source (fresh (made_state c source)))

  pub anew_started : started_as next.state.layout ≡ next.state.layout
  anew_started = ap started_as anew_layout ∙ (started_twice (wanted_type c source.layout) ∙ sym anew_layout)

  pub anew_loaded : (t : Tables) → AreEmpty next.state.layout t → IsLoadedFrom t next
  anew_loaded t empty =
      subst (IsLoadedFrom t) (sym value)
      (copied_loaded t c true source (fresh (made_state c source)) whole (made_editable (wanted_type c source.layout)) may
      (from_empty t (made_type c source.layout) (wanted_algorithm c source.algorithm) (subst (λ (l : MbtType). AreEmpty l t) anew_layout empty)))

  pub is_anew : (old new : Tables) → IsSound old → IsSound new → old.descriptions ≡ [] → MakesChanges next (created old (set_tables next.state.layout)) new → IsAnew c source old new
  is_anew old new was sound none done = record {
    none = none;
    passed = may;
    put = is_put_by c true source (made_state c source) (created old (set_tables (made_type c source.layout))) new next value whole (made_editable (wanted_type c source.layout)) may
        (from_empty (created old (set_tables (made_type c source.layout))) (made_type c source.layout) (wanted_algorithm c source.algorithm) (made_empty old (wanted_type c source.layout) was none))
        (λ no. absurd (false≢true (sym no))) sound (subst (λ (l : MbtType). MakesChanges next (created old (set_tables l)) new) anew_layout done);
  }

  pub anew_left : (old new : Tables) (e : MbtError) → is_free e ≡ true → old.descriptions ≡ [] → (new ≡ old) ⊎ (new ≡ created old (set_tables next.state.layout)) → IsLeft c source old new e
  anew_left old new e free none (inl same) = inl same
  anew_left old new e free none (inr made) = inr (record { free = free; none = none; made = made ∙ ap (λ l. created old (set_tables l)) anew_layout })
