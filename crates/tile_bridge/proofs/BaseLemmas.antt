-- What a base holds after its patches.
use Rattle.tile_bridge.proofs.Common.{all_held, all_patched, ap, AreStatesOf, AreToldBy, arith, at_place, Bool, Cell, cond, contains_key, ConvertOptions, false, filter, fresh, get, get-empty}
use Rattle.tile_bridge.proofs.Common.{Held, inr, is_patched_at, is_patched_row, is_some, IsBaseAfter, IsBaseOf, IsBaseWith, IsHeldFrom, IsLoadedFrom, IsPatched, IsStored, length, List, NamesAlgorithm}
use Rattle.tile_bridge.proofs.Common.{nat_eq, nat_tests, None, not, Ok, Option, option_and_then, option_map_or, outcome, Place, place_cmp, place_of, refl, Some, stands_in, State, state_of, subst, suc}
use Rattle.tile_bridge.proofs.Common.{sym, Tables, tested, then, true, ℕ, [], ◌||◌, ◌∙◌, ◌∷◌, ◌≡◌}
use Rattle.mb_edit.proofs.FrameLemmas.{null_names_stay, tile_rows_stay}
use Rattle.mb_load.specs.Committing.{MakesChanges}
use Rattle.mb_load.proofs.CommittedLemmas.{is_committed}
use Rattle.mb_load.specs.Committed.{IsCommitted}
use Rattle.mb_store.specs.Store.{IsSound}
use Rattle.mb_tables.specs.Kind.{tile_table}
use Rattle.tile_bridge.proofs.PatchedRows.{AreReferenced, IsRowPut, all_edited, all_put, all_referenced, has_one, places_on_board, same_places}

-- tables after the commit of patches
module _ (t : Tables) (ts : List Tables) (q : State) (qs : List State) (first : State) (h : Held) (old new : Tables)
    (are : AreStatesOf (t ∷ ts) (q ∷ qs)) (value : h ≡ all_held (fresh first) (q ∷ qs)) (from : IsLoadedFrom old h) (named : NamesAlgorithm h.state) (made : MakesChanges h old new) (sound : IsSound new) where
  committed : IsCommitted h old new
  committed = is_committed h old new made.changes from made.are made.made sound

  edited : (p : Place) → contains_key h.edited.places p ≡ is_patched_at (t ∷ ts) p
  edited p =
      ap (λ (h : Held). contains_key h.edited.places p) value ∙ all_edited (fresh first) (q ∷ qs) p ∙ ap (λ o. is_some o || has_one (q ∷ qs) p) (get-empty place_cmp p) ∙ sym (same_places (t ∷ ts) (q ∷ qs) p are)

  stands : (row : List Cell) → stands_in h.edited.places row ≡ is_patched_row (t ∷ ts) row
  stands row = by (place_of row)
    where
      by : (o : Option Place) → is_some (option_and_then (get h.edited.places) o) ≡ option_map_or (is_patched_at (t ∷ ts)) o false
      by None = refl
      by (Some p) = edited p

  filtered : (rows : List (List Cell)) → filter (λ row. not (stands_in h.edited.places row)) rows ≡ filter (λ row. not (is_patched_row (t ∷ ts) row)) rows
  filtered [] = refl
  filtered (row ∷ rows) = λ i. cond (not (stands row i)) (row ∷ filtered rows i) (filtered rows i)

  pub is_patched : IsPatched (t ∷ ts) h.state old new
  is_patched = record {
    again = committed.again named;
    descriptions = committed.descriptions;
    put = λ p at. committed.put p (edited p ∙ at) ∙ subst (λ (h : Held). IsRowPut h.state p) (sym value) (all_put (fresh first) (q ∷ qs) p (inr (sym (same_places (t ∷ ts) (q ∷ qs) p are) ∙ at)));
    kept = sym (filtered (new.rows (tile_table h.state.layout))) ∙ tile_rows_stay h old new made.changes made.are made.made (λ p at. places_on_board (t ∷ ts) (q ∷ qs) p are (sym (same_places (t ∷ ts) (q ∷ qs) p are) ∙ sym (edited p) ∙ at)) ∙ filtered (old.rows (tile_table h.state.layout));
    referenced = subst (λ (h : Held). AreReferenced h.state) (sym value) (all_referenced (fresh first) q qs);
    null_ids = committed.null_ids;
    null_names = null_names_stay h old new made.changes made.are made.made;
    others = committed.others;
  }

-- whether there are patches
none_there : (n : ℕ) → n ≡ 0 → nat_eq n 0 ≡ true
none_there n is = grind (arith, nat_tests)

some_there : (n k : ℕ) → n ≡ suc k → nat_eq n 0 ≡ false
some_there n k is = grind (arith, nat_tests)

-- the base with its patches, if there are any
base_with : (us : List Tables) (qs : List State) (first : State) (h : Held) (old new : Tables) (n : ℕ) (patched : Bool) → AreStatesOf us qs → h ≡ all_held (fresh first) qs → IsLoadedFrom old h → NamesAlgorithm h.state
    → n ≡ length us → patched ≡ not (nat_eq n 0) → IsStored patched h old new → IsSound new → IsBaseWith us h.state old new
base_with [] qs first h old new n patched are value from named count is stored sound = subst (λ b. IsStored b h old new) (is ∙ ap not (none_there n count)) stored
base_with (t ∷ ts) [] first h old new n patched are value from named count is stored sound = absurd (cc)
base_with (t ∷ ts) (q ∷ qs) first h old new n patched are value from named count is stored sound = is_patched t ts q qs first h old new are value from named (subst (λ b. IsStored b h old new) (is ∙ ap not (some_there n (length ts) count)) stored) sound

-- as many patches as are told
as_many_told : (tells : List Bool) (told ts : List Tables) → AreToldBy tells told ts → length told ≡ length ts
as_many_told [] [] [] are = refl
as_many_told [] [] (t ∷ ts) are = absurd are
as_many_told [] (u ∷ us) ts are = absurd are
as_many_told (b ∷ bs) [] ts are = absurd are
as_many_told (b ∷ bs) (u ∷ us) [] are = absurd are
as_many_told (b ∷ bs) (u ∷ us) (t ∷ ts) are = ap suc (as_many_told bs us ts are.1)

-- what a base and its patches come to
comes_to : (force verify : Bool) (base : Tables) (patches : List Tables) (first final : State) → state_of base ≡ Ok first → all_patched force 1 first patches ≡ Ok final → tested verify final ≡ Ok final → outcome base patches force verify ≡ Ok final
comes_to force verify base patches first final loads made passes = ap (λ r. then (at_place 0 r) (λ s. then (all_patched force 1 s patches) (tested verify))) loads ∙ (ap (λ r. then r (tested verify)) made ∙ passes)

module _ (o : ConvertOptions) (base_tells : Bool) (tells : List Bool) (told : List Tables) (old new : Tables) (h : Held) (held : IsHeldFrom o.force o.verify base_tells old tells told h)
    (n : ℕ) (patched : Bool) (count : n ≡ length told) (any : patched ≡ not (nat_eq n 0)) (stored : base_tells ≡ true → IsStored patched h old new) (sound : base_tells ≡ true → IsSound new) where
  abbrev base_after : base_tells ≡ true → IsBaseAfter o tells told old new
  base_after t = record {
    patches = held.patched.tables;
    are_told = held.patched.are_told;
    final = h.state;
    due = comes_to o.force o.verify old held.patched.tables held.first h.state (held.base_state t) held.patched.made held.passes;
    base = base_with held.patched.tables held.patched.states held.first h old new n patched held.patched.read held.patched.held (held.loaded t) (held.named t) (count ∙ as_many_told tells told held.patched.tables held.patched.are_told) any (stored t) (sound t);
  }

  -- the same with the state that it holds
  pub base_of : base_tells ≡ true → IsBaseOf o tells told h.state old new
  base_of t = (base_after t, refl)
