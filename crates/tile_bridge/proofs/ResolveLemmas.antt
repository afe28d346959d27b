-- What is due of a base and its patches.
use Rattle.tile_bridge.proofs.Common.{all_patched, ap, at_place, Bool, cond, ConvertError, ConvertOptions, due, due_at, due_patches, Err, false, Held, IfErr, IfSome, IsDue, IsErrAnd, IsHeldFrom}
use Rattle.tile_bridge.proofs.Common.{IsLoadedFrom, IsPatchedByAll, IsRefused, List, list_all, map, NamesAlgorithm, None, nothing_edited, Ok, Option, outcome, refl, Refuses, Result, Some, State}
use Rattle.tile_bridge.proofs.Common.{state_of, subst, sym, Tables, tested, then, true, ◌&&◌, ◌∙◌, ◌≡◌}
use Rattle.std.proofs.lemmas.List.Folds.{list_all-map}
use Rattle.tile_bridge.proofs.FoldLemmas.{refuses_on}

module _ {S P : Type 0} (tells : S → Bool) (told : S → Tables) (patch_tells : P → Bool) (patch_told : P → Tables) (base : S) (patches : List P) (options : ConvertOptions) (s : State) (is : tells base ≡ true → state_of (told base) ≡ Ok s) where
  abbrev all_due : Option (Result State ConvertError)
  all_due = due tells told patch_tells patch_told base patches options

  abbrev patches_due : Option (Result State ConvertError)
  patches_due = due_patches options.force 1 s (map patch_tells patches) (map patch_told patches)

  -- what follows from what is due of the patches, once it is tested
  from_patches : (Q : Result State ConvertError → Type 0) → IfSome patches_due (λ d. Q (then d (tested options.verify))) → IfSome all_due Q
  from_patches Q h = by (tells base) (list_all patch_tells patches) refl refl
    where
      by : (b c : Bool) → tells base ≡ b → list_all patch_tells patches ≡ c → IfSome (cond (b && c) (Some (outcome (told base) (map patch_told patches) options.force options.verify)) None) Q
      by false c e f = tt
      by true false e f = tt
      by true true e f =
          let all : list_all (λ t. t) (map patch_tells patches) ≡ true = list_all-map (λ t. t) patch_tells patches ∙ f in
          let there : Q (then (all_patched options.force 1 s (map patch_told patches)) (tested options.verify)) = subst (λ b. IfSome (cond b (Some (all_patched options.force 1 s (map patch_told patches))) None) (λ d. Q (then d (tested options.verify)))) all h in
          subst Q (sym (ap (λ r. then (at_place 0 r) (λ s. then (all_patched options.force 1 s (map patch_told patches)) (tested options.verify))) (is e))) there

  more : (d : Option (Result State ConvertError)) (P Q : Result State ConvertError → Type 0) → ((r : Result State ConvertError) → P r → Q r) → IfSome d P → IfSome d Q
  more None P Q f h = tt
  more (Some r) P Q f h = f r h

  pub patches_refused : {A : Type 0} (e : ConvertError) (r : Result A ConvertError) → Refuses patches_due e → IsErrAnd r (λ x. x ≡ e) → IfErr r (Refuses all_due)
  patches_refused e (Ok x) h same = tt
  patches_refused e (Err x) h same = subst (Refuses all_due) (sym same) (refuses_on patches_due all_due e (λ e r. from_patches (λ d. d ≡ Err e) (more patches_due (λ d. d ≡ Err e) (λ d. then d (tested options.verify) ≡ Err e) (λ r is. ap (λ r. then r (tested options.verify)) is) r)) h)

  module _ (next : State) (made : IsDue patches_due next) where
    from_tests : (Q : Result State ConvertError → Type 0) → Q (tested options.verify next) → IfSome all_due Q
    from_tests Q h = from_patches Q (more patches_due (λ d. d ≡ Ok next) (λ d. Q (then d (tested options.verify))) (λ r is. subst Q (sym (ap (λ r. then r (tested options.verify)) is)) h) made)

    pub tests_refused : {A : Type 0} (e : ConvertError) (r : Result A ConvertError) → Refuses (Some (tested options.verify next)) e → IsErrAnd r (λ x. x ≡ e) → IfErr r (Refuses all_due)
    tests_refused e (Ok x) h same = tt
    tests_refused e (Err x) h same = subst (Refuses all_due) (sym same) (refuses_on (Some (tested options.verify next)) all_due e (λ e r. from_tests (λ d. d ≡ Err e) r) h)

    pub state_due : tested options.verify next ≡ Ok next → IsDue all_due next
    state_due passed = from_tests (λ d. d ≡ Ok next) passed

-- a base that is let go and refused
pub base_refused : {S P A : Type 0} (told : S → Tables) (patch_tells : P → Bool) (patch_told : P → Tables) (base : S) (patches : List P) (options : ConvertOptions) (e : ConvertError) (r : Result A ConvertError) → Refuses (due_at 0 true (told base)) e → IsErrAnd r (λ x. x ≡ e) → IfErr r (Refuses (due (λ _. true) told patch_tells patch_told base patches options))
base_refused told patch_tells patch_told base patches options e (Ok x) h same = tt
base_refused told patch_tells patch_told base patches options e (Err x) h same =
    subst (Refuses (due (λ _. true) told patch_tells patch_told base patches options)) (sym same) (refuses_on (due_at 0 true (told base)) (due (λ _. true) told patch_tells patch_told base patches options) e stays h)
  where
    stays : (x : ConvertError) → IsRefused (due_at 0 true (told base)) x → IsRefused (due (λ _. true) told patch_tells patch_told base patches options) x
    stays x is = by (list_all patch_tells patches)
      where
        by : (b : Bool) → IfSome (cond b (Some (outcome (told base) (map patch_told patches) options.force options.verify)) None) (λ d. d ≡ Err x)
        by false = tt
        by true = ap (λ r. then r (λ s. then (all_patched options.force 1 s (map patch_told patches)) (tested options.verify))) is

-- the set that is converted
pub held_from : (force verify tells : Bool) (base : Tables) (patch_tells : List Bool) (patches : List Tables) (first next : Held) → first.edited ≡ nothing_edited → (tells ≡ true → state_of base ≡ Ok first.state) → (tells ≡ true → IsLoadedFrom base first) → NamesAlgorithm first.state
    → IsPatchedByAll force patch_tells patches first next → tested verify next.state ≡ Ok next.state → ((t : Tables) → IsLoadedFrom t first → NamesAlgorithm first.state → IsLoadedFrom t next × NamesAlgorithm next.state) → IsHeldFrom force verify tells base patch_tells patches next
held_from force verify tells base patch_tells patches first next clean is from named patched passes loads = record {
  first = first.state;
  base_state = is;
  patched = subst (λ e. IsPatchedByAll force patch_tells patches (record { state = first.state; edited = e }) next) clean patched;
  passes = passes;
  loaded = λ t. (loads base (from t) named).0;
  named = λ t. (loads base (from t) named).1;
}
