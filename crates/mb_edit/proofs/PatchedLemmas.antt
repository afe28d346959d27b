-- What a patched set has at each place, and patched metadata under each name.
use Rattle.mb_edit.proofs.Common.{ap, below_all, Bool, cond, cons_option, contains_key, entries, entries_sorted, eq_by_cmp, Equal-is, false, filter_map, find, FinMap, get, get-entries}
use Rattle.mb_edit.proofs.Common.{get-from_entries, get-retain_keys, get_tied, is_null_at, is_some, is_sorted, IsTotalOrder, landed, less_apart, List, meta_patched, Names, nat_cmp, nat_list_cmp_total}
use Rattle.mb_edit.proofs.Common.{None, not, Option, option_and_then, option_map, option_or, Ordering, over, patched_at, patched_by, Place, place_cmp, places_antisymmetric, places_total, put_entry}
use Rattle.mb_edit.proofs.Common.{refl, retain_keys, slice_cmp, Some, subst, sym, T, TileSet, true, ℕ, [], ◌&&◌, ◌++◌, ◌∙◌, ◌∷◌, ◌≡◌}

pub first : (a b : Bool) → T (a && b) → T a
first true b h = tt
first false b h = h

pub second : (a b : Bool) → T (a && b) → T b
second true b h = h
second false b h = absurd h

or_cond : {A : Type 0} (b : Bool) (v : A) (x y : Option A) → cond b (Some v) (option_or x y) ≡ option_or (cond b (Some v) x) y
or_cond true v x y = refl
or_cond false v x y = refl

module _ {K V : Type 0} (R : K → K → Ordering) where
  pub find-join : (q : K) (xs ys : List (K × V)) → find R q (xs ++ ys) ≡ option_or (find R q xs) (find R q ys)
  find-join q [] ys = refl
  find-join q (x ∷ xs) ys = ap (cond (eq_by_cmp R q x.0) (Some x.1)) (find-join q xs ys) ∙ or_cond (eq_by_cmp R q x.0) x.1 (find R q xs) (find R q ys)

  pub none_below : (q : K) (es : List (K × V)) → T (below_all R q es) → find R q es ≡ None
  none_below q [] h = refl
  none_below q (e ∷ es) h = rw (less_apart (R q e.0) (first _ _ h)) (none_below q es (second _ _ h))

module _ {K V : Type 0} {R : K → K → Ordering} (total : IsTotalOrder R) where
  -- entries over those of a map
  pub get-over : (es : List (K × V)) (m : FinMap R V) (q : K) → get (over es m) q ≡ option_or (find R q es) (get m q)
  get-over es m q = get-from_entries total (es ++ entries m) q ∙ (find-join R q es (entries m) ∙ ap (option_or (find R q es)) (sym (get-entries m q)))

  -- what is left of a map where another passes a test
  pub get-left : {A : Type 0} (p : FinMap R A) (test : Option A → Bool) (m : FinMap R V) (q : K) → get (retain_keys m (λ key. test (get p key))) q ≡ cond (test (get p q)) (get m q) None
  get-left p test m q = get-retain_keys m (λ key. test (get p key)) q (λ x tie. ap test (get_tied total p q x tie))

pub or_none : {A : Type 0} (o : Option A) → option_or o None ≡ o
or_none None = refl
or_none (Some x) = refl

neither : {A : Type 0} (o : Option A) (b : Bool) → cond b o o ≡ o
neither o true = refl
neither o false = refl

-- what is given at a place by entries, each place once
module _ {A : Type 0} (given : List ℕ → Option A) (q : Place) where
  abbrev value_at : Option (Place × A) → Option A
  value_at o = option_and_then (λ e. cond (eq_by_cmp place_cmp q e.0) (Some e.1) None) o

  find_cons : (o : Option (Place × A)) (xs : List (Place × A)) → find place_cmp q (cons_option o xs) ≡ option_or (value_at o) (find place_cmp q xs)
  find_cons None xs = refl
  find_cons (Some e) xs = or_cond (eq_by_cmp place_cmp q e.0) e.1 None (find place_cmp q xs)

  at_entry : (p : Place) (o : Option (List ℕ)) → value_at (put_entry given (p, o)) ≡ cond (eq_by_cmp place_cmp q p) (patched_at given (Some o) None) None
  at_entry p None = sym (neither None (eq_by_cmp place_cmp q p))
  at_entry p (Some bytes) = by (given bytes)
    where
      by : (g : Option A) → value_at (option_map (λ a. (p, a)) g) ≡ cond (eq_by_cmp place_cmp q p) g None
      by None = sym (neither None (eq_by_cmp place_cmp q p))
      by (Some a) = refl

  pub find-given : (es : List (Place × Option (List ℕ))) → T (is_sorted place_cmp es) → find place_cmp q (filter_map (put_entry given) es) ≡ patched_at given (find place_cmp q es) None
  find-given [] h = refl
  find-given (e ∷ es) h =
      find_cons (put_entry given e) (filter_map (put_entry given) es)
      ∙ (ap (λ o. option_or o (find place_cmp q (filter_map (put_entry given) es))) (at_entry e.0 e.1)
      ∙ (ap (option_or (cond (eq_by_cmp place_cmp q e.0) (patched_at given (Some e.1) None) None)) (find-given es (second _ _ h))
      ∙ by (eq_by_cmp place_cmp q e.0) refl))
    where
      by : (b : Bool) → eq_by_cmp place_cmp q e.0 ≡ b → option_or (cond b (patched_at given (Some e.1) None) None) (patched_at given (find place_cmp q es) None) ≡ patched_at given (cond b (Some e.1) (find place_cmp q es)) None
      by false t = refl
      by true t =
          let here : q ≡ e.0 = places_antisymmetric q e.0 ((Equal-is (place_cmp q e.0)).0 t) in
          let none : find place_cmp q es ≡ None = none_below place_cmp q es (subst (λ (x : Place). T (below_all place_cmp x es)) (sym here) (first _ _ h)) in
          ap (λ o. option_or (patched_at given (Some e.1) None) (patched_at given o None)) none ∙ or_none (patched_at given (Some e.1) None)

  -- what a patched set has at a place
  pub get-patched_by : (p : TileSet) (m : FinMap place_cmp A) → get (patched_by given p m) q ≡ patched_at given (get p q) (get m q)
  get-patched_by p m =
      get-over places_total (filter_map (put_entry given) (entries p)) (retain_keys m (λ place. not (contains_key p place))) q
      ∙ (ap (λ o. option_or o (get (retain_keys m (λ place. not (contains_key p place))) q)) (find-given (entries p) (entries_sorted p) ∙ ap (λ o. patched_at given o None) (sym (get-entries p q)))
      ∙ (ap (option_or (patched_at given (get p q) None)) (get-left places_total p (λ o. not (is_some o)) m q)
      ∙ by (get p q)))
    where
      by : (o : Option (Option (List ℕ))) → option_or (patched_at given o None) (cond (not (is_some o)) (get m q) None) ≡ patched_at given o (get m q)
      by (Some (Some bytes)) = or_none (given bytes)
      by _ = refl

-- what patched metadata has under a name
pub get-meta_patched : (m n : Names) (name : List ℕ) → get (meta_patched m n) name ≡ cond (not (is_null_at (get n name))) (option_or (find (slice_cmp nat_cmp) name (filter_map landed (entries n))) (get m name)) None
get-meta_patched m n name =
    get-left nat_list_cmp_total n (λ o. not (is_null_at o)) (over (filter_map landed (entries n)) m) name
    ∙ ap (λ o. cond (not (is_null_at (get n name))) o None) (get-over nat_list_cmp_total (filter_map landed (entries n)) m name)
