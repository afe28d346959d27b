-- What is left of a map after the keys of entries that don't pass a test were removed.
use Rattle.mb_copy.proofs.Common.{ap, arith, Bool, cond, contains_key, drop, entries, eq_by_cmp, Equal-is, Err, failing, false, false≢true, find, FinMap, get, get-entries, get-remove, get-retain_keys}
use Rattle.mb_copy.proofs.Common.{get_or, Held, IfOk, IfSome, is_some, IsAntisymmetric, IsTotalOrder, length, List, list_any, map, None, not, Ok, Option, Ordering, refl, remove, removed_all, Result}
use Rattle.mb_copy.proofs.Common.{retain_keys, same_map, slice_get, Some, suc, sym, take, true, ℕ, [], ◌&&◌, ◌++◌, ◌+◌, ◌<◌, ◌||◌, ◌∙◌, ◌∷◌, ◌≡◌, ◌≤◌}
use Rattle.std.proofs.Math.Seq.{drop-cons}
use Rattle.std.proofs.lemmas.List.{drop_all, map-append, take_all, take_more}
use Rattle.std.proofs.lemmas.Option.{get_or_from_slice_get, none-some, slice_get-get_or}

-- what a set is, it is in order again
pub settled_as : {A E : Type 0} (f : Held → A) (r : Result Held E) (h : Held) (x : A) → f h ≡ x → IfOk r (λ l. l ≡ h) → IfOk r (λ l. f l ≡ x)
settled_as f (Ok l) h x e is = ap f is ∙ e
settled_as f (Err e') h x e is = is

-- keys of elements are removed, one after another
abbrev pub removed_by : {C K V : Type 0} {R : K → K → Ordering} → (C → K) → FinMap R V → List C → FinMap R V
removed_by key m [] = m
removed_by key m (c ∷ cs) = removed_by key (remove m (key c)) cs

pub by_keys : {C K V : Type 0} {R : K → K → Ordering} (key : C → K) (m : FinMap R V) (cs : List C) → removed_by key m cs ≡ removed_all m (map key cs)
by_keys key m [] = refl
by_keys key m (c ∷ cs) = by_keys key (remove m (key c)) cs

-- an element by itself
abbrev pub itself : {K : Type 0} → K → K
itself k = k

pub mapped_itself : {K : Type 0} (ks : List K) → map itself ks ≡ ks
mapped_itself [] = refl
mapped_itself (k ∷ ks) = ap (λ l. k ∷ l) (mapped_itself ks)

pub by_itself : {K V : Type 0} {R : K → K → Ordering} (m : FinMap R V) (ks : List K) → removed_by itself m ks ≡ removed_all m ks
by_itself m [] = refl
by_itself m (k ∷ ks) = by_itself (remove m k) ks

rest_at : {C : Type 0} (cs : List C) (i : ℕ) (c : C) → i < length cs → c ≡ get_or cs i c → drop i cs ≡ c ∷ drop (suc i) cs
rest_at cs i c lt at = drop-cons cs i c lt ∙ ap (λ z. z ∷ drop (suc i) cs) (sym at)

module _ {C K V : Type 0} {R : K → K → Ordering} (key : C → K) where
  pub one_removed : (cs : List C) (i : ℕ) (c : C) (m next all : FinMap R V) → i < length cs → c ≡ get_or cs i c → removed_by key m (drop i cs) ≡ all → next ≡ remove m (key c) → removed_by key next (drop (i + 1) cs) ≡ all
  one_removed cs i c m next all lt at done put =
      let e : i + 1 ≡ suc i = omega arith in
      ap (λ n. removed_by key next (drop n cs)) e
      ∙ (ap (λ (x : FinMap R V). removed_by key x (drop (suc i) cs)) put
      ∙ (ap (removed_by key m) (sym (rest_at cs i c lt at)) ∙ done))

  pub all_removed : (cs : List C) (n : ℕ) (m all : FinMap R V) → length cs ≤ n → removed_by key m (drop n cs) ≡ all → m ≡ all
  all_removed cs n m all h done = ap (removed_by key m) (sym (drop_all n cs h)) ∙ done

mapped : {C K : Type 0} (key : C → K) (b : Bool) (c : C) → map key (cond b [] (c ∷ [])) ≡ cond b [] (key c ∷ [])
mapped key true c = refl
mapped key false c = refl

-- a name by itself
pub one_name_removed : {V : Type 0} {R : List ℕ → List ℕ → Ordering} (cs : List (List ℕ)) (i : ℕ) (c : List ℕ) (m next all : FinMap R V) → i < length cs → c ≡ get_or cs i c → removed_by itself m (drop i cs) ≡ all → next ≡ remove m c → removed_by itself next (drop (i + 1) cs) ≡ all
one_name_removed cs i c m next all lt at done put = one_removed itself cs i c m next all lt at done put

-- the keys that don't pass, one entry after another
module _ {K V : Type 0} (test : K → Bool) where
  failing_push : (es : List (K × V)) (e : K × V) → failing test (es ++ e ∷ []) ≡ failing test es ++ cond (test e.0) [] (e.0 ∷ [])
  failing_push [] e = by (test e.0)
    where
      by : (b : Bool) → cond (not b) (e.0 ∷ []) [] ≡ cond b [] (e.0 ∷ [])
      by true = refl
      by false = refl
  failing_push (x ∷ es) e = by (test x.0) (failing_push es e)
    where
      by : (b : Bool) → failing test (es ++ e ∷ []) ≡ failing test es ++ cond (test e.0) [] (e.0 ∷ []) → cond (not b) (x.0 ∷ failing test (es ++ e ∷ [])) (failing test (es ++ e ∷ [])) ≡ cond (not b) (x.0 ∷ failing test es) (failing test es) ++ cond (test e.0) [] (e.0 ∷ [])
      by true rest = rest
      by false rest = ap (λ l. x.0 ∷ l) rest

  pub one_failing : {C : Type 0} (key : C → K) (Q : V → Type 0) (es : List (K × V)) (i : ℕ) (d : K × V) (old new : List C) (c : C) → i < length es → IfSome (slice_get es i) (λ e. (e.0 ≡ key c) × Q e.1) → map key old ≡ failing test (take i es) → new ≡ old ++ cond (test (key c)) [] (c ∷ []) → map key new ≡ failing test (take (i + 1) es)
  one_failing key Q es i d old new c lt here before step = by (slice_get es i) refl here
    where
      by : (o : Option (K × V)) → slice_get es i ≡ o → IfSome o (λ e. (e.0 ≡ key c) × Q e.1) → map key new ≡ failing test (take (i + 1) es)
      by None at h = absurd (none-some _ (sym at ∙ slice_get-get_or es i d lt))
      by (Some e) at h =
          ap (map key) step
          ∙ (map-append key old (cond (test (key c)) [] (c ∷ []))
          ∙ (ap (λ l. l ++ map key (cond (test (key c)) [] (c ∷ []))) before
          ∙ (ap (λ l. failing test (take i es) ++ l) (mapped key (test (key c)) c ∙ ap (λ k. cond (test k) [] (k ∷ [])) (sym h.0))
          ∙ (sym (failing_push (take i es) e)
          ∙ ap (failing test) (sym (take_more es i e lt ∙ ap (λ y. take i es ++ y ∷ []) (get_or_from_slice_get es i e e at)))))))

  pub all_failing : {C : Type 0} (key : C → K) (es : List (K × V)) (i : ℕ) (cs : List C) → length es ≤ i → map key cs ≡ failing test (take i es) → map key cs ≡ failing test es
  all_failing key es i cs end at = at ∙ ap (failing test) (take_all i es end)

module _ {K : Type 0} {R : K → K → Ordering} (total : IsTotalOrder R) where
  -- at a key
  removed_at : {V : Type 0} (ks : List K) (m : FinMap R V) (q : K) → get (removed_all m ks) q ≡ cond (list_any (eq_by_cmp R q) ks) None (get m q)
  removed_at [] m q = refl
  removed_at {V = V} (k ∷ ks) m q = removed_at ks (remove m k) q ∙ (ap (cond (list_any (eq_by_cmp R q) ks) None) (get-remove total m k q) ∙ by (list_any (eq_by_cmp R q) ks) (eq_by_cmp R q k))
    where
      by : (a b : Bool) → cond a None (cond b None (get m q)) ≡ cond (b || a) None (get m q)
      by true true = refl
      by true false = refl
      by false true = refl
      by false false = refl

  module _ (anti : IsAntisymmetric R) (test : K → Bool) where
    step : (b c d f l : Bool) → (b ≡ true → d ≡ c) → f ≡ (not d && l) → cond (not c) (b || f) f ≡ (not d && (b || l))
    step true true false f l same ih = absurd (false≢true (same refl))
    step true false true f l same ih = absurd (false≢true (sym (same refl)))
    step true false false f l same ih = refl
    step false true d f l same ih = ih
    step _ _ _ f l same ih = ih

    any_cond : (q k : K) (b : Bool) (ks : List K) → list_any (eq_by_cmp R q) (cond b (k ∷ ks) ks) ≡ cond b (eq_by_cmp R q k || list_any (eq_by_cmp R q) ks) (list_any (eq_by_cmp R q) ks)
    any_cond q k true ks = refl
    any_cond q k false ks = refl

    none_and : (b : Bool) → false ≡ (b && false)
    none_and true = refl
    none_and false = refl

    -- a key is among those that don't pass where it doesn't, and is one of them
    failing_any : {A : Type 0} (q : K) (es : List (K × A)) → list_any (eq_by_cmp R q) (failing test es) ≡ (not (test q) && list_any (λ e. eq_by_cmp R q e.0) es)
    failing_any q [] = none_and (not (test q))
    failing_any q (e ∷ es) =
        any_cond q e.0 (not (test e.0)) (failing test es)
        ∙ step (eq_by_cmp R q e.0) (test e.0) (test q) (list_any (eq_by_cmp R q) (failing test es)) (list_any (λ e. eq_by_cmp R q e.0) es) (λ t. ap test (anti q e.0 ((Equal-is (R q e.0)).0 t))) (failing_any q es)

    found_any : {A : Type 0} (q : K) (es : List (K × A)) → is_some (find R q es) ≡ list_any (λ e. eq_by_cmp R q e.0) es
    found_any q [] = refl
    found_any q (e ∷ es) = by (eq_by_cmp R q e.0) (found_any q es)
      where
        by : (b : Bool) → is_some (find R q es) ≡ list_any (λ e. eq_by_cmp R q e.0) es → is_some (cond b (Some e.1) (find R q es)) ≡ (b || list_any (λ e. eq_by_cmp R q e.0) es)
        by true ih = refl
        by false ih = ih

    -- what is left of a map that has no other keys
    pub cleared : {A V : Type 0} (t : FinMap R A) (m : FinMap R V) → ((q : K) → contains_key m q ≡ true → contains_key t q ≡ true) → removed_all m (failing test (entries t)) ≡ retain_keys m test
    cleared {V = V} t m within = same_map total anti _ _ (λ q.
        removed_at (failing test (entries t)) m q
        ∙ (ap (λ b. cond b None (get m q)) (failing_any q (entries t) ∙ ap (λ b. not (test q) && b) (sym (found_any q (entries t)) ∙ ap is_some (sym (get-entries t q))))
        ∙ (by (test q) (contains_key t q) (get m q) (within q)
        ∙ sym (get-retain_keys m test q (λ x tie. ap test (sym (anti q x tie)))))))
      where
        by : (b c : Bool) (o : Option V) → (is_some o ≡ true → c ≡ true) → cond (not b && c) None o ≡ cond b o None
        by false false (Some v) h = absurd (false≢true (h refl))
        by _ _ _ h = refl

    -- what a map has that passes, it had
    pub was_there : {V : Type 0} (m : FinMap R V) (q : K) (v : V) → get (retain_keys m test) q ≡ Some v → get m q ≡ Some v
    was_there {V = V} m q v h = by (test q) (sym (get-retain_keys m test q (λ x tie. ap test (sym (anti q x tie)))) ∙ h)
      where
        by : (b : Bool) → cond b (get m q) None ≡ Some v → get m q ≡ Some v
        by true e = e
        by false e = cc

    pub gone_at : {V : Type 0} (m : FinMap R V) (q : K) → test q ≡ false → get (retain_keys m test) q ≡ None
    gone_at m q h = get-retain_keys m test q (λ x tie. ap test (sym (anti q x tie))) ∙ ap (λ b. cond b (get m q) None) h
