-- What is found in pairs after a use, and after one is put.
use Rattle.bounded_lru.proofs.Common.{ap, arith, Bool, Bounded, bounded, cond, Contains, false, fits, if◌then◌else◌, inl, inr, is_some, length, light, light_front, List, lookup, lookup_entry, nat_eq}
use Rattle.bounded_lru.proofs.Common.{nat_le, nat_tests, None, Option, option_map, option_map_or, promoted, refl, remove_entry, slice_get, Some, suc, sym, take, true, used, with_pair, zero, ℕ, []}
use Rattle.bounded_lru.proofs.Common.{◌-◌, ◌<◌, ◌∙◌, ◌∷◌, ◌≡◌, ◌⊎◌}
use Rattle.std.proofs.lemmas.List.Elements.{Contains-append_cases, Contains-append_left, Contains-append_right}
use Rattle.lru.proofs.CallerLemmas.{Contains-lookup_entry, Contains-remove_entry, Contains-take}

single_is : {X : Type 0} (z x : X) → Contains (z ∷ []) x → z ≡ x
single_is z x (zero, low, is) = is
single_is z x (suc k, low, is) = absurd (omega arith)

module _ {V : Type 0} where
  -- a pair that is found has that key
  pub found_key : (k : ℕ) (es : List (ℕ × V)) (e : ℕ × V) → lookup_entry (nat_eq k) es ≡ Some e → k ≡ e.0
  found_key k es e q = let t = (Contains-lookup_entry (nat_eq k) es e q).1 in grind (arith, nat_tests)

  -- one step of a look-up behind a pair that was moved to the front
  step : (o k : ℕ) (e f : ℕ × V) (rest fs : Option V) → k ≡ e.0 → nat_eq k f.0 ≡ false → cond (nat_eq o e.0) (Some e.1) rest ≡ fs
      → cond (nat_eq o e.0) (Some e.1) (cond (nat_eq o f.0) (Some f.1) rest) ≡ cond (nat_eq o f.0) (Some f.1) fs
  step o k e f rest fs key other ih = grind (arith, nat_tests)

  moved_by : (o k : ℕ) (f : ℕ × V) (fs : List (ℕ × V)) (e : ℕ × V) → (lookup_entry (nat_eq k) fs ≡ Some e → lookup (nat_eq o) (e ∷ remove_entry (nat_eq k) fs) ≡ lookup (nat_eq o) fs)
      → (test : Bool) → nat_eq k f.0 ≡ test → cond test (Some f) (lookup_entry (nat_eq k) fs) ≡ Some e → lookup (nat_eq o) (e ∷ cond test fs (f ∷ remove_entry (nat_eq k) fs)) ≡ lookup (nat_eq o) (f ∷ fs)
  moved_by o k f fs e ih true t w = let same : f ≡ e = cc in ap (λ g. cond (nat_eq o g.0) (Some g.1) (lookup (nat_eq o) fs)) (sym same)
  moved_by o k f fs e ih false t w = step o k e f (lookup (nat_eq o) (remove_entry (nat_eq k) fs)) (lookup (nat_eq o) fs) (found_key k fs e w) t (ih w)

  moved : (o k : ℕ) (es : List (ℕ × V)) (e : ℕ × V) → lookup_entry (nat_eq k) es ≡ Some e → lookup (nat_eq o) (e ∷ remove_entry (nat_eq k) es) ≡ lookup (nat_eq o) es
  moved o k [] e q = absurd (cc)
  moved o k (f ∷ fs) e q = moved_by o k f fs e (λ w. moved o k fs e w) (nat_eq k f.0) refl q

  promoted_by : (o k : ℕ) (es : List (ℕ × V)) (found : Option (ℕ × V)) → lookup_entry (nat_eq k) es ≡ found → lookup (nat_eq o) (option_map_or (λ e. e ∷ remove_entry (nat_eq k) es) found es) ≡ lookup (nat_eq o) es
  promoted_by o k es None q = refl
  promoted_by o k es (Some e) q = moved o k es e q

  -- a use changes no look-up
  pub lookup-promoted : (o k : ℕ) (es : List (ℕ × V)) → lookup (nat_eq o) (promoted (nat_eq k) es) ≡ lookup (nat_eq o) es
  lookup-promoted o k es = promoted_by o k es (lookup_entry (nat_eq k) es) refl

  shorter_by : (f e : ℕ × V) (n : ℕ) (found : Option (ℕ × V)) (others fs : List (ℕ × V)) → length fs ≡ n → (found ≡ Some e → suc (length others) ≡ n)
      → (test : Bool) → cond test (Some f) found ≡ Some e → suc (length (cond test fs (f ∷ others))) ≡ suc n
  shorter_by f e n found others fs is ih true q = omega (arith, is)
  shorter_by f e n found others fs is ih false q = omega (arith, ih q)

  -- one less is there when a pair is removed
  pub length-remove_entry : (test : ℕ → Bool) (es : List (ℕ × V)) (e : ℕ × V) → lookup_entry test es ≡ Some e → suc (length (remove_entry test es)) ≡ length es
  length-remove_entry test [] e q = absurd (cc)
  length-remove_entry test (f ∷ fs) e q = shorter_by f e (length fs) (lookup_entry test fs) (remove_entry test fs) fs refl (length-remove_entry test fs e) (test f.0) q

  kept_by : (f : ℕ × V) (found : Option (ℕ × V)) (others fs : List (ℕ × V)) → (found ≡ None → others ≡ fs) → (test : Bool) → cond test (Some f) found ≡ None → cond test fs (f ∷ others) ≡ f ∷ fs
  kept_by f found others fs ih true q = absurd (cc)
  kept_by f found others fs ih false q = ap (λ z. f ∷ z) (ih q)

  -- where no key passes, nothing is removed
  pub remove_entry-none : (test : ℕ → Bool) (es : List (ℕ × V)) → lookup_entry test es ≡ None → remove_entry test es ≡ es
  remove_entry-none test [] q = refl
  remove_entry-none test (f ∷ fs) q = kept_by f (lookup_entry test fs) (remove_entry test fs) fs (remove_entry-none test fs) (test f.0) q

  promoted_length : (test : ℕ → Bool) (es : List (ℕ × V)) (found : Option (ℕ × V)) → lookup_entry test es ≡ found → length (option_map_or (λ e. e ∷ remove_entry test es) found es) ≡ length es
  promoted_length test es None q = refl
  promoted_length test es (Some e) q = omega (arith, length-remove_entry test es e q)

  -- a use changes no number of pairs
  pub length-promoted : (test : ℕ → Bool) (es : List (ℕ × V)) → length (promoted test es) ≡ length es
  length-promoted test es = promoted_length test es (lookup_entry test es) refl

  no_value_by : (f : ℕ × V) (value : Option V) (pair : Option (ℕ × V)) → (pair ≡ None → value ≡ None) → (test : Bool) → cond test (Some f) pair ≡ None → cond test (Some f.1) value ≡ None
  no_value_by f value pair ih true q = absurd (cc)
  no_value_by f value pair ih false q = ih q

  -- where no pair is found, there is no value
  pub no_value : (test : ℕ → Bool) (es : List (ℕ × V)) → lookup_entry test es ≡ None → lookup test es ≡ None
  no_value test [] q = refl
  no_value test (f ∷ fs) q = no_value_by f (lookup test fs) (lookup_entry test fs) (no_value test fs) (test f.0) q

  its_value_by : (f e : ℕ × V) (value : Option V) (pair : Option (ℕ × V)) → (pair ≡ Some e → value ≡ Some e.1) → (test : Bool) → cond test (Some f) pair ≡ Some e → cond test (Some f.1) value ≡ Some e.1
  its_value_by f e value pair ih true q = let same : f ≡ e = cc in ap (λ p. Some p.1) same
  its_value_by f e value pair ih false q = ih q

  -- and of a pair that is found it is the value
  pub its_value : (test : ℕ → Bool) (es : List (ℕ × V)) (e : ℕ × V) → lookup_entry test es ≡ Some e → lookup test es ≡ Some e.1
  its_value test [] e q = absurd (cc)
  its_value test (f ∷ fs) e q = its_value_by f e (lookup test fs) (lookup_entry test fs) (its_value test fs e) (test f.0) q

  front_is : (k : ℕ) (es : List (ℕ × V)) (found : Option (ℕ × V)) (value : Option V) → lookup_entry (nat_eq k) es ≡ found → lookup (nat_eq k) es ≡ value → is_some value ≡ true
      → option_map (λ (e : ℕ × V). e.1) (slice_get (option_map_or (λ e. e ∷ remove_entry (nat_eq k) es) found es) 0) ≡ value
  front_is k es found None q r some = absurd (cc)
  front_is k es None (Some v) q r some = let none = no_value (nat_eq k) es q in absurd (cc)
  front_is k es (Some e) (Some v) q r some = let its = its_value (nat_eq k) es e q in cc

  -- what is used stands in front
  pub latest-promoted : (k : ℕ) (es : List (ℕ × V)) → is_some (lookup (nat_eq k) es) ≡ true → option_map (λ (e : ℕ × V). e.1) (slice_get (promoted (nat_eq k) es) 0) ≡ lookup (nat_eq k) es
  latest-promoted k es some = front_is k es (lookup_entry (nat_eq k) es) (lookup (nat_eq k) es) refl refl some

  taken_by : (f : ℕ × V) (rest more : Option V) (d : V) → (rest ≡ Some d → more ≡ Some d) → (test : Bool) → cond test (Some f.1) rest ≡ Some d → cond test (Some f.1) more ≡ Some d
  taken_by f rest more d ih true q = q
  taken_by f rest more d ih false q = ih q

  -- what is found in a front is found in the whole
  pub lookup-take : (test : ℕ → Bool) (n : ℕ) (es : List (ℕ × V)) (d : V) → lookup test (take n es) ≡ Some d → lookup test es ≡ Some d
  lookup-take test zero es d q = absurd (cc)
  lookup-take test (suc n) [] d q = absurd (cc)
  lookup-take test (suc n) (f ∷ fs) d q = taken_by f (lookup test (take n fs)) (lookup test fs) d (lookup-take test n fs d) (test f.0) q

  in_front_by : (test : ℕ → Bool) (f : ℕ × V) (front fs : List (ℕ × V)) (d : V) → (lookup test front ≡ Some d → lookup test fs ≡ Some d) → (fit : Bool) → lookup test (if fit then f ∷ front else []) ≡ Some d → lookup test (f ∷ fs) ≡ Some d
  in_front_by test f front fs d ih true q = taken_by f (lookup test front) (lookup test fs) d ih (test f.0) q
  in_front_by test f front fs d ih false q = absurd (cc)

  in_light_front : (weight : V → ℕ) (test : ℕ → Bool) (room : ℕ) (es : List (ℕ × V)) (d : V) → lookup test (light_front weight room es) ≡ Some d → lookup test es ≡ Some d
  in_light_front weight test room [] d q = q
  in_light_front weight test room (f ∷ fs) d q = in_front_by test f (light_front weight (room - weight f.1) fs) fs d (in_light_front weight test (room - weight f.1) fs d) (nat_le (weight f.1) room) q

  pub lookup-light : (weight : V → ℕ) (test : ℕ → Bool) (limit : Option ℕ) (es : List (ℕ × V)) (d : V) → lookup test (light weight limit es) ≡ Some d → lookup test es ≡ Some d
  lookup-light weight test None es d q = q
  lookup-light weight test (Some room) es d q = in_light_front weight test room es d q

  without_by : (o k : ℕ) (f : ℕ × V) (fs others : List (ℕ × V)) (d : V) → nat_eq o k ≡ false → (lookup (nat_eq o) others ≡ Some d → lookup (nat_eq o) fs ≡ Some d) → (test : Bool) → nat_eq k f.0 ≡ test
      → lookup (nat_eq o) (cond test fs (f ∷ others)) ≡ Some d → lookup (nat_eq o) (f ∷ fs) ≡ Some d
  without_by o k f fs others d other ih true t q = let miss : nat_eq o f.0 ≡ false = grind (arith, nat_tests) in ap (λ m. cond m (Some f.1) (lookup (nat_eq o) fs)) miss ∙ q
  without_by o k f fs others d other ih false t q = taken_by f (lookup (nat_eq o) others) (lookup (nat_eq o) fs) d ih (nat_eq o f.0) q

  without : (o k : ℕ) (es : List (ℕ × V)) (d : V) → nat_eq o k ≡ false → lookup (nat_eq o) (remove_entry (nat_eq k) es) ≡ Some d → lookup (nat_eq o) es ≡ Some d
  without o k [] d other q = q
  without o k (f ∷ fs) d other q = without_by o k f fs (remove_entry (nat_eq k) fs) d other (without o k fs d other) (nat_eq k f.0) refl q

  first_or_rest : (o k : ℕ) (v d : V) (es : List (ℕ × V)) → (test : Bool) → nat_eq o k ≡ test → cond test (Some v) (lookup (nat_eq o) (remove_entry (nat_eq k) es)) ≡ Some d → (lookup (nat_eq o) es ≡ Some d) ⊎ ((o ≡ k) × (d ≡ v))
  first_or_rest o k v d es true t q = let same : o ≡ k = grind (arith, nat_tests) in inr (same, cc)
  first_or_rest o k v d es false t q = inl (without o k es d t q)

  -- what is found after a pair is put was there before, or is this pair
  pub lookup-with_pair : (weight : V → ℕ) (b : Bounded V) (k o : ℕ) (v d : V) → lookup (nat_eq o) (with_pair weight b k v).pairs ≡ Some d → (lookup (nat_eq o) b.pairs ≡ Some d) ⊎ ((o ≡ k) × (d ≡ v))
  lookup-with_pair weight b k o v d q =
      let all = (k, v) ∷ remove_entry (nat_eq k) b.pairs in
      let taken = lookup-light weight (nat_eq o) b.limit (take b.capacity all) d q in
      first_or_rest o k v d b.pairs (nat_eq o k) refl (lookup-take (nat_eq o) b.capacity all d taken)

  first_found : (k : ℕ) (v : V) (es : List (ℕ × V)) → lookup (nat_eq k) ((k, v) ∷ es) ≡ Some v
  first_found k v es = let same : nat_eq k k ≡ true = grind (arith, nat_tests) in ap (λ t. cond t (Some v) (lookup (nat_eq k) es)) same

  still_first : (weight : V → ℕ) (limit : Option ℕ) (k : ℕ) (v : V) (es : List (ℕ × V)) → fits weight limit v ≡ true → lookup (nat_eq k) (light weight limit ((k, v) ∷ es)) ≡ Some v
  still_first weight None k v es fit = first_found k v es
  still_first weight (Some room) k v es fit = ap (λ t. lookup (nat_eq k) (if t then (k, v) ∷ light_front weight (room - weight v) es else [])) fit ∙ first_found k v (light_front weight (room - weight v) es)

  found_in_front : (weight : V → ℕ) (limit : Option ℕ) (k n : ℕ) (v : V) (es : List (ℕ × V)) → 0 < n → fits weight limit v ≡ true → lookup (nat_eq k) (light weight limit (take n ((k, v) ∷ es))) ≡ Some v
  found_in_front weight limit k zero v es some fit = absurd (omega (arith, some))
  found_in_front weight limit k (suc n) v es some fit = still_first weight limit k v (take n es) fit

  -- and this pair is found
  pub found-with_pair : (weight : V → ℕ) (b : Bounded V) (k : ℕ) (v : V) → 0 < b.capacity → fits weight b.limit v ≡ true → lookup (nat_eq k) (with_pair weight b k v).pairs ≡ Some v
  found-with_pair weight b k v some fit = found_in_front weight b.limit k b.capacity v (remove_entry (nat_eq k) b.pairs) some fit

  unfound_by : (f : ℕ × V) (value : Option V) (pair : Option (ℕ × V)) → (value ≡ None → pair ≡ None) → (test : Bool) → cond test (Some f.1) value ≡ None → cond test (Some f) pair ≡ None
  unfound_by f value pair ih true q = absurd (cc)
  unfound_by f value pair ih false q = ih q

  unfound : (test : ℕ → Bool) (es : List (ℕ × V)) → lookup test es ≡ None → lookup_entry test es ≡ None
  unfound test [] q = refl
  unfound test (f ∷ fs) q = unfound_by f (lookup test fs) (lookup_entry test fs) (unfound test fs) (test f.0) q

  -- a use of what isn't held changes nothing
  pub used-none : (b : Bounded V) (k : ℕ) → lookup (nat_eq k) b.pairs ≡ None → used b k ≡ b
  used-none b k none = ap (λ found. bounded (option_map_or (λ e. e ∷ remove_entry (nat_eq k) b.pairs) found b.pairs) b.capacity b.limit) (unfound (nat_eq k) b.pairs none)

  light_front_in : (weight : V → ℕ) (room : ℕ) (es : List (ℕ × V)) (e : ℕ × V) → Contains (light_front weight room es) e → Contains es e
  light_front_in weight room [] e c = c
  light_front_in weight room (f ∷ fs) e c = by (light_front_in weight (room - weight f.1) fs e) (nat_le (weight f.1) room) c
    where
      by : (Contains (light_front weight (room - weight f.1) fs) e → Contains fs e) → (test : Bool) → Contains (if test then f ∷ light_front weight (room - weight f.1) fs else []) e → Contains (f ∷ fs) e
      by ih true d = elim (Contains-append_cases (f ∷ []) (light_front weight (room - weight f.1) fs) e d) [ inl here ↦ Contains-append_left (f ∷ []) fs e here | inr there ↦ Contains-append_right (f ∷ []) fs e (ih there) ]
      by ih false d = absurd (omega (arith, d.1))

  light_in : (weight : V → ℕ) (limit : Option ℕ) (es : List (ℕ × V)) (e : ℕ × V) → Contains (light weight limit es) e → Contains es e
  light_in weight None es e c = c
  light_in weight (Some room) es e c = light_front_in weight room es e c

  -- each pair that is held after one is put was held before, or is this one
  pub Contains-with_pair : (weight : V → ℕ) (b : Bounded V) (k : ℕ) (v : V) (e : ℕ × V) → Contains (with_pair weight b k v).pairs e → Contains b.pairs e ⊎ ((k, v) ≡ e)
  Contains-with_pair weight b k v e c =
      let all = (k, v) ∷ remove_entry (nat_eq k) b.pairs in
      elim (Contains-append_cases ((k, v) ∷ []) (remove_entry (nat_eq k) b.pairs) e (Contains-take b.capacity all e (light_in weight b.limit (take b.capacity all) e c))) [
        | inl here ↦ inr (single_is (k, v) e here)
        | inr there ↦ inl (Contains-remove_entry (nat_eq k) b.pairs e there)
      ]
