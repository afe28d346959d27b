-- What stands when a pair was put.
use Rattle.bounded_lru.proofs.Common.{ap, arith, Bounded, bounded, displaced, drop, fits, IfSome, if◌then◌else◌, IsWithin, length, light_front, List, lookup, lookup_entry, lru_cache, LruCache, nat_eq}
use Rattle.bounded_lru.proofs.Common.{nat_le, nat_tests, None, Option, option_map_or, put_entries, refl, remove_entry, slice_get, Some, subst, suc, sym, take, true, weight_of, weight_of_pair}
use Rattle.bounded_lru.proofs.Common.{with_pair, zero, ℕ, [], ◌++◌, ◌+◌, ◌-◌, ◌<◌, ◌∙◌, ◌∷◌, ◌≡◌, ◌≤◌}
use Rattle.bounded_lru.proofs.WeightLemmas.{IsKept, length-light_front, light_front-fits, weight_of-remove_entry}
use Rattle.bounded_lru.proofs.HeldLemmas.{found_key, its_value, length-remove_entry, no_value, remove_entry-none}

module _ {V : Type 0} (weight : V → ℕ) where
  -- what is held once a pair is pushed, and what was displaced
  pub record IsPushed (old new : LruCache ℕ V) (k : ℕ) (v : V) (out : Option (ℕ × V)) : Type 0 where
    pub others : List (ℕ × V)
    pub held : new ≡ lru_cache ((k, v) ∷ others) old.cap
    pub whole : take old.cap ((k, v) ∷ remove_entry (nat_eq k) old.entries) ≡ (k, v) ∷ others
    pub weighs : weight_of weight others + weight_of_pair weight out ≡ weight_of weight old.entries
    pub short : suc (length others) ≤ old.cap

  take_less : (n : ℕ) (x : ℕ × V) (xs : List (ℕ × V)) → 0 < n → take n (x ∷ xs) ≡ x ∷ take (n - 1) xs
  take_less zero x xs some = absurd (omega arith)
  take_less (suc n) x xs some = let e : suc n - 1 ≡ n = omega arith in ap (λ m. x ∷ take m xs) (sym e)

  all_taken : (n : ℕ) (xs : List (ℕ × V)) → length xs ≤ n → take n xs ≡ xs
  all_taken zero [] h = refl
  all_taken zero (x ∷ xs) h = absurd (omega (arith, h))
  all_taken (suc n) [] h = refl
  all_taken (suc n) (x ∷ xs) h = ap (λ z. x ∷ z) (all_taken n xs (omega (arith, h)))

  few_taken : (n : ℕ) (xs : List (ℕ × V)) → length (take n xs) ≤ n
  few_taken zero xs = omega arith
  few_taken (suc n) [] = omega arith
  few_taken (suc n) (x ∷ xs) = omega (arith, few_taken n xs)

  -- the pair past a front, if there is one, weighs what is missing
  past_front : (n : ℕ) (xs : List (ℕ × V)) → length xs ≤ suc n → weight_of weight (take n xs) + weight_of_pair weight (slice_get xs n) ≡ weight_of weight xs
  past_front zero [] h = refl
  past_front zero (x ∷ []) h = omega arith
  past_front zero (x ∷ y ∷ ys) h = absurd (omega (arith, h))
  past_front (suc n) [] h = refl
  past_front (suc n) (x ∷ xs) h = omega (arith, past_front n xs (omega (arith, h)))

  pushed_by : (old : LruCache ℕ V) (k : ℕ) (v : V) → length old.entries ≤ old.cap → 0 < old.cap → (found : Option (ℕ × V)) → lookup_entry (nat_eq k) old.entries ≡ found
      → (value : Option V) → lookup (nat_eq k) old.entries ≡ value
      → IsPushed old (lru_cache (option_map_or (λ e. (e.0, v) ∷ remove_entry (nat_eq k) old.entries) found ((k, v) ∷ take (old.cap - 1) old.entries)) old.cap) k v (option_map_or (λ w. Some (k, w)) value (slice_get old.entries (old.cap - 1)))
  pushed_by old k v short some None q None r =
      let kept = remove_entry-none (nat_eq k) old.entries q in
      let less = take_less old.cap (k, v) (remove_entry (nat_eq k) old.entries) some ∙ ap (λ z. (k, v) ∷ take (old.cap - 1) z) kept in
      record { others = take (old.cap - 1) old.entries; held = refl; whole = less; weighs = past_front (old.cap - 1) old.entries (omega (arith, short, some)); short = omega (arith, few_taken (old.cap - 1) old.entries, some) }
  pushed_by old k v short some None q (Some w) r = let none = no_value (nat_eq k) old.entries q in absurd (cc)
  pushed_by old k v short some (Some e) q None r = let its = its_value (nat_eq k) old.entries e q in absurd (cc)
  pushed_by old k v short some (Some e) q (Some w) r =
      let its = its_value (nat_eq k) old.entries e q in
      let same : e.1 ≡ w = cc in
      let key = sym (found_key k old.entries e q) in
      let long = length-remove_entry (nat_eq k) old.entries e q in
      let heavy = weight_of-remove_entry weight (nat_eq k) old.entries e q in
      let others = remove_entry (nat_eq k) old.entries in
      record { others = others; held = ap (λ n. lru_cache ((n, v) ∷ others) old.cap) key; whole = all_taken old.cap ((k, v) ∷ others) (omega (arith, long, short)); weighs = omega (arith, heavy, ap weight same); short = omega (arith, long, short) }

  pub pushed : (old new : LruCache ℕ V) (k : ℕ) (v : V) (out : Option (ℕ × V)) → length old.entries ≤ old.cap → 0 < old.cap → new ≡ lru_cache (put_entries nat_eq old k v) old.cap → out ≡ displaced nat_eq old k v → IsPushed old new k v out
  pushed old new k v out short some q r =
      let done = pushed_by old k v short some (lookup_entry (nat_eq k) old.entries) refl (lookup (nat_eq k) old.entries) refl in
      let P : LruCache ℕ V → Type 0 = λ z. IsPushed old z k v out in
      let Q : Option (ℕ × V) → Type 0 = λ z. IsPushed old (lru_cache (put_entries nat_eq old k v) old.cap) k v z in
      subst P (sym q) (subst Q (sym r) done)

  -- a pair is put where there is no limit
  pub put_unlimited : (old new : LruCache ℕ V) (k : ℕ) (v : V) → length old.entries ≤ old.cap → 0 < old.cap → new ≡ lru_cache (put_entries nat_eq old k v) old.cap
      → (bounded new.entries new.cap None ≡ with_pair weight (bounded old.entries old.cap None) k v) × (length new.entries ≤ new.cap) × (0 < new.cap)
  put_unlimited old new k v short some q =
      let p = pushed old new k v (displaced nat_eq old k v) short some q refl in
      (ap (λ c. bounded c.entries c.cap None) p.held ∙ ap (λ z. bounded z old.cap None) (sym p.whole), omega (arith, ap (λ c. length c.entries) p.held, ap (λ c. c.cap) p.held, p.short), omega (arith, ap (λ c. c.cap) p.held, some))

  front_first : (room w : ℕ) (e : ℕ × V) (es : List (ℕ × V)) → w ≡ weight e.1 → w ≤ room → light_front weight room (e ∷ es) ≡ e ∷ light_front weight (room - w) es
  front_first room w e es is h =
      let test : nat_le (weight e.1) room ≡ true = grind (arith, nat_tests) in
      ap (λ t. if t then e ∷ light_front weight (room - weight e.1) es else []) test ∙ ap (λ n. e ∷ light_front weight (room - n) es) (sym is)

  -- behind a pushed pair stand the others
  pub behind : (old mid : LruCache ℕ V) (k : ℕ) (v : V) (out : Option (ℕ × V)) → IsPushed old mid k v out
      → (0 < length mid.entries) × (weight_of weight (drop 1 mid.entries) + weight_of_pair weight out ≡ weight_of weight old.entries)
  behind old mid k v out p =
      let held : mid.entries ≡ (k, v) ∷ p.others = ap (λ c. c.entries) p.held in
      let n : length mid.entries ≡ suc (length p.others) = ap length held in
      (omega (arith, n), ap (λ z. weight_of weight (drop 1 z) + weight_of_pair weight out) held ∙ p.weighs)

  -- what stands when a pair was put within a limit, which weighs so much
  pub record IsPutWithin (old new : LruCache ℕ V) (k : ℕ) (v : V) (limit total : ℕ) : Type 0 where
    pub held : bounded new.entries new.cap (Some limit) ≡ with_pair weight (bounded old.entries old.cap (Some limit)) k v
    pub short : length new.entries ≤ new.cap
    pub some : 0 < new.cap
    pub weighs : total ≡ weight_of weight new.entries
    pub light : total ≤ limit

  pub put_within : (old mid new : LruCache ℕ V) (k : ℕ) (v : V) (out : Option (ℕ × V)) (limit w left : ℕ) → w ≡ weight v → w ≤ limit → 0 < old.cap → IsPushed old mid k v out
      → new ≡ lru_cache (take 1 mid.entries ++ light_front weight (limit - w) (drop 1 mid.entries)) mid.cap → left ≡ weight_of weight (light_front weight (limit - w) (drop 1 mid.entries))
      → IsPutWithin old new k v limit (w + left)
  put_within old mid new k v out limit w left is fits some p q r =
      let pair : ℕ × V = (k, v) in
      let front = light_front weight (limit - w) p.others in
      let now : new ≡ lru_cache (pair ∷ front) old.cap = q ∙ ap (λ c. lru_cache (take 1 c.entries ++ light_front weight (limit - w) (drop 1 c.entries)) c.cap) p.held in
      let weighs : left ≡ weight_of weight front = r ∙ ap (λ c. weight_of weight (light_front weight (limit - w) (drop 1 c.entries))) p.held in
      let whole : light_front weight limit (take old.cap (pair ∷ remove_entry (nat_eq k) old.entries)) ≡ pair ∷ front = ap (light_front weight limit) p.whole ∙ front_first limit w pair p.others is fits in
      record {
        held = ap (λ c. bounded c.entries c.cap (Some limit)) now ∙ ap (λ z. bounded z old.cap (Some limit)) (sym whole);
        short = omega (arith, ap (λ c. length c.entries) now, ap (λ c. c.cap) now, length-light_front weight (limit - w) p.others, p.short);
        some = omega (arith, ap (λ c. c.cap) now, some);
        weighs = omega (arith, weighs, is, ap (λ c. weight_of weight c.entries) now);
        light = omega (arith, weighs, light_front-fits weight (limit - w) p.others, fits);
      }

  -- what is shown once a pair was put
  pub record IsPut (now : Bounded V) (new : LruCache ℕ V) (k : ℕ) (v : V) (limit : Option ℕ) (total : ℕ) : Type 0 where
    pub kept : IsKept weight new total limit
    pub puts : (fits weight now.limit v ≡ true) × (bounded new.entries new.cap limit ≡ with_pair weight now k v)
    pub within : IsWithin weight (bounded new.entries new.cap limit)

  put_any_by : (old new : LruCache ℕ V) (k : ℕ) (v : V) (limit : Option ℕ) (total : ℕ) → limit ≡ None → IsKept weight old total limit → new ≡ lru_cache (put_entries nat_eq old k v) old.cap → IsPut (bounded old.entries old.cap limit) new k v limit total
  put_any_by old new k v None total none w q = let p = put_unlimited old new k v w.0 w.1 q in record { kept = (p.1, p.2, tt); puts = (refl, p.0); within = (p.2, p.1, tt) }
  put_any_by old new k v (Some limit) total none w q = absurd (cc)

  -- where there is no limit
  pub put_any : (now : Bounded V) (old new : LruCache ℕ V) (k : ℕ) (v : V) (limit : Option ℕ) (total : ℕ) → bounded old.entries old.cap limit ≡ now → now.limit ≡ None → IsKept weight old total limit
      → new ≡ lru_cache (put_entries nat_eq old k v) old.cap → IsPut now new k v limit total
  put_any now old new k v limit total is none w q =
      let P : Bounded V → Type 0 = λ b. IsPut b new k v limit total in
      subst P is (put_any_by old new k v limit total (ap (λ b. b.limit) is ∙ none) w q)

  put_light_by : (old new : LruCache ℕ V) (k : ℕ) (v : V) (limit : Option ℕ) (most total : ℕ) → limit ≡ Some most → weight v ≤ most → IsPutWithin old new k v most total → IsPut (bounded old.entries old.cap limit) new k v limit total
  put_light_by old new k v None most total some light p = absurd (cc)
  put_light_by old new k v (Some limit) most total some light p =
      let same : most ≡ limit = cc in
      let P : ℕ → Type 0 = λ n. IsPut (bounded old.entries old.cap (Some n)) new k v (Some n) total in
      let fit : nat_le (weight v) most ≡ true = grind (arith, nat_tests) in
      subst P same (record { kept = (p.short, p.some, (p.weighs, p.light)); puts = (fit, p.held); within = (p.some, p.short, omega (arith, p.weighs, p.light)) })

  -- and where there is one
  pub put_light : (now : Bounded V) (old mid new : LruCache ℕ V) (k : ℕ) (v : V) (limit : Option ℕ) (most held w left : ℕ) (out : Option (ℕ × V)) → bounded old.entries old.cap limit ≡ now → now.limit ≡ Some most → IsKept weight old held limit → w ≡ weight v → w ≤ most
      → mid ≡ lru_cache (put_entries nat_eq old k v) old.cap → out ≡ displaced nat_eq old k v
      → new ≡ lru_cache (take 1 mid.entries ++ light_front weight (most - w) (drop 1 mid.entries)) mid.cap → left ≡ weight_of weight (light_front weight (most - w) (drop 1 mid.entries)) → IsPut now new k v limit (w + left)
  put_light now old mid new k v limit most held w left out is some kept weighs light put gone lighter rest =
      let pushed = pushed old mid k v out kept.0 kept.1 put gone in
      let done = put_within old mid new k v out most w left weighs light kept.1 pushed lighter rest in
      let P : Bounded V → Type 0 = λ b. IsPut b new k v limit (w + left) in
      subst P is (put_light_by old new k v limit most (w + left) (ap (λ b. b.limit) is ∙ some) (omega (arith, weighs, light)) done)

  -- what is displaced weighs no more than what is held, and the others are what is left
  pub others_weigh : (now : Bounded V) (old mid : LruCache ℕ V) (k : ℕ) (v : V) (limit : Option ℕ) (most held : ℕ) (out : Option (ℕ × V)) → bounded old.entries old.cap limit ≡ now → now.limit ≡ Some most → IsKept weight old held limit
      → mid ≡ lru_cache (put_entries nat_eq old k v) old.cap → out ≡ displaced nat_eq old k v
      → (weight_of_pair weight out ≤ held) × (held - weight_of_pair weight out ≡ weight_of weight (drop 1 mid.entries)) × (0 < length mid.entries)
  others_weigh now old mid k v limit most held out is some kept put gone =
      let b = behind old mid k v out (pushed old mid k v out kept.0 kept.1 put gone) in
      let same = held_weighs (weight_of weight old.entries) held limit most (ap (λ b. b.limit) is ∙ some) kept.2 in
      (omega (arith, same, b.1), omega (arith, same, b.1), b.0)
    where
      held_weighs : (all held : ℕ) (limit : Option ℕ) (most : ℕ) → limit ≡ Some most → IfSome limit (λ most. (held ≡ all) × (held ≤ most)) → held ≡ all
      held_weighs all held None most q w = absurd (cc)
      held_weighs all held (Some n) most q w = w.0
