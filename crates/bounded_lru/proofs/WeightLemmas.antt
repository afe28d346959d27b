-- What pairs weigh, and their light fronts.
use Rattle.bounded_lru.proofs.Common.{ap, arith, Bool, bounded, cond, false, IfSome, if◌then◌else◌, IsWithin, length, light_front, List, lookup_entry, lru_cache, LruCache, nat_eq, nat_le, nat_tests}
use Rattle.bounded_lru.proofs.Common.{None, Option, option_map_or, promoted, refl, remove_entry, Some, subst, sym, true, weight_of, ℕ, [], ◌+◌, ◌-◌, ◌<◌, ◌∙◌, ◌∷◌, ◌≡◌, ◌≤◌}
use Rattle.bounded_lru.proofs.HeldLemmas.{length-promoted}

module _ {V : Type 0} (weight : V → ℕ) where
  -- one step along a list, whichever way the test goes
  removed_by : (f e : ℕ × V) (total rest : ℕ) (found : Option (ℕ × V)) (others : List (ℕ × V)) (fs : List (ℕ × V)) → weight_of weight fs ≡ rest → (found ≡ Some e → weight e.1 + weight_of weight others ≡ rest)
      → (test : Bool) → cond test (Some f) found ≡ Some e → weight e.1 + weight_of weight (cond test fs (f ∷ others)) ≡ weight f.1 + rest
  removed_by f e total rest found others fs is ih true q = let same : f ≡ e = cc in omega (arith, is, ap (λ p. weight p.1) same)
  removed_by f e total rest found others fs is ih false q = omega (arith, ih q)

  -- a pair that is found weighs what is missing when it is removed
  pub weight_of-remove_entry : (test : ℕ → Bool) (es : List (ℕ × V)) (e : ℕ × V) → lookup_entry test es ≡ Some e → weight e.1 + weight_of weight (remove_entry test es) ≡ weight_of weight es
  weight_of-remove_entry test [] e q = absurd (cc)
  weight_of-remove_entry test (f ∷ fs) e q = removed_by f e 0 (weight_of weight fs) (lookup_entry test fs) (remove_entry test fs) fs refl (weight_of-remove_entry test fs e) (test f.0) q

  promoted_weighs : (test : ℕ → Bool) (es : List (ℕ × V)) (found : Option (ℕ × V)) → lookup_entry test es ≡ found → weight_of weight (option_map_or (λ e. e ∷ remove_entry test es) found es) ≡ weight_of weight es
  promoted_weighs test es None q = refl
  promoted_weighs test es (Some e) q = weight_of-remove_entry test es e q

  -- a use changes no weight
  pub weight_of-promoted : (test : ℕ → Bool) (es : List (ℕ × V)) → weight_of weight (promoted test es) ≡ weight_of weight es
  weight_of-promoted test es = promoted_weighs test es (lookup_entry test es) refl

  fits_by : (room : ℕ) (e : ℕ × V) (es front : List (ℕ × V)) → weight_of weight front ≤ room - weight e.1 → (test : Bool) → nat_le (weight e.1) room ≡ test → weight_of weight (if test then e ∷ front else []) ≤ room
  fits_by room e es front ih true t = grind (arith, nat_tests)
  fits_by room e es front ih false t = omega arith

  -- a light front is within its room
  pub light_front-fits : (room : ℕ) (es : List (ℕ × V)) → weight_of weight (light_front weight room es) ≤ room
  light_front-fits room [] = omega arith
  light_front-fits room (e ∷ es) = fits_by room e es (light_front weight (room - weight e.1) es) (light_front-fits (room - weight e.1) es) (nat_le (weight e.1) room) refl

  no_longer_by : (e : ℕ × V) (es front : List (ℕ × V)) → length front ≤ length es → (test : Bool) → length (if test then e ∷ front else []) ≤ length (e ∷ es)
  no_longer_by e es front ih true = omega (arith, ih)
  no_longer_by e es front ih false = omega arith

  -- and no longer than the list
  pub length-light_front : (room : ℕ) (es : List (ℕ × V)) → length (light_front weight room es) ≤ length es
  length-light_front room [] = omega arith
  length-light_front room (e ∷ es) = no_longer_by e es (light_front weight (room - weight e.1) es) (length-light_front (room - weight e.1) es) (nat_le (weight e.1) room)

  -- what is light enough stays whole
  pub light_front-whole : (room : ℕ) (es : List (ℕ × V)) → weight_of weight es ≤ room → light_front weight room es ≡ es
  light_front-whole room [] h = refl
  light_front-whole room (e ∷ es) h =
      let test : nat_le (weight e.1) room ≡ true = grind (arith, nat_tests) in
      ap (λ t. if t then e ∷ light_front weight (room - weight e.1) es else []) test ∙ ap (λ z. e ∷ z) (light_front-whole (room - weight e.1) es (omega (arith, h)))

  -- what holds of every cache: it is within its bounds, and where there is a limit the weight is kept beside it
  abbrev pub IsKept : LruCache ℕ V → ℕ → Option ℕ → Type 0
  IsKept c total limit = (length c.entries ≤ c.cap) × (0 < c.cap) × IfSome limit (λ most. (total ≡ weight_of weight c.entries) × (total ≤ most))

  weighs_same : (k total : ℕ) (old : LruCache ℕ V) (limit : Option ℕ) → IfSome limit (λ most. (total ≡ weight_of weight old.entries) × (total ≤ most))
      → IfSome limit (λ most. (total ≡ weight_of weight (promoted (nat_eq k) old.entries)) × (total ≤ most))
  weighs_same k total old None w = tt
  weighs_same k total old (Some most) w = (w.0 ∙ sym (weight_of-promoted (nat_eq k) old.entries), w.1)

  -- also after a use
  pub still_within : (k : ℕ) (old new : LruCache ℕ V) (total : ℕ) (limit : Option ℕ) → new ≡ lru_cache (promoted (nat_eq k) old.entries) old.cap → IsKept old total limit → IsKept new total limit
  still_within k old new total limit q w =
      let P : LruCache ℕ V → Type 0 = λ c. IsKept c total limit in
      subst P (sym q) (omega (arith, length-promoted (nat_eq k) old.entries, w.0), w.1, weighs_same k total old limit w.2)

  within_by : (new : LruCache ℕ V) (total : ℕ) (limit : Option ℕ) → IsKept new total limit → IsWithin weight (bounded new.entries new.cap limit)
  within_by new total None w = (w.1, w.0, tt)
  within_by new total (Some most) w = (w.1, w.0, omega (arith, w.2.0, w.2.1))

  -- so that it is within the bounds
  pub used_within : (k : ℕ) (old new : LruCache ℕ V) (total : ℕ) (limit : Option ℕ) → new ≡ lru_cache (promoted (nat_eq k) old.entries) old.cap → IsKept old total limit → IsWithin weight (bounded new.entries new.cap limit)
  used_within k old new total limit q w = within_by new total limit (still_within k old new total limit q w)
