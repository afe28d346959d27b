-- How the last pairs are given up.
use Rattle.bounded_lru.proofs.Common.{ap, arith, Bool, drop, false, if◌then◌else◌, last_entry, length, light_front, List, lru_cache, LruCache, nat_le, nat_tests, None, Option, refl, slice_get, Some}
use Rattle.bounded_lru.proofs.Common.{subst, suc, sym, take, true, weight_of, weight_of_pair, ℕ, [], ◌++◌, ◌+◌, ◌-◌, ◌<◌, ◌∙◌, ◌∷◌, ◌≡◌, ◌≤◌}
use Rattle.bounded_lru.proofs.WeightLemmas.{light_front-whole}

module _ {A : Type 0} where
  abbrev last_of : List A → Option A
  last_of [] = None
  last_of (x ∷ []) = Some x
  last_of (x ∷ y ∷ ys) = last_of (y ∷ ys)

  abbrev without_last : List A → List A
  without_last [] = []
  without_last (x ∷ []) = []
  without_last (x ∷ y ∷ ys) = x ∷ without_last (y ∷ ys)

  last_at : (x : A) (xs : List A) → slice_get (x ∷ xs) (length xs) ≡ last_of (x ∷ xs)
  last_at x [] = refl
  last_at x (y ∷ ys) = last_at y ys

  last_is : (xs : List A) → slice_get xs (length xs - 1) ≡ last_of xs
  last_is [] = refl
  last_is (x ∷ xs) = let e : suc (length xs) - 1 ≡ length xs = omega arith in ap (slice_get (x ∷ xs)) e ∙ last_at x xs

  taken_at : (x : A) (xs : List A) → take (length xs) (x ∷ xs) ≡ without_last (x ∷ xs)
  taken_at x [] = refl
  taken_at x (y ∷ ys) = ap (λ z. x ∷ z) (taken_at y ys)

  without_last_is : (xs : List A) → take (length xs - 1) xs ≡ without_last xs
  without_last_is [] = refl
  without_last_is (x ∷ xs) = let e : suc (length xs) - 1 ≡ length xs = omega arith in ap (λ n. take n (x ∷ xs)) e ∙ taken_at x xs

module _ {V : Type 0} (weight : V → ℕ) where
  shorter_front_by : (room : ℕ) (e : ℕ × V) (es fs : List (ℕ × V)) → room < weight e.1 + weight_of weight es → (room - weight e.1 < weight_of weight es → light_front weight (room - weight e.1) es ≡ light_front weight (room - weight e.1) fs)
      → (test : Bool) → nat_le (weight e.1) room ≡ test → (if test then e ∷ light_front weight (room - weight e.1) es else []) ≡ (if test then e ∷ light_front weight (room - weight e.1) fs else [])
  shorter_front_by room e es fs heavy ih true t = let left : room - weight e.1 < weight_of weight es = grind (arith, nat_tests) in ap (λ z. e ∷ z) (ih left)
  shorter_front_by room e es fs heavy ih false t = refl

  too_heavy : (room : ℕ) (e : ℕ × V) → room < weight e.1 + 0 → light_front weight room (e ∷ []) ≡ []
  too_heavy room e h = let test : nat_le (weight e.1) room ≡ false = grind (arith, nat_tests) in ap (λ t. if t then e ∷ [] else []) test

  -- of a list that is too heavy the last pair is given up
  pub light_front-shorter : (room : ℕ) (es : List (ℕ × V)) → room < weight_of weight es → light_front weight room es ≡ light_front weight room (without_last es)
  light_front-shorter room [] h = absurd (omega (arith, h))
  light_front-shorter room (e ∷ []) h = too_heavy room e h
  light_front-shorter room (e ∷ f ∷ fs) h = shorter_front_by room e (f ∷ fs) (without_last (f ∷ fs)) h (light_front-shorter (room - weight e.1) (f ∷ fs)) (nat_le (weight e.1) room) refl

  -- the last pair weighs what is missing without it
  pub weight_of-last : (es : List (ℕ × V)) → weight_of weight (without_last es) + weight_of_pair weight (last_of es) ≡ weight_of weight es
  weight_of-last [] = refl
  weight_of-last (f ∷ []) = omega arith
  weight_of-last (f ∷ g ∷ gs) = let ih = weight_of-last (g ∷ gs) in omega (arith, ih)

  one_less : (x : ℕ × V) (xs : List (ℕ × V)) → length (without_last (x ∷ xs)) ≡ length xs
  one_less x [] = refl
  one_less x (y ∷ ys) = omega (arith, one_less y ys)

  -- how far the last pairs are given up: what stands in front stays, and the light front of the rest
  pub record Lightened (room : ℕ) (start : LruCache ℕ V) (now : LruCache ℕ V) (weighs : ℕ) : Type 0 where
    pub some : 0 < length now.entries
    pub front : take 1 now.entries ≡ take 1 start.entries
    pub rest : light_front weight room (drop 1 now.entries) ≡ light_front weight room (drop 1 start.entries)
    pub left : weighs ≡ weight_of weight (drop 1 now.entries)
    pub cap : now.cap ≡ start.cap

  shortened_list : (room : ℕ) (start : LruCache ℕ V) (now : List (ℕ × V)) (cap left : ℕ) → Lightened room start (lru_cache now cap) left → room < left
      → (weight_of_pair weight (last_of now) ≤ left) × Lightened room start (lru_cache (without_last now) cap) (left - weight_of_pair weight (last_of now)) × (suc (length (without_last now)) ≡ length now)
  shortened_list room start [] cap left w heavy = absurd (omega (arith, w.some))
  shortened_list room start (h ∷ []) cap left w heavy = absurd (omega (arith, w.left, heavy))
  shortened_list room start (h ∷ x ∷ xs) cap left w heavy =
      let lighter = weight_of-last (x ∷ xs) in
      (omega (arith, lighter, w.left), record { some = omega arith; front = w.front; rest = sym (light_front-shorter room (x ∷ xs) (omega (arith, heavy, w.left))) ∙ w.rest; left = omega (arith, lighter, w.left); cap = w.cap }, omega (arith, one_less x xs))

  -- one more pair is given up: it weighs no more than all that are left
  pub shortened : (room : ℕ) (start now : LruCache ℕ V) (left : ℕ) → Lightened room start now left → room < left
      → (weight_of_pair weight (last_entry now.entries) ≤ left)
      × Lightened room start (lru_cache (take (length now.entries - 1) now.entries) now.cap) (left - weight_of_pair weight (last_entry now.entries)) × (suc (length (take (length now.entries - 1) now.entries)) ≡ length now.entries)
  shortened room start now left w heavy =
      let done = shortened_list room start now.entries now.cap left w heavy in
      let P : List (ℕ × V) → Option (ℕ × V) → Type 0 = λ z l. (weight_of_pair weight l ≤ left) × Lightened room start (lru_cache z now.cap) (left - weight_of_pair weight l) × (suc (length z) ≡ length now.entries) in
      let Q : List (ℕ × V) → Type 0 = λ z. P z (last_of now.entries) in
      let R : Option (ℕ × V) → Type 0 = λ l. P (take (length now.entries - 1) now.entries) l in
      subst R (sym (last_is now.entries)) (subst Q (sym (without_last_is now.entries)) done)

  whole_list : (room : ℕ) (start : LruCache ℕ V) (now : List (ℕ × V)) (cap left : ℕ) → Lightened room start (lru_cache now cap) left → left ≤ room
      → lru_cache now cap ≡ lru_cache (take 1 start.entries ++ light_front weight room (drop 1 start.entries)) start.cap
  whole_list room start [] cap left w light = absurd (omega (arith, w.some))
  whole_list room start (h ∷ xs) cap left w light =
      let whole = sym (light_front-whole weight room xs (omega (arith, w.left, light))) ∙ w.rest in
      let front : h ∷ [] ≡ take 1 start.entries = w.front in
      let list : h ∷ xs ≡ take 1 start.entries ++ light_front weight room (drop 1 start.entries) = ap (λ z. h ∷ z) whole ∙ ap (λ z. z ++ light_front weight room (drop 1 start.entries)) front in
      ap (λ z. lru_cache z cap) list ∙ ap (λ n. lru_cache (take 1 start.entries ++ light_front weight room (drop 1 start.entries)) n) w.cap

  -- at the end the light front is left
  pub lightened : (room : ℕ) (start now : LruCache ℕ V) (left : ℕ) → Lightened room start now left → left ≤ room
      → (now ≡ lru_cache (take 1 start.entries ++ light_front weight room (drop 1 start.entries)) start.cap) × (left ≡ weight_of weight (light_front weight room (drop 1 start.entries)))
  lightened room start now left w light =
      (whole_list room start now.entries now.cap left w light, w.left ∙ ap (weight_of weight) (sym (light_front-whole weight room (drop 1 now.entries) (omega (arith, w.left, light))) ∙ w.rest))
