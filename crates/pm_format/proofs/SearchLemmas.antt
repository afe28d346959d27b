-- A search by halves.
use Rattle.pm_format.proofs.Common.{ap, arith, Bool, covers, Entry, false, get_or, IdsDontFall, inl, inr, IsTrue, last_below, length, List, max, mul-le-mul_left, nat_le, nat_tests, None, Option}
use Rattle.pm_format.proofs.Common.{Parts, pow-succ', refl, scan, Some, suc, true, zero, ℕ, [], ◌*◌, ◌+◌, ◌-◌, ◌/◌, ◌<◌, ◌>>=◌, ◌^◌, ◌↔◌, ◌∙◌, ◌∷◌, ◌≡◌, ◌≤◌, ◌⊎◌}

pub record Searching (es : List Entry) (t low high first steps : ℕ) : Type 0 where
  pub order : low ≤ high
  pub within : high ≤ length es
  pub below : (k : ℕ) (d : Entry) → k < low → (get_or es k d).tile_id ≤ t
  pub above : (k : ℕ) (d : Entry) → high ≤ k → k < length es → t < (get_or es k d).tile_id
  pub later : first ≤ steps
  pub cost : 2 ^ (steps - first) * max (2 * (high - low)) 1 ≤ 2 * length es + 1

twice : (p r s : ℕ) (n : ℕ) → 0 < r → 2 * s ≤ r → p * max (2 * r) 1 ≤ n → 2 * p * max (2 * s) 1 ≤ n
twice p r s n pos half h =
    let m : 2 * max (2 * s) 1 ≤ max (2 * r) 1 = omega arith in
    let g = mul-le-mul_left p m in
    let e : 2 * p * max (2 * s) 1 ≡ p * (2 * max (2 * s) 1) = omega arith in
    omega (arith, g, e, h)

one_step : (first steps : ℕ) → first ≤ steps → 2 ^ (steps + 1 - first) ≡ 2 * 2 ^ (steps - first)
one_step first steps h = let e : steps + 1 - first ≡ suc (steps - first) = omega arith in ap (λ k. 2 ^ k) e ∙ pow-succ' 2 (steps - first)

pub cost_step : (first steps r s n : ℕ) → first ≤ steps → 0 < r → 2 * s ≤ r → 2 ^ (steps - first) * max (2 * r) 1 ≤ n → 2 ^ (steps + 1 - first) * max (2 * s) 1 ≤ n
cost_step first steps r s n l pos half h = rw (one_step first steps l) (twice (2 ^ (steps - first)) r s n pos half h)

get_or_any : {A : Type 0} (xs : List A) (k : ℕ) (d e : A) → k < length xs → get_or xs k d ≡ get_or xs k e
get_or_any [] k d e h = absurd (omega arith)
get_or_any (x ∷ xs) zero d e h = refl
get_or_any (x ∷ xs) (suc k) d e h = get_or_any xs k d e (omega (arith, h))

pub go_right : (es : List Entry) (t low high first steps middle : ℕ) (d : Entry) → IdsDontFall es → low < high → middle ≡ low + (high - low) / 2 → (get_or es middle d).tile_id ≤ t
    → Searching es t low high first steps → Searching es t (middle + 1) high first (steps + 1)
go_right es t low high first steps middle d r h m le s =
    record {
      order = omega (arith, m, h);
      within = s.within;
      below = λ k e q. let o = r k middle e (omega arith) (omega (arith, m, h, s.within)) in let same = get_or_any es middle e d (omega (arith, m, h, s.within)) in omega (arith, o, le, ap (λ x. x.tile_id) same);
      above = s.above;
      later = omega (arith, s.later);
      cost = cost_step first steps (high - low) (high - (middle + 1)) (2 * length es + 1) s.later (omega arith) (omega (arith, m, h)) s.cost;
    }

pub go_left : (es : List Entry) (t low high first steps middle : ℕ) (d : Entry) → IdsDontFall es → low < high → middle ≡ low + (high - low) / 2 → t < (get_or es middle d).tile_id
    → Searching es t low high first steps → Searching es t low middle first (steps + 1)
go_left es t low high first steps middle d r h m le s =
    record {
      order = omega (arith, m, h);
      within = omega (arith, m, h, s.within);
      below = s.below;
      above = λ k e q w. let o = r middle k e q w in let same = get_or_any es middle e d (omega (arith, m, h, s.within)) in omega (arith, o, le, ap (λ x. x.tile_id) same);
      later = omega (arith, s.later);
      cost = cost_step first steps (high - low) (middle - low) (2 * length es + 1) s.later (omega arith) (omega (arith, m, h)) s.cost;
    }

-- the entry before a place, or what was found before the list
abbrev before : Option Entry → List Entry → ℕ → Option Entry
before found [] n = found
before found (e ∷ es) zero = found
before found (e ∷ es) (suc n) = before (Some e) es n

last_is : (t : ℕ) (found : Option Entry) (es : List Entry) (n : ℕ) → Parts es t n → last_below t found es ≡ before found es n
last_is t found [] n p = refl
last_is t found (e ∷ es) zero p =
    let no : nat_le e.tile_id t ≡ false = let g = p.above 0 e (omega arith) (omega arith) in grind (arith, nat_tests) in
    rw no (last_is t found es zero (record { within = omega arith; below = λ k d q. absurd (omega arith); above = λ k d q w. p.above (suc k) d (omega arith) (omega arith) }) ∙ nothing_before found es)
  where
    nothing_before : (found : Option Entry) (es : List Entry) → before found es zero ≡ found
    nothing_before found [] = refl
    nothing_before found (e ∷ es) = refl
last_is t found (e ∷ es) (suc n) p =
    let yes : nat_le e.tile_id t ≡ true = let g = p.below 0 e (omega arith) in grind (arith, nat_tests) in
    rw yes (last_is t (Some e) es n (record { within = omega (arith, p.within); below = λ k d q. p.below (suc k) d (omega arith); above = λ k d q w. p.above (suc k) d (omega arith) (omega arith) }))

before_at : (found : Option Entry) (es : List Entry) (n : ℕ) (d : Entry) → n < length es → before found es (suc n) ≡ Some (get_or es n d)
before_at found [] n d h = absurd (omega arith)
before_at found (e ∷ []) zero d h = refl
before_at found (e ∷ f ∷ es) zero d h = refl
before_at found (e ∷ es) (suc n) d h = before_at (Some e) es n d (omega (arith, h))

pub scan_none : (es : List Entry) (t : ℕ) → Parts es t 0 → scan es t ≡ None
unfolding scan
scan_none es t p = ap (λ x. x >>= covers t) (last_is t None es 0 p ∙ go es)
  where
    go : (es : List Entry) → before None es zero ≡ None
    go [] = refl
    go (e ∷ es) = refl

pub scan_at : (es : List Entry) (t n : ℕ) (d : Entry) → n < length es → Parts es t (suc n) → scan es t ≡ covers t (get_or es n d)
unfolding scan
scan_at es t n d h p = ap (λ x. x >>= covers t) (last_is t None es (suc n) p ∙ before_at None es n d h)

pub le_or : (m n : ℕ) → (m ≤ n) ⊎ (n < m)
le_or m n = grind arith

pub not_yet : (b : Bool) (m n : ℕ) → (IsTrue b ↔ (m ≤ n)) → b ≡ false → n < m
not_yet b m n v e = elim (le_or m n) [ inl h ↦ let t : b ≡ true = v.1 h in absurd (cc) | inr h ↦ h ]
