-- The runs of a block that is one longer.
use Rattle.pm_writer.proofs.Common.{ap, arith, Bool, Entry, entry, false, grows, inl, inr, List, nat_eq, nat_le, nat_lt, nat_tests, put, refl, runs, subst, suc, sym, true, zero, ℕ, [], ◌*◌, ◌++◌, ◌+◌}
use Rattle.pm_writer.proofs.Common.{◌-◌, ◌<◌, ◌∙◌, ◌∷◌, ◌≡◌, ◌≢◌, ◌≤◌, ◌⊎◌}

pub le_or : (m n : ℕ) → (m ≤ n) ⊎ (n < m)
le_or m n = grind arith

pub eq_or : (m n : ℕ) → (m ≡ n) ⊎ (m ≢ n)
eq_or m n = grind arith

-- the three cases of a block's runs
pub runs_none : (limit n offset len id : ℕ) → runs limit n offset len id 0 ≡ []
runs_none limit zero offset len id = refl
runs_none limit (suc n) offset len id = refl

pub runs_short : (limit n offset len id count : ℕ) → 0 < count → count ≤ limit → runs limit (suc n) offset len id count ≡ entry id offset len count ∷ []
runs_short limit n offset len id count pos h =
    let a : nat_eq count 0 ≡ false = grind (arith, nat_tests) in
    let b : nat_le count limit ≡ true = grind (arith, nat_tests) in
    rw (a, b) refl

pub runs_long : (limit n offset len id count : ℕ) → limit < count → runs limit (suc n) offset len id count ≡ entry id offset len limit ∷ runs limit n offset len (id + limit) (count - limit)
runs_long limit n offset len id count h =
    let a : nat_eq count 0 ≡ false = grind (arith, nat_tests) in
    let b : nat_le count limit ≡ false = grind (arith, nat_tests) in
    rw (a, b) refl

-- what grows and what doesn't
pub grows_yes : (limit id offset : ℕ) (e : Entry) → e.offset ≡ offset → e.tile_id + e.run_length ≡ id → e.run_length < limit → grows limit id offset e ≡ true
grows_yes limit id offset e a b c =
    let p : nat_eq e.offset offset ≡ true = grind (arith, nat_tests) in
    let q : nat_eq (e.tile_id + e.run_length) id ≡ true = grind (arith, nat_tests) in
    let r : nat_lt e.run_length limit ≡ true = grind (arith, nat_tests) in
    rw (p, q, r) refl

pub grows_full : (limit id offset : ℕ) (e : Entry) → limit ≤ e.run_length → grows limit id offset e ≡ false
grows_full limit id offset e c = grind (arith, nat_tests)

pub grows_no : (limit id offset : ℕ) (e : Entry) → (e.offset ≡ offset → e.tile_id + e.run_length ≡ id → ⊥) → grows limit id offset e ≡ false
grows_no limit id offset e differ = go (nat_eq e.offset offset) (nat_eq (e.tile_id + e.run_length) id) refl refl
  where
    go : (a b : Bool) → nat_eq e.offset offset ≡ a → nat_eq (e.tile_id + e.run_length) id ≡ b → grows limit id offset e ≡ false
    go false b p q = rw p refl
    go true false p q = rw (p, q) refl
    go true true p q = absurd (differ (grind (arith, nat_tests)) (grind (arith, nat_tests)))

-- the last entry alone counts
pub put_behind : (limit id offset len : ℕ) (e : Entry) (es : List Entry) → es ≢ [] → put limit id offset len (e ∷ es) ≡ e ∷ put limit id offset len es
put_behind limit id offset len e [] h = absurd (h refl)
put_behind limit id offset len e (f ∷ es) h = refl

pub put_append : (limit id offset len : ℕ) (es fs : List Entry) → fs ≢ [] → put limit id offset len (es ++ fs) ≡ es ++ put limit id offset len fs
put_append limit id offset len [] fs h = refl
put_append limit id offset len (e ∷ es) fs h = put_behind limit id offset len e (es ++ fs) (some es fs h) ∙ ap (λ t. e ∷ t) (put_append limit id offset len es fs h)
  where
    some : (es fs : List Entry) → fs ≢ [] → es ++ fs ≢ []
    some [] fs h = h
    some (e ∷ es) fs h = λ q. cc

pub runs_some : (limit n offset len id count : ℕ) → 0 < count → count ≤ n * limit → runs limit n offset len id count ≢ []
runs_some limit zero offset len id count pos fits = absurd (omega (arith, pos, fits))
runs_some limit (suc n) offset len id count pos fits =
    elim (le_or count limit) [
      | inl h ↦ rw (runs_short limit n offset len id count pos h) (λ q. cc)
      | inr h ↦ rw (runs_long limit n offset len id count h) (λ q. cc)
    ]

-- a block that is one longer
pub runs_more : (limit n m offset len id count : ℕ) → 0 < limit → 0 < count → count ≤ n * limit → count + 1 ≤ m * limit
    → runs limit m offset len id (count + 1) ≡ put limit (id + count) offset len (runs limit n offset len id count)
runs_more limit zero m offset len id count some pos fits more = absurd (omega (arith, pos, fits))
runs_more limit (suc n) zero offset len id count some pos fits more = absurd (omega (arith, more))
runs_more limit (suc n) (suc m) offset len id count some pos fits more =
    elim (le_or count limit) [
      | inl h ↦ elim (le_or (count + 1) limit) [
        | inl g ↦
            let y = grows_yes limit (id + count) offset (entry id offset len count) refl refl (omega (arith, g)) in
            rw (runs_short limit m offset len id (count + 1) (omega arith) g, runs_short limit n offset len id count pos h, y) refl
        | inr g ↦ full limit n m offset len id count some pos more h g
      ]
      | inr h ↦
          let less : count + 1 - limit ≡ count - limit + 1 = omega (arith, h) in
          let there : id + limit + (count - limit) ≡ id + count = omega (arith, h) in
          let rest = runs limit n offset len (id + limit) (count - limit) in
          let again : runs limit m offset len (id + limit) (count - limit + 1) ≡ put limit (id + count) offset len rest =
          subst (λ k. runs limit m offset len (id + limit) (count - limit + 1) ≡ put limit k offset len rest) there (runs_more limit n m offset len (id + limit) (count - limit) some (omega (arith, h)) (omega (arith, h, fits)) (omega (arith, h, more))) in
          runs_long limit m offset len id (count + 1) (omega (arith, h))
          ∙ (ap (λ k. entry id offset len limit ∷ runs limit m offset len (id + limit) k) less
          ∙ (ap (λ t. entry id offset len limit ∷ t) again
          ∙ (sym (put_behind limit (id + count) offset len (entry id offset len limit) rest (runs_some limit n offset len (id + limit) (count - limit) (omega (arith, h)) (omega (arith, h, fits))))
          ∙ ap (put limit (id + count) offset len) (sym (runs_long limit n offset len id count h)))))
    ]
  where
    full : (limit n m offset len id count : ℕ) → 0 < limit → 0 < count → count + 1 ≤ suc m * limit → count ≤ limit → limit < count + 1 → runs limit (suc m) offset len id (count + 1) ≡ put limit (id + count) offset len (runs limit (suc n) offset len id count)
    full limit n zero offset len id count some pos more h g = absurd (omega (arith, more, h, g))
    full limit n (suc m) offset len id count some pos more h g =
        let same : count ≡ limit = omega (arith, g, h) in
        let one : count + 1 - limit ≡ 1 = omega (arith, same) in
        let stays = grows_full limit (id + count) offset (entry id offset len count) (omega (arith, same)) in
        rw (runs_short limit n offset len id count pos h, stays, runs_long limit (suc m) offset len id (count + 1) g, one, runs_short limit m offset len (id + limit) 1 (omega arith) (omega (arith, some)), same) refl

-- another entry than the next one of the block
pub runs_other : (limit n offset len id count : ℕ) (at place size : ℕ) → 0 < count → count ≤ n * limit → (offset ≡ place → id + count ≡ at → ⊥)
    → put limit at place size (runs limit n offset len id count) ≡ runs limit n offset len id count ++ entry at place size 1 ∷ []
runs_other limit zero offset len id count at place size pos fits differ = absurd (omega (arith, pos, fits))
runs_other limit (suc n) offset len id count at place size pos fits differ =
    elim (le_or count limit) [
      | inl h ↦
          let stays = grows_no limit at place (entry id offset len count) differ in
          rw (runs_short limit n offset len id count pos h, stays) refl
      | inr h ↦
          let there : id + limit + (count - limit) ≡ id + count = omega (arith, h) in
          let rest = runs limit n offset len (id + limit) (count - limit) in
          let again = runs_other limit n offset len (id + limit) (count - limit) at place size (omega (arith, h)) (omega (arith, h, fits)) (λ a b. differ a (sym there ∙ b)) in
          rw (runs_long limit n offset len id count h) (put_behind limit at place size (entry id offset len limit) rest (runs_some limit n offset len (id + limit) (count - limit) (omega (arith, h)) (omega (arith, h, fits))) ∙ ap (λ t. entry id offset len limit ∷ t) again)
    ]
