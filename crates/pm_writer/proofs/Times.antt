-- How often an id is covered.
use Rattle.pm_writer.proofs.Common.{adds_at, ap, arith, Block, blocks, Bool, bytes_eq, covering, entries_at, Entry, entry, false, flat_map, if◌then◌else◌, inl, inr, length, List, lit<, longest_run}
use Rattle.pm_writer.proofs.Common.{nat_eq, nat_le, nat_lt, nat_tests, onto, refl, runs, subst, suc, sum_by, sum_by-append, sum_by-cons, sym, times, true, unsorted, zero, ℕ, [], ◌&&◌, ◌*◌, ◌+◌, ◌-◌}
use Rattle.pm_writer.proofs.Common.{◌/◌, ◌<◌, ◌∙◌, ◌∷◌, ◌≡◌, ◌≤◌}
use Rattle.pm_writer.proofs.Runs.{le_or, runs_none, runs_short, runs_long}
use Rattle.pm_writer.proofs.Blocks.{single, longer, enough}

pub covering_yes : (t : ℕ) (e : Entry) → e.tile_id ≤ t → t < e.tile_id + e.run_length → covering t e ≡ 1
covering_yes t e a b = grind (arith, nat_tests)

pub covering_low : (t : ℕ) (e : Entry) → t < e.tile_id → covering t e ≡ 0
covering_low t e a = grind (arith, nat_tests)

pub covering_high : (t : ℕ) (e : Entry) → e.tile_id + e.run_length ≤ t → covering t e ≡ 0
covering_high t e a = grind (arith, nat_tests)

pub times_cons : (t : ℕ) (e : Entry) (es : List Entry) → times (e ∷ es) t ≡ covering t e + times es t
times_cons t e es = sum_by-cons (covering t) e es

-- in a stretch of ids: once within, never without
pub record Once (es : List Entry) (low high : ℕ) : Type 0 where
  pub here : (t : ℕ) → low ≤ t → t < high → times es t ≡ 1
  pub below : (t : ℕ) → t < low → times es t ≡ 0
  pub above : (t : ℕ) → high ≤ t → times es t ≡ 0

pub runs_once : (limit n offset len id count : ℕ) → count ≤ n * limit → Once (runs limit n offset len id count) id (id + count)
runs_once limit zero offset len id count fits =
    record { here = λ t a b. absurd (omega (arith, a, b, fits)); below = λ t a. refl; above = λ t a. refl }
runs_once limit (suc n) offset len id count fits =
    elim (le_or count 0) [
      | inl z ↦
          let none : runs limit (suc n) offset len id count ≡ [] = (let zero_is : count ≡ 0 = omega (arith, z) in ap (runs limit (suc n) offset len id) zero_is ∙ runs_none limit (suc n) offset len id) in
          let P : List Entry → Type 0 = λ z. Once z id (id + count) in
          subst P (sym none) (record { here = λ t a b. absurd (omega (arith, a, b, z)); below = λ t a. refl; above = λ t a. refl })
      | inr pos ↦ elim (le_or count limit) [
        | inl h ↦
            let P : List Entry → Type 0 = λ z. Once z id (id + count) in
            subst P (sym (runs_short limit n offset len id count pos h)) (record {
              here = λ t a b. let c = covering_yes t (entry id offset len count) a b in omega (arith, c);
              below = λ t a. let c = covering_low t (entry id offset len count) a in omega (arith, c);
              above = λ t a. let c = covering_high t (entry id offset len count) a in omega (arith, c);
            })
        | inr h ↦
            let P : List Entry → Type 0 = λ z. Once z id (id + count) in
            let again = runs_once limit n offset len (id + limit) (count - limit) (omega (arith, h, fits)) in
            subst P (sym (runs_long limit n offset len id count h)) (record {
              here = λ t a b. elim (le_or (id + limit) t) [
                | inl late ↦ let c = covering_high t (entry id offset len limit) late in omega (arith, c, times_cons t (entry id offset len limit) (runs limit n offset len (id + limit) (count - limit)), again.here t late (omega (arith, b, h)))
                | inr early ↦ let c = covering_yes t (entry id offset len limit) a early in omega (arith, c, times_cons t (entry id offset len limit) (runs limit n offset len (id + limit) (count - limit)), again.below t early)
              ];
              below = λ t a. let c = covering_low t (entry id offset len limit) a in omega (arith, c, times_cons t (entry id offset len limit) (runs limit n offset len (id + limit) (count - limit)), again.below t (omega (arith, a)));
              above = λ t a. let c = covering_high t (entry id offset len limit) (omega (arith, a, h)) in omega (arith, c, times_cons t (entry id offset len limit) (runs limit n offset len (id + limit) (count - limit)), again.above t (omega (arith, a, h)));
            })
      ]
    ]

-- how many blocks hold an id
abbrev pub holding : ℕ → Block → ℕ
holding t b = if nat_le b.first t && nat_lt t (b.first + b.count) then 1 else 0

holding_is : (place : List ℕ → ℕ) (t : ℕ) (b : Block) → times (entries_at place b) t ≡ holding t b
holding_is place t b =
    let o = runs_once longest_run (b.count / longest_run + 1) (place b.bytes) (length b.bytes) b.first b.count (enough b.count longest_run (lit< tt)) in
    elim (le_or b.first t) [
      | inl h ↦ elim (le_or (b.first + b.count) t) [
        | inl g ↦ o.above t g ∙ sym (let q : holding t b ≡ 0 = grind (arith, nat_tests) in q)
        | inr g ↦ o.here t h g ∙ sym (let q : holding t b ≡ 1 = grind (arith, nat_tests) in q)
      ]
      | inr h ↦ o.below t h ∙ sym (let q : holding t b ≡ 0 = grind (arith, nat_tests) in q)
    ]

times_blocks : (place : List ℕ → ℕ) (t : ℕ) (bs : List Block) → times (flat_map (entries_at place) bs) t ≡ sum_by (holding t) bs
times_blocks place t [] = refl
times_blocks place t (b ∷ bs) =
    sum_by-append (covering t) (entries_at place b) (flat_map (entries_at place) bs)
    ∙ omega (arith, holding_is place t b, times_blocks place t bs, sum_by-cons (holding t) b bs)

holding_onto : (t : ℕ) (a : ℕ × List ℕ) (bs : List Block) → sum_by (holding t) (onto a bs) ≡ (if nat_eq a.0 t then 1 else 0) + sum_by (holding t) bs
holding_onto t a [] = let q : holding t (single a) ≡ (if nat_eq a.0 t then 1 else 0) = one in omega (arith, q)
  where
    one : holding t (single a) ≡ (if nat_eq a.0 t then 1 else 0)
    one = grind (arith, nat_tests)
holding_onto t a (b ∷ bs) = go (nat_eq (a.0 + 1) b.first) (bytes_eq a.1 b.bytes) refl refl
  where
    one : holding t (single a) ≡ (if nat_eq a.0 t then 1 else 0)
    one = grind (arith, nat_tests)

    more : a.0 + 1 ≡ b.first → holding t (longer a b) ≡ (if nat_eq a.0 t then 1 else 0) + holding t b
    more e = grind (arith, nat_tests)

    go : (p q : Bool) → nat_eq (a.0 + 1) b.first ≡ p → bytes_eq a.1 b.bytes ≡ q → sum_by (holding t) (onto a (b ∷ bs)) ≡ (if nat_eq a.0 t then 1 else 0) + sum_by (holding t) (b ∷ bs)
    go true true e f =
        let m = more (grind (arith, nat_tests)) in
        let o : onto a (b ∷ bs) ≡ longer a b ∷ bs = rw (e, f) refl in
        ap (sum_by (holding t)) o ∙ omega (arith, m, sum_by-cons (holding t) b bs, sum_by-cons (holding t) (longer a b) bs)
    go true false e f = let o : onto a (b ∷ bs) ≡ single a ∷ b ∷ bs = rw (e, f) refl in ap (sum_by (holding t)) o ∙ omega (arith, one, sum_by-cons (holding t) (single a) (b ∷ bs))
    go false q e f = let o : onto a (b ∷ bs) ≡ single a ∷ b ∷ bs = rw e refl in ap (sum_by (holding t)) o ∙ omega (arith, one, sum_by-cons (holding t) (single a) (b ∷ bs))

held : (t : ℕ) (adds : List (ℕ × List ℕ)) → sum_by (holding t) (blocks adds) ≡ adds_at adds t
held t [] = refl
held t (a ∷ adds) = holding_onto t a (blocks adds) ∙ omega (arith, held t adds, sum_by-cons (λ a. if nat_eq a.0 t then 1 else 0) a adds)

-- as many entries cover an id as adds are at it
pub times_adds : (place : List ℕ → ℕ) (adds : List (ℕ × List ℕ)) (t : ℕ) → times (unsorted place adds) t ≡ adds_at adds t
times_adds place adds t = times_blocks place t (blocks adds) ∙ held t adds
