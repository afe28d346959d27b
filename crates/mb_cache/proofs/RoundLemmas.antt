-- Rounds of a purge to a size, one after another.
use Rattle.mb_cache.proofs.Common.{ap, append_assoc, arith, Bool, Cell, cond, drop, drop-drop, drop-take, drop_all, Entry, entry_cmp, entry_of, eq_by_cmp, Err, false, filter, filter_every, going}
use Rattle.mb_cache.proofs.Common.{has_entry, le-ltb, leb-false, leb-true, length, length-append, length-drop, length-take, List, list_any-append, live_size_of, lt-ltb, nat_le, not, Ok, OnErr}
use Rattle.mb_cache.proofs.Common.{oversize, refl, Result, same_table, SomeRounds, subst, suc, sym, table_eq, TableName, Tables, take, take-append-drop, take-append-le, take-take, take_all, TileCache}
use Rattle.mb_cache.proofs.Common.{true, with_passed, without, WithoutRounds, zero, ℕ, [], ◌&&◌, ◌*◌, ◌++◌, ◌+◌, ◌<◌, ◌||◌, ◌∙◌, ◌∷◌, ◌≡◌, ◌≤◌}

-- what passes one test and then another one passes both
filter_both : {X : Type 0} (p q r : X → Bool) (xs : List X) → ((x : X) → r x ≡ (q x && p x)) → filter p (filter q xs) ≡ filter r xs
filter_both p q r [] h = refl
filter_both p q r (x ∷ xs) h = by (q x) refl (p x) refl (filter_both p q r xs h)
  where
    by : (a : Bool) → q x ≡ a → (b : Bool) → p x ≡ b → filter p (filter q xs) ≡ filter r xs → filter p (cond (q x) (x ∷ filter q xs) (filter q xs)) ≡ cond (r x) (x ∷ filter r xs) (filter r xs)
    by true e true f next = rw (h x, e, f) (ap (λ ys. x ∷ ys) next)
    by true e false f next = rw (h x, e, f) next
    by false e b f next = rw (h x, e) next

passed_twice : (p q r : List Cell → Bool) (t : Tables) → ((row : List Cell) → r row ≡ (q row && p row)) → with_passed p (with_passed q t) ≡ with_passed r t
passed_twice p q r t h = λ i. record { descriptions = t.descriptions; rows = λ table. each table i }
  where
    once : {X : Type 0} (b : Bool) (x y z : X) → cond b x (cond b y z) ≡ cond b x z
    once true x y z = refl
    once false x y z = refl

    each : (table : TableName) → cond (table_eq table TileCache) (filter p (filter q (t.rows TileCache))) (cond (table_eq table TileCache) (filter q (t.rows TileCache)) (t.rows table)) ≡ cond (table_eq table TileCache) (filter r (t.rows TileCache)) (t.rows table)
    each table = once (table_eq table TileCache) _ _ _ ∙ ap (λ rows. cond (table_eq table TileCache) rows (t.rows table)) (filter_both p q r (t.rows TileCache) h)

-- entries that go after others
pub without_both : (xs ys : List Entry) (t : Tables) → without ys (without xs t) ≡ without (xs ++ ys) t
without_both xs ys t = passed_twice (λ row. not (has_entry ys (entry_of row))) (λ row. not (has_entry xs (entry_of row))) (λ row. not (has_entry (xs ++ ys) (entry_of row))) t (λ row. ap not (list_any-append (eq_by_cmp entry_cmp (entry_of row)) xs ys) ∙ neither (has_entry xs (entry_of row)) (has_entry ys (entry_of row)))
  where
    neither : (a b : Bool) → not (a || b) ≡ (not a && not b)
    neither true b = refl
    neither false b = refl

pub without_none : (t : Tables) → without [] t ≡ t
without_none t = λ i. record { descriptions = t.descriptions; rows = λ table. each table i }
  where
    passed : List (List Cell)
    passed = filter (λ row. not (has_entry [] (entry_of row))) (t.rows TileCache)

    each : (table : TableName) → cond (table_eq table TileCache) passed (t.rows table) ≡ t.rows table
    each table = by (table_eq table TileCache) refl
      where
        by : (b : Bool) → table_eq table TileCache ≡ b → cond (table_eq table TileCache) passed (t.rows table) ≡ t.rows table
        by true e = ap (λ b. cond b passed (t.rows table)) e ∙ (filter_every (λ row. not (has_entry [] (entry_of row))) (t.rows TileCache) (λ k d far. refl) ∙ sym (ap t.rows (same_table table TileCache e)))
        by false e = ap (λ b. cond b passed (t.rows table)) e

-- what is left of a round goes
going_on : (most left : ℕ) (es : List Entry) (t : Tables) → going most left es t ≡ take left es ++ going most 0 (drop left es) (without (take left es) t)
unfolding going
going_on most zero es t = ap (going most 0 es) (sym (without_none t))
going_on most (suc left) [] t = refl
going_on most (suc left) (e ∷ es) t = ap (λ rest. e ∷ rest) (going_on most left es (without (e ∷ []) t) ∙ ap (λ u. take left es ++ going most 0 (drop left es) u) (without_both (e ∷ []) (take left es) t))

-- a whole round goes where the live size is above the number
going_round : (most : ℕ) (es : List Entry) (t : Tables) → most < live_size_of t → going most 0 es t ≡ take 64 es ++ going most 0 (drop 64 es) (without (take 64 es) t)
unfolding going
going_round most [] t above = refl
going_round most (e ∷ es) t above =
    ap (λ b. cond b (e ∷ going most 63 es (without (e ∷ []) t)) []) (lt-ltb most (live_size_of t) above)
    ∙ ap (λ rest. e ∷ rest) (going_on most 63 es (without (e ∷ []) t) ∙ ap (λ u. take 63 es ++ going most 0 (drop 63 es) u) (without_both (e ∷ []) (take 63 es) t))

-- no more goes where it isn't, and where no entry is left
pub going_stops : (most : ℕ) (es : List Entry) (t : Tables) → live_size_of t ≤ most → going most 0 es t ≡ []
unfolding going
going_stops most [] t below = refl
going_stops most (e ∷ es) t below = ap (λ b. cond b (e ∷ going most 63 es (without (e ∷ []) t)) []) (le-ltb most (live_size_of t) below)

pub going_ends : (most : ℕ) (es : List Entry) (t : Tables) → length es ≡ 0 → going most 0 es t ≡ []
unfolding going
going_ends most [] t none = refl
going_ends most (e ∷ es) t none = absurd (omega (arith, none))

append_none : {X : Type 0} (xs ys : List X) → ys ≡ [] → xs ++ ys ≡ xs
append_none [] ys none = none
append_none (x ∷ xs) ys none = ap (λ zs. x ∷ zs) (append_none xs ys none)

-- a round that is full, or has all
pub round_full : (xs rest all : List Entry) (n : ℕ) → xs ++ rest ≡ all → n ≤ length xs → length xs ≤ n → xs ≡ take n all
round_full xs rest all n whole most least = sym (take_all n xs least) ∙ (sym (take-append-le n xs rest most) ∙ ap (take n) whole)

pub round_last : (xs rest all : List Entry) (n : ℕ) → xs ++ rest ≡ all → rest ≡ [] → length xs ≤ n → xs ≡ take n all
round_last xs rest all n whole none least = sym (take_all n xs least) ∙ ap (take n) (sym (append_none xs rest none) ∙ whole)

-- a round is as long as it is
pub take_round : {X : Type 0} (n : ℕ) (xs : List X) → take (length (take n xs)) xs ≡ take n xs
take_round (suc n) (x ∷ xs) = ap (λ ys. x ∷ ys) (take_round n xs)
take_round _ _ = refl

pub drop_round : {X : Type 0} (n : ℕ) (xs : List X) → drop (length (take n xs)) xs ≡ drop n xs
drop_round (suc n) (x ∷ xs) = drop_round n xs
drop_round _ _ = refl

take_add : {X : Type 0} (n m : ℕ) (xs : List X) → take (n + m) xs ≡ take n xs ++ take m (drop n xs)
take_add n m xs = sym (take-append-drop n (take (n + m) xs)) ∙ (ap (λ ys. ys ++ drop n (take (n + m) xs)) (take-take n (n + m) xs (omega arith)) ∙ ap (λ ys. take n xs ++ ys) (drop-take n m xs))

-- the rounds that were made: what went, what is left, and what is still to go
pub record Rounds (most : ℕ) (es fs : List Entry) (t u : Tables) : Type 0 where
  pub count : ℕ
  pub entries : fs ≡ drop (64 * count) es
  pub tables : u ≡ without (take (64 * count) es) t
  pub going : oversize most es t ≡ take (64 * count) es ++ oversize most fs u

pub rounds_none : (most : ℕ) (es : List Entry) (t : Tables) → Rounds most es es t t
rounds_none most es t = record { count = 0; entries = refl; tables = sym (without_none t); going = refl }

pub rounds_next : (most : ℕ) (es fs gs : List Entry) (t u v : Tables) → Rounds most es fs t u → most < live_size_of u → gs ≡ drop 64 fs → v ≡ without (take 64 fs) u → Rounds most es gs t v
rounds_next most es fs gs t u v made above left gone =
    let n = 64 * made.count in
    let more : 64 * (made.count + 1) ≡ n + 64 = omega arith in
    let taken : take (64 * (made.count + 1)) es ≡ take n es ++ take 64 fs = ap (λ k. take k es) more ∙ (take_add n 64 es ∙ ap (λ xs. take n es ++ take 64 xs) (sym made.entries)) in
    record {
      count = made.count + 1;
      entries = left ∙ (ap (drop 64) made.entries ∙ (drop-drop 64 n es ∙ ap (λ k. drop k es) (sym more)));
      tables = gone ∙ (ap (without (take 64 fs)) made.tables ∙ (without_both (take n es) (take 64 fs) t ∙ ap (λ xs. without xs t) (sym taken)));
      going = made.going
          ∙ (ap (λ rest. take n es ++ rest) (going_round most fs u above ∙ (ap (λ xs. take 64 fs ++ oversize most xs (without (take 64 fs) u)) (sym left) ∙ ap (λ w. take 64 fs ++ oversize most gs w) (sym gone)))
          ∙ (sym (append_assoc (take n es) (take 64 fs) (oversize most gs v)) ∙ ap (λ xs. xs ++ oversize most gs v) (sym taken)));
    }

-- where no more is to go, all went that had to
module _ (most : ℕ) (es fs : List Entry) (t u : Tables) (made : Rounds most es fs t u) (none : oversize most fs u ≡ []) where
  all_gone : oversize most es t ≡ take (64 * made.count) es
  all_gone = made.going ∙ append_none (take (64 * made.count) es) (oversize most fs u) none

  pub rounds_all : u ≡ without (oversize most es t) t
  rounds_all = made.tables ∙ ap (λ xs. without xs t) (sym all_gone)

  pub rounds_count : length fs + length (oversize most es t) ≡ length es
  rounds_count =
      let n = 64 * made.count in
      let whole : length (take n es ++ drop n es) ≡ length es = ap length (take-append-drop n es) in
      omega (arith, whole, length-append (take n es) (drop n es), ap length all_gone, ap length made.entries)

-- the rounds that were made are the first ones of those that had to be
pub rounds_some : (most : ℕ) (es fs : List Entry) (t u : Tables) → Rounds most es fs t u → SomeRounds most es t u
rounds_some most es fs t u made = record { rounds = made.count; tables = made.tables ∙ ap (λ xs. without xs t) (sym (by (nat_le n (length es)) refl)) }
  where
    n : ℕ
    n = 64 * made.count

    rest : List Entry
    rest = oversize most fs u

    by : (b : Bool) → nat_le n (length es) ≡ b → take n (oversize most es t) ≡ take n es
    by true e =
        let far : n ≤ length es = leb-true n (length es) e in
        ap (take n) made.going ∙ (take-append-le n (take n es) rest (omega (arith, far, length-take n es)) ∙ take-take n n es (omega arith))
    by false e =
        let near : length es < n = leb-false n (length es) e in
        let none : length fs ≡ 0 = ap length made.entries ∙ ap length (drop_all n es (omega (arith, near))) in
        ap (take n) (made.going ∙ append_none (take n es) rest (going_ends most fs u none)) ∙ take-take n n es (omega arith)

-- entries without one more round
pub cut_next : (es fs gs : List Entry) → WithoutRounds es fs → gs ≡ drop 64 fs → WithoutRounds es gs
cut_next es fs gs cut left =
    let n = 64 * cut.rounds in
    let more : 64 * (cut.rounds + 1) ≡ n + 64 = omega arith in
    record { rounds = cut.rounds + 1; entries = left ∙ (ap (drop 64) cut.entries ∙ (drop-drop 64 n es ∙ ap (λ k. drop k es) (sym more))) }

-- a call that leaves the tables leaves the rounds
pub rounds_still : (most : ℕ) (es fs : List Entry) (t u v : Tables) → Rounds most es fs t u → v ≡ u → Rounds most es fs t v
rounds_still most es fs t u v made same = subst (λ (w : Tables). Rounds most es fs t w) (sym same) made

pub some_still : (most : ℕ) (es : List Entry) (t u v : Tables) → SomeRounds most es t u → v ≡ u → SomeRounds most es t v
some_still most es t u v made same = subst (λ (w : Tables). SomeRounds most es t w) (sym same) made

-- where an answer is refused
pub on_err : {A E : Type 0} (r : Result A E) (P : Type 0) → P → OnErr r P
on_err (Ok x) P p = tt
on_err (Err x) P p = p

pub ok_same : {A E : Type 0} (x y : A) → ◌≡◌ {A = Result A E} (Ok x) (Ok y) → x ≡ y
ok_same x y h = cc

-- a round takes at least one entry, where one is left
pub shorter : (es fs : List Entry) → (length es ≡ 0 → ⊥) → fs ≡ drop 64 es → length fs < length es
shorter es fs some left = omega (arith, ap length left, length-drop 64 es, some)

-- no round was made
pub some_none : (most : ℕ) (es : List Entry) (t u : Tables) → u ≡ t → SomeRounds most es t u
some_none most es t u same = some_still most es t t u (rounds_some most es es t t (rounds_none most es t)) same
