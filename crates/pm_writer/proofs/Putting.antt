-- The entries after a run, as the code finds them, and as its ids make them one after another.
use Rattle.pm_writer.proofs.Common.{ap, append-nil, arith, Bool, Entry, entry, false, get_or, grows, inl, inr, length, List, min-eq_left, min-eq_right, nat_eq, nat_lt, nat_tests, put, put_run, refl, rest_of, set, suc, sym, taken_by, true, zero, ℕ, []}
use Rattle.pm_writer.proofs.Common.{◌++◌, ◌+◌, ◌-◌, ◌<◌, ◌∙◌, ◌∷◌, ◌≡◌, ◌≢◌, ◌≤◌}
use Rattle.std.proofs.lemmas.Bool.{and_parts}
use Rattle.pm_writer.proofs.Runs.{grows_full, grows_yes, le_or}

-- the last entry grows by what it takes, and the rest follows
pub run_into : (limit id offset len count n : ℕ) (es : List Entry) (x : Entry) → suc n ≡ length es → x ≡ get_or es n x
    → put_run limit id offset len count es
    ≡ set (es ++ rest_of (id + taken_by limit id offset count x) offset len (count - taken_by limit id offset count x)) n (record x { run_length = x.run_length + taken_by limit id offset count x })
run_into limit id offset len count n [] x h e = absurd (omega (arith, h))
run_into limit id offset len count zero (f ∷ []) x h e = rw (← e) refl
run_into limit id offset len count (suc n) (f ∷ []) x h e = absurd (omega (arith, h))
run_into limit id offset len count zero (f ∷ k ∷ es) x h e = absurd (omega (arith, h))
run_into limit id offset len count (suc n) (f ∷ k ∷ es) x h e = ap (λ t. f ∷ t) (run_into limit id offset len count n (k ∷ es) x (omega (arith, h)) e)

pub rest_some : (id offset len n : ℕ) → 0 < n → rest_of id offset len n ≡ entry id offset len n ∷ []
rest_some id offset len zero h = absurd (omega (arith, h))
rest_some id offset len (suc n) h = refl

pub rest_none : (id offset len n : ℕ) → n ≡ 0 → rest_of id offset len n ≡ []
rest_none id offset len n h = rw h refl

pub run_first : (limit id offset len count : ℕ) (es : List Entry) → length es ≡ 0 → 0 < count → put_run limit id offset len count es ≡ es ++ entry id offset len count ∷ []
run_first limit id offset len count [] h some = rest_some id offset len count some
run_first limit id offset len count (e ∷ es) h some = absurd (omega (arith, h))

-- the same by what the code makes of them
pub run_parted : (limit id offset len count n t : ℕ) (es more : List Entry) (x y r : Entry) → suc n ≡ length es → x ≡ get_or es n x → t ≡ taken_by limit id offset count x → t < count → y ≡ record x { run_length = x.run_length + t } → r ≡ entry (id + t) offset len (count - t) → more ≡ es ++ r ∷ []
    → set more n y ≡ put_run limit id offset len count es
run_parted limit id offset len count n t es more x y r h e s less grown rest pushed =
    rw (pushed, grown, rest) (ap (λ l. set (es ++ l) n (record x { run_length = x.run_length + t })) (sym (rest_some (id + t) offset len (count - t) (omega (arith, less))))
    ∙ (rw s refl ∙ sym (run_into limit id offset len count n es x h e)))

pub run_joined : (limit id offset len count n t : ℕ) (es : List Entry) (x y : Entry) → suc n ≡ length es → x ≡ get_or es n x → t ≡ taken_by limit id offset count x → count ≤ t → y ≡ record x { run_length = x.run_length + t }
    → set es n y ≡ put_run limit id offset len count es
run_joined limit id offset len count n t es x y h e s all grown =
    rw grown (ap (λ l. set l n (record x { run_length = x.run_length + t })) (sym (append-nil es) ∙ ap (λ l. es ++ l) (sym (rest_none (id + t) offset len (count - t) (omega (arith, all)))))
    ∙ (rw s refl ∙ sym (run_into limit id offset len count n es x h e)))

-- what the last entry takes
takes_all : (limit id offset count : ℕ) (e : Entry) → grows limit id offset e ≡ true → count ≤ limit - e.run_length → taken_by limit id offset count e ≡ count
takes_all limit id offset count e g h = rw g (min-eq_left h)

takes_room : (limit id offset count : ℕ) (e : Entry) → grows limit id offset e ≡ true → limit - e.run_length ≤ count → taken_by limit id offset count e ≡ limit - e.run_length
takes_room limit id offset count e g h = rw g (min-eq_right h)

takes_none : (limit id offset count : ℕ) (e : Entry) → grows limit id offset e ≡ false → taken_by limit id offset count e ≡ 0
takes_none limit id offset count e g = rw g refl

-- so what becomes of it
run_by : (limit id offset len count taken : ℕ) (e : Entry) → taken_by limit id offset count e ≡ taken → put_run limit id offset len count (e ∷ []) ≡ record e { run_length = e.run_length + taken } ∷ rest_of (id + taken) offset len (count - taken)
run_by limit id offset len count taken e h = rw h refl

run_whole : (limit id offset len count : ℕ) (e : Entry) → grows limit id offset e ≡ true → count ≤ limit - e.run_length → put_run limit id offset len count (e ∷ []) ≡ record e { run_length = e.run_length + count } ∷ []
run_whole limit id offset len count e g h =
    run_by limit id offset len count count e (takes_all limit id offset count e g h)
    ∙ ap (λ r. record e { run_length = e.run_length + count } ∷ r) (rest_none (id + count) offset len (count - count) (omega arith))

same_length : (e : Entry) (n : ℕ) → n ≡ e.run_length → record e { run_length = n } ≡ e
same_length e n h = rw h refl

run_beside : (limit id offset len count : ℕ) (e : Entry) → grows limit id offset e ≡ false → 0 < count → put_run limit id offset len count (e ∷ []) ≡ e ∷ entry id offset len count ∷ []
run_beside limit id offset len count e g some =
    run_by limit id offset len count 0 e (takes_none limit id offset count e g)
    ∙ (ap (λ x. x ∷ rest_of (id + 0) offset len (count - 0)) (same_length e (e.run_length + 0) (omega arith))
    ∙ ap (λ r. e ∷ r) (rest_some (id + 0) offset len (count - 0) (omega (arith, some)) ∙ same_run (id + 0) id (count - 0) count (omega arith) (omega arith)))
  where
    same_run : (i j m n : ℕ) → i ≡ j → m ≡ n → entry i offset len m ∷ [] ≡ entry j offset len n ∷ []
    same_run i j m n p q = rw (p, q) refl

-- the last entry alone counts
run_behind : (limit id offset len count : ℕ) (e : Entry) (es : List Entry) → es ≢ [] → put_run limit id offset len count (e ∷ es) ≡ e ∷ put_run limit id offset len count es
run_behind limit id offset len count e [] h = absurd (h refl)
run_behind limit id offset len count e (f ∷ es) h = refl

put_some : (limit id offset len : ℕ) (f : Entry) (es : List Entry) → put limit id offset len (f ∷ es) ≢ []
put_some limit id offset len f [] = go (grows limit id offset f) refl
  where
    go : (b : Bool) → grows limit id offset f ≡ b → put limit id offset len (f ∷ []) ≢ []
    go true g = rw g (λ q. cc)
    go false g = rw g (λ q. cc)
put_some limit id offset len f (k ∷ es) = λ q. cc

-- what it tells that an entry grows
record Next (limit id offset : ℕ) (e : Entry) : Type 0 where
  pub place : e.offset ≡ offset
  pub next : e.tile_id + e.run_length ≡ id
  pub room : e.run_length < limit

next_of : (limit id offset : ℕ) (e : Entry) → grows limit id offset e ≡ true → Next limit id offset e
next_of limit id offset e g =
    let p = and_parts (nat_eq e.offset offset) _ g in
    let q = and_parts (nat_eq (e.tile_id + e.run_length) id) (nat_lt e.run_length limit) p.1 in
    let a : nat_eq e.offset offset ≡ true = p.0 in
    let b : nat_eq (e.tile_id + e.run_length) id ≡ true = q.0 in
    let c : nat_lt e.run_length limit ≡ true = q.1 in
    record { place = grind (arith, nat_tests); next = grind (arith, nat_tests); room = grind (arith, nat_tests) }

-- one id of a run before the others
step_first : (limit id offset len m : ℕ) → suc (suc m) ≤ limit → entry id offset len (suc (suc m)) ∷ [] ≡ put_run limit (id + 1) offset len (suc m) (entry id offset len 1 ∷ [])
step_first limit id offset len m fits =
    sym (run_whole limit (id + 1) offset len (suc m) (entry id offset len 1) (grows_yes limit (id + 1) offset (entry id offset len 1) refl refl (omega (arith, fits))) (omega (arith, fits))
    ∙ ap (λ n. entry id offset len n ∷ []) (omega arith))

run_step : (limit id offset len m : ℕ) (es : List Entry) → suc (suc m) ≤ limit → put_run limit id offset len (suc (suc m)) es ≡ put_run limit (id + 1) offset len (suc m) (put limit id offset len es)
run_step limit id offset len m [] fits = step_first limit id offset len m fits
run_step limit id offset len m (e ∷ []) fits = go (grows limit id offset e) refl
  where
    go : (b : Bool) → grows limit id offset e ≡ b → put_run limit id offset len (suc (suc m)) (e ∷ []) ≡ put_run limit (id + 1) offset len (suc m) (put limit id offset len (e ∷ []))
    go false g =
        run_beside limit id offset len (suc (suc m)) e g (omega arith)
        ∙ (ap (λ r. e ∷ r) (step_first limit id offset len m fits) ∙ rw g refl)
    go true g = elim (le_or (suc (suc m)) (limit - e.run_length)) [
      | inl h ↦
          run_whole limit id offset len (suc (suc m)) e g h
          ∙ (ap (λ n. record e { run_length = n } ∷ []) (omega arith)
          ∙ (sym (run_whole limit (id + 1) offset len (suc m) more (grows_yes limit (id + 1) offset more next.place (omega (arith, next.next)) (omega (arith, h))) (omega (arith, h))) ∙ then))
      | inr h ↦
          run_by limit id offset len (suc (suc m)) (limit - e.run_length) e (takes_room limit id offset (suc (suc m)) e g (omega (arith, h)))
          ∙ (same_parts _ _ _ _ _ _ (omega (arith, next.room)) (omega (arith, next.room)) (omega (arith, next.room))
          ∙ (sym (run_by limit (id + 1) offset len (suc m) (limit - (e.run_length + 1)) more (takes_more (omega (arith, h)))) ∙ then))
    ]
      where
        next : Next limit id offset e
        next = next_of limit id offset e g

        more : Entry
        more = record e { run_length = e.run_length + 1 }

        putted : put limit id offset len (e ∷ []) ≡ more ∷ []
        putted = rw g refl

        then : put_run limit (id + 1) offset len (suc m) (more ∷ []) ≡ put_run limit (id + 1) offset len (suc m) (put limit id offset len (e ∷ []))
        then = ap (put_run limit (id + 1) offset len (suc m)) (sym putted)

        same_parts : (a b i j x y : ℕ) → a ≡ b → i ≡ j → x ≡ y → record e { run_length = a } ∷ rest_of i offset len x ≡ record e { run_length = b } ∷ rest_of j offset len y
        same_parts a b i j x y p q r = rw (p, q, r) refl

        takes_more : limit - (e.run_length + 1) ≤ suc m → taken_by limit (id + 1) offset (suc m) more ≡ limit - (e.run_length + 1)
        takes_more h = elim (le_or limit (e.run_length + 1)) [
          | inl full ↦ takes_none limit (id + 1) offset (suc m) more (grows_full limit (id + 1) offset more full) ∙ omega (arith, full)
          | inr room ↦ takes_room limit (id + 1) offset (suc m) more (grows_yes limit (id + 1) offset more next.place (omega (arith, next.next)) room) h
        ]
run_step limit id offset len m (e ∷ f ∷ es) fits =
    ap (λ t. e ∷ t) (run_step limit id offset len m (f ∷ es) fits)
    ∙ sym (run_behind limit (id + 1) offset len (suc m) e (put limit id offset len (f ∷ es)) (put_some limit id offset len f es))

-- one id is put as one add
run_one : (limit id offset len : ℕ) (es : List Entry) → 1 ≤ limit → put_run limit id offset len 1 es ≡ put limit id offset len es
run_one limit id offset len [] fits = refl
run_one limit id offset len (e ∷ []) fits = go (grows limit id offset e) refl
  where
    go : (b : Bool) → grows limit id offset e ≡ b → put_run limit id offset len 1 (e ∷ []) ≡ put limit id offset len (e ∷ [])
    go true g = let next = next_of limit id offset e g in run_whole limit id offset len 1 e g (omega (arith, next.room)) ∙ rw g refl
    go false g = run_beside limit id offset len 1 e g (omega arith) ∙ rw g refl
run_one limit id offset len (e ∷ f ∷ es) fits = ap (λ t. e ∷ t) (run_one limit id offset len (f ∷ es) fits)

-- the ids of a run, put one after another
abbrev pub put_each : ℕ → ℕ → ℕ → ℕ → ℕ → List Entry → List Entry
put_each limit id offset len zero es = es
put_each limit id offset len (suc n) es = put_each limit (id + 1) offset len n (put limit id offset len es)

pub run_each : (limit id offset len n : ℕ) (es : List Entry) → suc n ≤ limit → put_run limit id offset len (suc n) es ≡ put_each limit id offset len (suc n) es
run_each limit id offset len zero es fits = run_one limit id offset len es fits
run_each limit id offset len (suc n) es fits = run_step limit id offset len n es fits ∙ run_each limit (id + 1) offset len n (put limit id offset len es) (omega (arith, fits))
