-- What the tables of the sixteenths hold.
use Rattle.tile_ids.proofs.Common.{ap, arith, get_or, IsSixteenth, List, refl, suc, sym, zero, ℕ, [], ◌%◌, ◌*◌, ◌+◌, ◌/◌, ◌<◌, ◌∙◌, ◌∷◌, ◌≡◌}
use Rattle.tile_ids.specs.declared.orientation.TheConstants.{NUMBERS, PLACES}
use Rattle.tile_ids.proofs.LevelLemmas.{number_at, within_at, number_below, within_below, is_sixteenth}

-- the values of f at the n numbers from m on
abbrev values : (ℕ → ℕ) → ℕ → ℕ → List ℕ
values f zero m = []
values f (suc n) m = f m ∷ values f n (suc m)

value : (f : ℕ → ℕ) (n m i : ℕ) → i < n → get_or (values f n m) i 0 ≡ f (m + i)
value f zero m i h = absurd (omega arith)
value f (suc n) m zero h = ap f (omega arith)
value f (suc n) m (suc i) h = value f n (suc m) i (omega arith) ∙ ap f (omega arith)

-- two functions with one list of values below n agree there
agree : (f g : ℕ → ℕ) (n i : ℕ) → values f n 0 ≡ values g n 0 → i < n → f i ≡ g i
agree f g n i e h =
    let z : 0 + i ≡ i = omega arith in
    rw z at (sym (value f n 0 i h) ∙ (ap (λ xs. get_or xs i 0) e ∙ value g n 0 i h))

-- the number of a sixteenth, and 16 times the orientation in it
abbrev entry : ℕ → ℕ → ℕ → ℕ
entry o column row = 16 * within_at o column row + number_at o column row

-- the table of numbers, by orientation, column and row
number_entry : (i : ℕ) → i < 64 → get_or NUMBERS i 0 ≡ entry (i / 16) (i / 4 % 4) (i % 4)
number_entry i h = agree (λ i. get_or NUMBERS i 0) (λ i. entry (i / 16) (i / 4 % 4) (i % 4)) 64 i refl h

-- the table of places has for each number the place that has it
place_entry : (i : ℕ) → i < 64 → entry (i / 16) (get_or PLACES i 0 / 4 % 4) (get_or PLACES i 0 % 4) ≡ 16 * (get_or PLACES i 0 / 16) + i % 16
place_entry i h =
    agree (λ i. entry (i / 16) (get_or PLACES i 0 / 4 % 4) (get_or PLACES i 0 % 4)) (λ i. 16 * (get_or PLACES i 0 / 16) + i % 16) 64 i refl h

-- what an entry says, taken apart as the code does
record Told (o column row number within : ℕ) : Type 0 where
  comes : number_at o column row ≡ number
  runs : within_at o column row ≡ within

told : (o column row number within : ℕ) → number < 16 → entry o column row ≡ 16 * within + number → Told o column row number within
told o column row number within h e =
    let n = number_below o column row in
    record { comes = omega arith; runs = omega arith }

-- a sixteenth as an entry tells it, and that the entry is one of a table
pub record Known (o column row number entry : ℕ) : Type 0 where
  pub sixteenth : IsSixteenth o column row number (entry / 16)
  pub below : entry < 64

known : (o column row number e : ℕ) → o < 4 → column < 4 → row < 4 → Told o column row number (e / 16) → Known o column row number e
known o column row number e l i j t =
    let s = is_sixteenth o column row l i j in
    let b = within_below o column row l in
    record { sixteenth = rw (t.comes, t.runs) at s; below = omega (arith, b, t.runs) }

-- the entry of the table of numbers, as the code reads it
pub number_read : (before column row e : ℕ) → before < 64 → column < 4 → row < 4 → e ≡ get_or NUMBERS (before / 16 * 16 + (4 * column + row)) 0
    → Known (before / 16) column row (e % 16) e
number_read before column row e l i j r =
    let o = before / 16 in
    let n = o * 16 + (4 * column + row) in
    let t = r ∙ number_entry n (omega arith) in
    let a : n / 16 ≡ o = omega arith in
    let b : n / 4 % 4 ≡ column = omega arith in
    let d : n % 4 ≡ row = omega arith in
    let u : e ≡ entry o column row = rw (a, b, d) at t in
    let v : entry o column row ≡ 16 * (e / 16) + e % 16 = sym u ∙ omega arith in
    known o column row (e % 16) e (omega arith) i j (told o column row (e % 16) (e / 16) (omega arith) v)

-- the entry of the table of places, as the code reads it
pub place_read : (before number e : ℕ) → before < 64 → number < 16 → e ≡ get_or PLACES (before / 16 * 16 + number) 0
    → Known (before / 16) (e / 4 % 4) (e % 4) number e
place_read before number e l h r =
    let o = before / 16 in
    let n = o * 16 + number in
    let place = get_or PLACES n 0 in
    let a : o ≡ n / 16 = omega arith in
    let b : n % 16 ≡ number = omega arith in
    let t = place_entry n (omega arith) in
    let u : entry o (e / 4 % 4) (e % 4) ≡ 16 * (e / 16) + number =
    ap (λ m. entry o (m / 4 % 4) (m % 4)) r ∙
    (ap (λ j. entry j (place / 4 % 4) (place % 4)) a ∙
    (t ∙ (ap (λ j. 16 * (place / 16) + j) b ∙ ap (λ m. 16 * (m / 16) + number) (sym r)))) in
    known o (e / 4 % 4) (e % 4) number e (omega arith) (omega arith) (omega arith) (told o (e / 4 % 4) (e % 4) number (e / 16) h u)
