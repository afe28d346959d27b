-- one line of a dump after another
use Rattle.tileset.proofs.Common.{ap, append-nil, append_assoc, arith, drop, drop-append-le, drop_all, encode_lower, encode_with, false, hex_dump, hex_lines, length, length-append, length-drop, List}
use Rattle.tileset.proofs.Common.{min, nat_eq, nat_tests, place_text, refl, replicate, shown_line, suc, sym, take, take-append-le, take_all, trimmed, zero, ℕ, [], ◌%◌, ◌*◌, ◌++◌, ◌+◌, ◌/◌, ◌<◌, ◌^◌}
use Rattle.tileset.proofs.Common.{◌∙◌, ◌∷◌, ◌≡◌, ◌≢◌, ◌≤◌}
use Rattle.std.proofs.Math.Seq.{take-append-add}
use Rattle.std.specs.Int.{to_be_bytes, w32}

-- a zero in front goes
pub trimmed-zero : (n m : ℕ) (digits tail : List ℕ) → n ≡ m + 1 → digits ≡ 48 ∷ tail → trimmed n digits ≡ trimmed m tail
trimmed-zero zero m digits tail e r = absurd (omega arith)
trimmed-zero (suc n) m digits tail e r = let q : n ≡ m = omega arith in rw (r, q) refl

-- another digit in front stays
pub trimmed-other : (n d : ℕ) (digits tail : List ℕ) → digits ≡ d ∷ tail → d ≢ 48 → trimmed n digits ≡ digits
trimmed-other zero d digits tail r h = refl
trimmed-other (suc n) d digits tail r h = let q : nat_eq d 48 ≡ false = grind (arith, nat_tests) in rw r (rw q refl)

pub trimmed-none : (n : ℕ) (digits : List ℕ) → digits ≡ [] → trimmed n digits ≡ digits
trimmed-none zero digits e = refl
trimmed-none (suc n) digits e = rw e refl

pub trimmed-end : (n : ℕ) (digits : List ℕ) → n ≡ 0 → trimmed n digits ≡ digits
trimmed-end zero digits e = refl
trimmed-end (suc n) digits e = absurd (omega arith)

pub ruleset trimming = (trimmed-zero, trimmed-other, trimmed-none, trimmed-end)

-- more turns than there are bytes change nothing
pub hex_lines-enough : (n m at : ℕ) (bs : List ℕ) → length bs ≤ n → length bs ≤ m → hex_lines n at bs ≡ hex_lines m at bs
hex_lines-enough zero zero at [] p q = refl
hex_lines-enough zero (suc m) at [] p q = refl
hex_lines-enough (suc n) zero at [] p q = refl
hex_lines-enough (suc n) (suc m) at [] p q = refl
hex_lines-enough zero m at (b ∷ bs) p q = absurd (omega arith)
hex_lines-enough (suc n) zero at (b ∷ bs) p q = absurd (omega arith)
hex_lines-enough (suc n) (suc m) at (b ∷ bs) p q =
    let l = length-drop 32 (b ∷ bs) in
    ap (λ r. shown_line at (take 32 (b ∷ bs)) ++ r) (hex_lines-enough n m (at + 32) (drop 32 (b ∷ bs)) (omega (arith, l)) (omega (arith, l)))

-- the first line, and the dump of the rest
pub dump-step : (at : ℕ) (bs : List ℕ) → 0 < length bs → hex_dump at bs ≡ shown_line at (take 32 bs) ++ hex_dump (at + 32) (drop 32 bs)
unfolding hex_dump
dump-step at [] h = absurd (omega arith)
dump-step at (b ∷ bs) h =
    let l = length-drop 32 (b ∷ bs) in
    ap (λ r. shown_line at (take 32 (b ∷ bs)) ++ r) (hex_lines-enough (length bs) (length (drop 32 (b ∷ bs))) (at + 32) (drop 32 (b ∷ bs)) (omega (arith, l)) (omega arith))

-- as many as there are, and at most n, are at most n
take-least : (n : ℕ) (bs : List ℕ) → take (min (length bs) n) bs ≡ take n bs
take-least n bs = grind (arith, take_all {A = ℕ})

drop-least : (n : ℕ) (bs : List ℕ) → drop (min (length bs) n) bs ≡ drop n bs
drop-least n bs = grind (arith, drop_all {X = ℕ})

pub hex_dump-step : (at n : ℕ) (bs front back : List ℕ) → 0 < length bs → n ≡ min (length bs) 32 → front ≡ take n bs → back ≡ drop n bs → hex_dump at bs ≡ shown_line at front ++ hex_dump (at + 32) back
hex_dump-step at n bs front back h e f g = rw (f, g, e, take-least 32 bs, drop-least 32 bs) (dump-step at bs h)

pub hex_dump-none : (at : ℕ) (bs : List ℕ) → length bs ≤ 0 → hex_dump at bs ≡ []
unfolding hex_dump
hex_dump-none at [] h = refl
hex_dump-none at (b ∷ bs) h = absurd (omega arith)

-- one more line, and what is left of the whole
pub one_line : (old new whole : List ℕ) (place n : ℕ) (rest front back : List ℕ) → 0 < length rest → n ≡ min (length rest) 32 → front ≡ take n rest → back ≡ drop n rest → new ≡ old ++ shown_line place front → old ++ hex_dump place rest ≡ whole → new ++ hex_dump (place + 32) back ≡ whole
one_line old new whole place n rest front back h e f g w i =
    let step = hex_dump-step place n rest front back h e f g in
    ap (λ l. l ++ hex_dump (place + 32) back) w ∙ append_assoc old (shown_line place front) (hex_dump (place + 32) back) ∙ ap (λ r. old ++ r) (sym step) ∙ i

-- the same with the place of the next line, which counts only where there is one
pub one_line_on : (old new whole : List ℕ) (place next n : ℕ) (rest front back : List ℕ) → 0 < length rest → n ≡ min (length rest) 32 → front ≡ take n rest → back ≡ drop n rest → new ≡ old ++ shown_line place front → (0 < length back → next ≡ place + 32) → old ++ hex_dump place rest ≡ whole → new ++ hex_dump next back ≡ whole
one_line_on old new whole place next n rest front back h e f g w on i = ap (λ d. new ++ d) (same back on) ∙ one_line old new whole place n rest front back h e f g w i
  where
    same : (back : List ℕ) → (0 < length back → next ≡ place + 32) → hex_dump next back ≡ hex_dump (place + 32) back
    same [] on = hex_dump-none next [] (omega arith) ∙ sym (hex_dump-none (place + 32) [] (omega arith))
    same (b ∷ bs) on = ap (λ p. hex_dump p (b ∷ bs)) (on (omega arith))

-- nothing is left
pub no_line : (old whole rest : List ℕ) (place : ℕ) → length rest ≤ 0 → old ++ hex_dump place rest ≡ whole → old ≡ whole
no_line old whole rest place h i = sym (append-nil old) ∙ ap (λ r. old ++ r) (sym (hex_dump-none place rest h)) ∙ i

-- the dump of whole lines, and then of more
lines-append : (k at : ℕ) (a c : List ℕ) → length a ≡ 32 * k → hex_dump at (a ++ c) ≡ hex_dump at a ++ hex_dump (at + length a) c
lines-append zero at [] c e = let here : at + 0 ≡ at = omega arith in ap (λ n. hex_dump n c) (sym here) ∙ ap (λ d. d ++ hex_dump (at + 0) c) (sym (hex_dump-none at [] (omega arith)))
lines-append zero at (x ∷ a) c e = absurd (omega arith)
lines-append (suc k) at a c e =
    let long : 32 ≤ length a = omega arith in
    let rest : length (drop 32 a) ≡ 32 * k = omega (arith, length-drop 32 a) in
    let first = dump-step at (a ++ c) (omega (arith, length-append a c)) in
    let front : take 32 (a ++ c) ≡ take 32 a = take-append-le 32 a c long in
    let back : drop 32 (a ++ c) ≡ drop 32 a ++ c = drop-append-le 32 a c long in
    let inner = lines-append k (at + 32) (drop 32 a) c rest in
    let place : at + 32 + length (drop 32 a) ≡ at + length a = omega (arith, length-drop 32 a) in
    first ∙ (ap (λ t. shown_line at t ++ hex_dump (at + 32) (drop 32 (a ++ c))) front ∙ (ap (λ d. shown_line at (take 32 a) ++ hex_dump (at + 32) d) back
    ∙ (ap (λ d. shown_line at (take 32 a) ++ d) (inner ∙ ap (λ n. hex_dump (at + 32) (drop 32 a) ++ hex_dump n c) place)
    ∙ (sym (append_assoc (shown_line at (take 32 a)) (hex_dump (at + 32) (drop 32 a)) (hex_dump (at + length a) c)) ∙ ap (λ d. d ++ hex_dump (at + length a) c) (sym (dump-step at a (omega arith)))))))

pub hex_dump-append : (at : ℕ) (a c : List ℕ) → length a % 32 ≡ 0 → hex_dump at (a ++ c) ≡ hex_dump at a ++ hex_dump (at + length a) c
hex_dump-append at a c e = lines-append (length a / 32) at a c (omega arith)

-- four bytes of zero in front of a place go
four_zeros : (a b c d : ℕ) (bytes : List ℕ) → a ≡ 0 → b ≡ 0 → c ≡ 0 → d ≡ 0 → trimmed 8 (encode_lower (a ∷ b ∷ c ∷ d ∷ bytes)) ≡ encode_lower bytes
unfolding encode_with
four_zeros a b c d bytes ea eb ec ed = rw (ea, eb, ec, ed) refl

-- a place below 2^32 has eight digits
pub near_place : (at : ℕ) → at < 2 ^ 32 → encode_lower (to_be_bytes w32 at) ≡ place_text at
near_place at h =
    let a : at / 256 ^ 7 % 256 ≡ 0 = omega (arith, h) in
    let b : at / 256 ^ 6 % 256 ≡ 0 = omega (arith, h) in
    let c : at / 256 ^ 5 % 256 ≡ 0 = omega (arith, h) in
    let d : at / 256 ^ 4 % 256 ≡ 0 = omega (arith, h) in
    sym (four_zeros (at / 256 ^ 7 % 256) (at / 256 ^ 6 % 256) (at / 256 ^ 5 % 256) (at / 256 ^ 4 % 256) (to_be_bytes w32 at) a b c d)

-- a list of one number, behind some of it
line_feeds : (n m : ℕ) → n < m → take {A = ℕ} 1 (drop n (replicate m 10)) ≡ 10 ∷ []
line_feeds zero zero h = absurd (omega arith)
line_feeds zero (suc m) h = refl
line_feeds (suc n) zero h = absurd (omega arith)
line_feeds (suc n) (suc m) h = line_feeds n m (omega arith)

-- digits in front of line feeds, with the first of them
pub ended : (n : ℕ) (digits : List ℕ) → length digits ≡ n → n < 65 → take (n + 1) (digits ++ drop n (replicate 65 10)) ≡ digits ++ 10 ∷ []
ended n digits l h = rw (sym l) (take-append-add digits (drop (length digits) (replicate 65 10)) 1 ∙ ap (λ r. digits ++ r) (line_feeds (length digits) 65 (omega (arith, l))))
