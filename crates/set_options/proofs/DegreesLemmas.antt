-- The text of degrees is read as the number that it was made of.
use Rattle.set_options.proofs.Common.{ap, append-nil, append_assoc, arith, Bool, codes, cond, decimal, false, is_ascii_digit, length, length-append, List, nat_eq, nat_le, nat_lt, negsuc, None, Option}
use Rattle.set_options.proofs.Common.{option_and_then, option_map, pos, refl, Some, subst, suc, sym, true, zero, ℕ, ℤ, [], ◌%◌, ◌&&◌, ◌*◌, ◌++◌, ◌+◌, ◌-◌, ◌/◌, ◌<◌, ◌^◌, ◌∙◌, ◌∷◌, ◌≡◌, ◌≤◌}
use Rattle.std.proofs.lemmas.Bool.Decides.{nat_tests}
use Rattle.std.proofs.lemmas.Fmt.{decimal_by_steps, decimal_digit, length-decimal-le}
use Rattle.set_options.specs.DegreesText.{IsWithin, degrees_text, fraction_text, size_text}
use Rattle.set_options.specs.Degrees.{behind_point, degrees_of, magnitude, minus, whole, with_digit, within}

is_digit : (d : ℕ) → d < 10 → is_ascii_digit (48 + d) ≡ true
is_digit zero lt = refl
is_digit (suc zero) lt = refl
is_digit (suc (suc zero)) lt = refl
is_digit (suc (suc (suc zero))) lt = refl
is_digit (suc (suc (suc (suc zero)))) lt = refl
is_digit (suc (suc (suc (suc (suc zero))))) lt = refl
is_digit (suc (suc (suc (suc (suc (suc zero)))))) lt = refl
is_digit (suc (suc (suc (suc (suc (suc (suc zero))))))) lt = refl
is_digit (suc (suc (suc (suc (suc (suc (suc (suc zero)))))))) lt = refl
is_digit (suc (suc (suc (suc (suc (suc (suc (suc (suc zero))))))))) lt = refl
is_digit (suc (suc (suc (suc (suc (suc (suc (suc (suc (suc d)))))))))) lt = absurd (omega (arith, lt))

digit_step : (n d : ℕ) → d < 10 → n * 10 + d ≤ 1800000000 → with_digit n (48 + d) ≡ Some (n * 10 + d)
digit_step n d lt le =
    let same : n * 10 + ((48 + d) - 48) ≡ n * 10 + d = omega arith in
    let few : nat_le (n * 10 + d) 1800000000 ≡ true = grind (arith, nat_tests) in
    ap (λ (b : Bool). cond b (within (n * 10 + ((48 + d) - 48))) None) (is_digit d lt) ∙ (ap within same ∙ ap (λ (b : Bool). cond b (Some (n * 10 + d)) None) few)

-- the digits of a part of a degree, behind a number
abbrev read_on : ℕ → ℕ → ℕ → Option ℕ
read_on p n r = behind_point p n (fraction_text p r)

fraction_none : (p : ℕ) → fraction_text p 0 ≡ []
fraction_none zero = refl
fraction_none (suc p) = refl

not_none : (r : ℕ) → nat_eq (suc r) 0 ≡ false
not_none r = grind (arith, nat_tests)

fraction_more : (p r : ℕ) → fraction_text (suc p) (suc r) ≡ decimal (suc r * 10 / 10000000) ++ fraction_text p (suc r * 10 % 10000000)
fraction_more p r = ap (λ (b : Bool). cond b [] (decimal (suc r * 10 / 10000000) ++ fraction_text p (suc r * 10 % 10000000))) (not_none r)

next_digit : (p n r : ℕ) → r < 10000000 → n * 10 + r * 10 / 10000000 ≤ 1800000000 → read_on (suc p) n r ≡ read_on p (n * 10 + r * 10 / 10000000) (r * 10 % 10000000)
next_digit p n zero lt le = ap (option_and_then (λ m. behind_point p m [])) (digit_step n 0 (omega arith) le) ∙ ap (behind_point p (n * 10 + 0)) (sym (fraction_none p))
next_digit p n (suc r) lt le =
    let rest = fraction_text p (suc r * 10 % 10000000) in
    ap (behind_point (suc p) n) (fraction_more p r)
    ∙ (ap (λ ds. behind_point (suc p) n (ds ++ rest)) (decimal_digit (suc r * 10 / 10000000) (omega (arith, lt)))
    ∙ ap (option_and_then (λ m. behind_point p m rest)) (digit_step n (suc r * 10 / 10000000) (omega (arith, lt)) le))

one_place : (n r : ℕ) → r < 10000000 → n * 10 + r * 10 / 10000000 ≤ 1800000000 → read_on 1 n r ≡ Some (n * 10 + r * 10 / 10000000)
one_place n r lt le = next_digit 0 n r lt le

two_places : (n r : ℕ) → r < 10000000 → n * 100 + r * 100 / 10000000 ≤ 1800000000 → read_on 2 n r ≡ Some (n * 100 + r * 100 / 10000000)
two_places n r lt le = next_digit 1 n r lt (omega (arith, lt, le)) ∙ (one_place (n * 10 + r * 10 / 10000000) (r * 10 % 10000000) (omega arith) (omega (arith, lt, le)) ∙ ap Some (omega (arith, lt)))

three_places : (n r : ℕ) → r < 10000000 → n * 1000 + r * 1000 / 10000000 ≤ 1800000000 → read_on 3 n r ≡ Some (n * 1000 + r * 1000 / 10000000)
three_places n r lt le = next_digit 2 n r lt (omega (arith, lt, le)) ∙ (two_places (n * 10 + r * 10 / 10000000) (r * 10 % 10000000) (omega arith) (omega (arith, lt, le)) ∙ ap Some (omega (arith, lt)))

four_places : (n r : ℕ) → r < 10000000 → n * 10000 + r * 10000 / 10000000 ≤ 1800000000 → read_on 4 n r ≡ Some (n * 10000 + r * 10000 / 10000000)
four_places n r lt le = next_digit 3 n r lt (omega (arith, lt, le)) ∙ (three_places (n * 10 + r * 10 / 10000000) (r * 10 % 10000000) (omega arith) (omega (arith, lt, le)) ∙ ap Some (omega (arith, lt)))

five_places : (n r : ℕ) → r < 10000000 → n * 100000 + r * 100000 / 10000000 ≤ 1800000000 → read_on 5 n r ≡ Some (n * 100000 + r * 100000 / 10000000)
five_places n r lt le = next_digit 4 n r lt (omega (arith, lt, le)) ∙ (four_places (n * 10 + r * 10 / 10000000) (r * 10 % 10000000) (omega arith) (omega (arith, lt, le)) ∙ ap Some (omega (arith, lt)))

six_places : (n r : ℕ) → r < 10000000 → n * 1000000 + r * 1000000 / 10000000 ≤ 1800000000 → read_on 6 n r ≡ Some (n * 1000000 + r * 1000000 / 10000000)
six_places n r lt le = next_digit 5 n r lt (omega (arith, lt, le)) ∙ (five_places (n * 10 + r * 10 / 10000000) (r * 10 % 10000000) (omega arith) (omega (arith, lt, le)) ∙ ap Some (omega (arith, lt)))

all_places : (n r : ℕ) → r < 10000000 → n * 10000000 + r ≤ 1800000000 → read_on 7 n r ≡ Some (n * 10000000 + r)
all_places n r lt le = next_digit 6 n r lt (omega (arith, lt, le)) ∙ (six_places (n * 10 + r * 10 / 10000000) (r * 10 % 10000000) (omega arith) (omega (arith, lt, le)) ∙ ap Some (omega (arith, lt)))

-- what stands behind the whole degrees
abbrev tail_text : ℕ → List ℕ
tail_text zero = []
tail_text (suc r) = 46 ∷ fraction_text 7 (suc r)

tail_read : (n r : ℕ) → r < 10000000 → n * 10000000 + r ≤ 1800000000 → whole n (tail_text r) ≡ Some (n * 10000000 + r)
tail_read n zero lt le = all_places n 0 lt le
tail_read n (suc r) lt le = all_places n (suc r) lt le

tail_is : (w r : ℕ) → cond (nat_eq r 0) (decimal w) (decimal w ++ (codes "." ++ fraction_text 7 r)) ≡ decimal w ++ tail_text r
tail_is w zero = sym (append-nil (decimal w))
tail_is w (suc r) = ap (λ (b : Bool). cond b (decimal w) (decimal w ++ (codes "." ++ fraction_text 7 (suc r)))) (not_none r)

-- the whole degrees
digit_whole : (m e : ℕ) (word : List ℕ) → e < 10 → m * 10 + e ≤ 1800000000 → whole m ((48 + e) ∷ word) ≡ whole (m * 10 + e) word
digit_whole m e word lt le =
    let no_point : nat_eq (48 + e) 46 ≡ false = grind (arith, nat_tests) in
    ap (λ (b : Bool). cond b (behind_point 7 m word) (option_and_then (λ k. whole k word) (with_digit m (48 + e)))) no_point ∙ ap (option_and_then (λ k. whole k word)) (digit_step m e lt le)

abbrev IsWhole : ℕ → List ℕ → Type 0
IsWhole n ds = n ≤ 180 → (word : List ℕ) → whole 0 (ds ++ word) ≡ whole n word

one_digit : (n : ℕ) → n < 10 → IsWhole n ((48 + n) ∷ [])
one_digit n lt few word = digit_whole 0 n word lt (omega (arith, few)) ∙ ap (λ m. whole m word) (omega arith)

more_digits : (n : ℕ) (ds : List ℕ) → 10 ≤ n → IsWhole (n / 10) ds → IsWhole n (ds ++ ((48 + n % 10) ∷ []))
more_digits n ds ge front few word =
    ap (whole 0) (append_assoc ds ((48 + n % 10) ∷ []) word)
    ∙ (front (omega (arith, few)) ((48 + n % 10) ∷ word)
    ∙ (digit_whole (n / 10) (n % 10) word (omega arith) (omega (arith, few)) ∙ ap (λ m. whole m word) (omega arith)))

degrees_read : (n : ℕ) → n ≤ 180 → (word : List ℕ) → whole 0 (decimal n ++ word) ≡ whole n word
degrees_read n few = decimal_by_steps IsWhole one_digit more_digits n (omega (arith, few)) few

text_is : (n : ℕ) → size_text n ≡ decimal (n / 10000000) ++ tail_text (n % 10000000)
text_is n = tail_is (n / 10000000) (n % 10000000)

size_read : (n : ℕ) → n ≤ 1800000000 → whole 0 (size_text n) ≡ Some n
size_read n le =
    ap (whole 0) (text_is n)
    ∙ (degrees_read (n / 10000000) (omega (arith, le)) (tail_text (n % 10000000))
    ∙ (tail_read (n / 10000000) (n % 10000000) (omega arith) (omega (arith, le)) ∙ ap Some (omega arith)))

-- the text begins with a digit, and has few signs
record Begins (text : List ℕ) : Type 0 where
  first : ℕ
  rest : List ℕ
  small : first < 10
  is : text ≡ (48 + first) ∷ rest

one_begins : (n : ℕ) → n < 10 → Begins ((48 + n) ∷ [])
one_begins n lt = record { first = n; rest = []; small = lt; is = refl }

more_begins : (n : ℕ) (ds : List ℕ) → 10 ≤ n → Begins ds → Begins (ds ++ ((48 + n % 10) ∷ []))
more_begins n ds ge b = record { first = b.first; rest = b.rest ++ ((48 + n % 10) ∷ []); small = b.small; is = ap (λ (x : List ℕ). x ++ ((48 + n % 10) ∷ [])) b.is }

begins : (n : ℕ) → n < 2 ^ 64 → Begins (decimal n)
begins = decimal_by_steps (λ n ds. Begins ds) one_begins more_begins

fraction_short : (p r : ℕ) → r < 10000000 → length (fraction_text p r) ≤ p
fraction_short zero r lt = omega arith
fraction_short (suc p) zero lt = omega arith
fraction_short (suc p) (suc r) lt =
    let rest = fraction_text p (suc r * 10 % 10000000) in
    let short = fraction_short p (suc r * 10 % 10000000) (omega arith) in
    let count : length (fraction_text (suc p) (suc r)) ≡ suc (length rest) = ap length (fraction_more p r) ∙ ap (λ (ds : List ℕ). length (ds ++ rest)) (decimal_digit (suc r * 10 / 10000000) (omega (arith, lt))) in
    omega (arith, short, count)

tail_short : (r : ℕ) → r < 10000000 → length (tail_text r) ≤ 8
tail_short zero lt = omega arith
tail_short (suc r) lt = let short = fraction_short 7 (suc r) lt in omega (arith, short)

text_short : (n : ℕ) → n ≤ 1800000000 → length (size_text n) ≤ 11
text_short n le =
    let front : length (decimal (n / 10000000)) ≤ 3 = length-decimal-le 3 (n / 10000000) (omega arith) (omega (arith, le)) (omega (arith, le)) in
    let back = tail_short (n % 10000000) (omega arith) in
    let sum = ap length (text_is n) ∙ length-append (decimal (n / 10000000)) (tail_text (n % 10000000)) in
    omega (arith, front, back, sum)

text_begins : (n : ℕ) → n ≤ 1800000000 → Begins (size_text n)
text_begins n le =
    let b = begins (n / 10000000) (omega (arith, le)) in
    record { first = b.first; rest = b.rest ++ tail_text (n % 10000000); small = b.small; is = text_is n ∙ ap (λ (x : List ℕ). x ++ tail_text (n % 10000000)) b.is }

-- so it is read as a number without a sign
read_front : (d : ℕ) (rest : List ℕ) (n : ℕ) → d < 10 → length ((48 + d) ∷ rest) ≤ 11 → whole 0 ((48 + d) ∷ rest) ≡ Some n → magnitude ((48 + d) ∷ rest) ≡ Some n
read_front d rest n lt short is =
    let few : nat_le (length rest) 39 ≡ true = grind (arith, nat_tests) in
    ap (λ (b : Bool). cond (b && nat_le (length rest) 39) (whole 0 ((48 + d) ∷ rest)) None) (is_digit d lt) ∙ (ap (λ (b : Bool). cond b (whole 0 ((48 + d) ∷ rest)) None) few ∙ is)

size_magnitude : (n : ℕ) → n ≤ 1800000000 → magnitude (size_text n) ≡ Some n
size_magnitude n le =
    let b = text_begins n le in
    ap magnitude b.is ∙ read_front b.first b.rest n b.small (subst (λ (x : List ℕ). length x ≤ 11) b.is (text_short n le)) (ap (whole 0) (sym b.is) ∙ size_read n le)

unsigned : (d : ℕ) (rest : List ℕ) → d < 10 → degrees_of ((48 + d) ∷ rest) ≡ option_map pos (magnitude ((48 + d) ∷ rest))
unsigned d rest lt =
    let no_minus : nat_eq (48 + d) 45 ≡ false = grind (arith, nat_tests) in
    let no_plus : nat_eq (48 + d) 43 ≡ false = grind (arith, nat_tests) in
    ap (λ (b : Bool). cond b (option_map minus (magnitude rest)) (option_map pos (magnitude (cond (nat_eq (48 + d) 43) rest ((48 + d) ∷ rest))))) no_minus
    ∙ ap (λ (b : Bool). option_map pos (magnitude (cond b rest ((48 + d) ∷ rest)))) no_plus

size_degrees : (n : ℕ) → n ≤ 1800000000 → degrees_of (size_text n) ≡ Some (pos n)
size_degrees n le =
    let b = text_begins n le in
    ap degrees_of b.is ∙ (unsigned b.first b.rest b.small ∙ (ap (λ (x : List ℕ). option_map pos (magnitude x)) (sym b.is) ∙ ap (option_map pos) (size_magnitude n le)))

-- numbers of no more than 180 degrees
pub read_back : (z : ℤ) → IsWithin z → degrees_of (degrees_text z) ≡ Some z
read_back (pos n) le =
    let no_sign : nat_lt n 0 ≡ false = grind (arith, nat_tests) in
    ap (λ (b : Bool). degrees_of (cond b (codes "-" ++ size_text n) (size_text n))) no_sign ∙ size_degrees n le
read_back (negsuc n) le = ap (option_map minus) (size_magnitude (suc n) le)
