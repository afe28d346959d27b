-- Blocks of digits are read.
use Rattle.hex_pairs.proofs.Common.{ap, AreDigits, arith, cons_byte, decode_pairs, decode_pairs-ok_pair, digit_or_error, digit_value, drop, drop-drop, Err, FromHexError, hex_digit_value, is_hex_digit}
use Rattle.hex_pairs.proofs.Common.{is_some, length, length-take-le, List, None, Ok, Option, pair_value, paired, prepend, refl, Result, Some, subst, sym, take, take-add, take-append-drop, true}
use Rattle.hex_pairs.proofs.Common.{true≢false, unwrap_or, value_at, ℕ, [], ◌*◌, ◌++◌, ◌+◌, ◌-◌, ◌∙◌, ◌∷◌, ◌≡◌, ◌≤◌}

value_read : (d i : ℕ) → is_hex_digit d ≡ true → value_at d i ≡ Ok (digit_value d)
value_read d i e = go (hex_digit_value d) e
  where
    go : (o : Option ℕ) → is_some o ≡ true → digit_or_error d i o ≡ Ok (unwrap_or o 0)
    go (Some v) e = refl
    go None e = absurd (true≢false (sym e))

byte_read : (h l i : ℕ) → is_hex_digit h ≡ true → is_hex_digit l ≡ true → pair_value h l i ≡ Ok (digit_value h * 16 + digit_value l)
byte_read h l i eh el = rw (value_read h i eh, value_read l (i + 1) el) refl

nothing_before : (r : Result (List ℕ) FromHexError) → r ≡ prepend [] r
nothing_before (Ok rest) = refl
nothing_before (Err e) = refl

byte_before : (byte : ℕ) (bytes : List ℕ) (r : Result (List ℕ) FromHexError) → cons_byte byte (prepend bytes r) ≡ prepend (byte ∷ bytes) r
byte_before byte bytes (Ok rest) = refl
byte_before byte bytes (Err e) = refl

digits_read : (i n : ℕ) (ds rest : List ℕ) → length ds ≡ 2 * n → AreDigits ds → decode_pairs i (ds ++ rest) ≡ prepend (paired ds) (decode_pairs (i + 2 * n) rest)
digits_read i n [] rest e are = let same : i ≡ i + 2 * n = omega (arith, e) in ap (λ k. decode_pairs k rest) same ∙ nothing_before (decode_pairs (i + 2 * n) rest)
digits_read i n (d ∷ []) rest e are = absurd (omega (arith, e))
digits_read i n (h ∷ l ∷ ds) rest e are =
    let next : i + 2 + 2 * (n - 1) ≡ i + 2 * n = omega (arith, e) in
    decode_pairs-ok_pair i h l _ (ds ++ rest) (byte_read h l i are.0 are.1.0)
    ∙ ap (cons_byte (digit_value h * 16 + digit_value l)) (digits_read (i + 2) (n - 1) ds rest (omega (arith, e)) are.1.1)
    ∙ byte_before (digit_value h * 16 + digit_value l) (paired ds) _
    ∙ ap (λ k. prepend ((digit_value h * 16 + digit_value l) ∷ paired ds) (decode_pairs k rest)) next

-- so many bytes are read from the front
pub front_read : (s bytes : List ℕ) (n : ℕ) → 2 * n ≤ length s → AreDigits (take (2 * n) s) → take n bytes ≡ paired (take (2 * n) s) → decode_pairs 0 s ≡ prepend (take n bytes) (decode_pairs (2 * n) (drop (2 * n) s))
front_read s bytes n fits are e =
    let long : length (take (2 * n) s) ≡ 2 * n = length-take-le (2 * n) s fits in
    let next : 0 + 2 * n ≡ 2 * n = omega arith in
    ap (decode_pairs 0) (sym (take-append-drop (2 * n) s)) ∙ digits_read 0 n (take (2 * n) s) (drop (2 * n) s) long are
    ∙ ap (λ k. prepend (paired (take (2 * n) s)) (decode_pairs k (drop (2 * n) s))) next ∙ ap (λ f. prepend f (decode_pairs (2 * n) (drop (2 * n) s))) (sym e)

-- ---- blocks one behind another

pub AreDigits-append : (a b : List ℕ) → AreDigits a → AreDigits b → AreDigits (a ++ b)
AreDigits-append [] b p q = q
AreDigits-append (d ∷ a) b p q = (p.0, AreDigits-append a b p.1 q)

paired-append : (n : ℕ) (a b : List ℕ) → length a ≡ 2 * n → paired (a ++ b) ≡ paired a ++ paired b
paired-append n [] b e = refl
paired-append n (d ∷ []) b e = absurd (omega (arith, e))
paired-append n (h ∷ l ∷ a) b e = ap (λ bytes. (digit_value h * 16 + digit_value l) ∷ bytes) (paired-append (n - 1) a b (omega (arith, e)))

-- two vectors that lie one behind the other
pub two_loads : (s : List ℕ) (at : ℕ) → take 16 (drop at s) ++ take 16 (drop (at + 16) s) ≡ take 32 (drop at s)
two_loads s at = ap (λ l. take 16 (drop at s) ++ take 16 l) (sym (drop-drop 16 at s)) ∙ sym (take-add 16 16 (drop at s))

more : (s : List ℕ) (at : ℕ) → take (2 * (at + 16)) s ≡ take (2 * at) s ++ take 32 (drop (2 * at) s)
more s at = let two : 2 * (at + 16) ≡ 2 * at + 32 = omega arith in ap (λ k. take k s) two ∙ take-add (2 * at) 32 s

pub more_digits : (s : List ℕ) (at : ℕ) → AreDigits (take (2 * at) s) → AreDigits (take 32 (drop (2 * at) s)) → AreDigits (take (2 * (at + 16)) s)
more_digits s at p q = subst AreDigits (sym (more s at)) (AreDigits-append (take (2 * at) s) (take 32 (drop (2 * at) s)) p q)

pub more_bytes : (s before after : List ℕ) (at : ℕ) → 2 * at ≤ length s → take at before ≡ paired (take (2 * at) s) → take (at + 16) after ≡ take at before ++ paired (take 32 (drop (2 * at) s))
    → take (at + 16) after ≡ paired (take (2 * (at + 16)) s)
more_bytes s before after at fits i w =
    let long : length (take (2 * at) s) ≡ 2 * at = length-take-le (2 * at) s fits in
    w ∙ ap (λ l. l ++ paired (take 32 (drop (2 * at) s))) i ∙ sym (paired-append at (take (2 * at) s) (take 32 (drop (2 * at) s)) long) ∙ ap paired (sym (more s at))
