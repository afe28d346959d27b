-- The tables hold what they are said to.
use Rattle.hex_pairs.proofs.Common.{ap, arith, Err, FromHexError, get_or, hex_digit_value, List, None, Ok, Option, pair_value, refl, Some, suc, sym, unwrap_or, zero, ℕ, [], ◌%◌, ◌*◌, ◌+◌, ◌<◌, ◌∙◌}
use Rattle.hex_pairs.proofs.Common.{◌∷◌, ◌≡◌, ◌≤◌}
use Rattle.hex.specs.declared.error.FromHexError.TheVariants.{InvalidHexCharacter}
use Rattle.hex_pairs.specs.Tables.{high_of, in_place, low_of}
use Rattle.hex_pairs.specs.declared.tables.TheConstants.{HIGH, LOW}

-- the values of f at the n numbers from m on
abbrev values : (ℕ → ℕ) → ℕ → ℕ → List ℕ
values f zero m = []
values f (suc n) m = f m ∷ values f n (suc m)

value : (f : ℕ → ℕ) (n m i : ℕ) → i < n → get_or (values f n m) i 0 ≡ f (m + i)
value f zero m i h = absurd (omega arith)
value f (suc n) m zero h = ap f (omega arith)
value f (suc n) m (suc i) h = value f n (suc m) i (omega arith) ∙ ap f (omega arith)

-- two functions with one list of values below n agree there
agree : (f g : ℕ → ℕ) (n i : ℕ) → values f n 0 ≡ values g n 0 → i < n → f i ≡ g i
agree f g n i e h =
    let z : 0 + i ≡ i = omega arith in
    rw z at (sym (value f n 0 i h) ∙ (ap (λ xs. get_or xs i 0) e ∙ value g n 0 i h))

pub high_read : (c : ℕ) → c < 256 → get_or HIGH c 0 ≡ high_of c
high_read c h = agree (λ i. get_or HIGH i 0) high_of 256 c refl h

pub low_read : (c : ℕ) → c < 256 → get_or LOW c 0 ≡ low_of c
low_read c h = agree (λ i. get_or LOW i 0) low_of 256 c refl h

-- a digit's value is below 16
value_below : (c v : ℕ) → c < 256 → hex_digit_value c ≡ Some v → v < 16
value_below c v h e =
    let small = agree (λ i. unwrap_or (hex_digit_value i) 0 % 16) (λ i. unwrap_or (hex_digit_value i) 0) 256 c refl h in
    let same : v % 16 ≡ v = rw e at small in
    omega (arith, same)

-- what two digits come to: their byte, where both are digits
pub pair_read : (high low i : ℕ) (h l : ℕ) → h ≡ high_of high → l ≡ low_of low → h + l < 256 → pair_value high low i ≡ Ok (h + l)
pair_read high low i h l eh el lt = go (hex_digit_value high) (hex_digit_value low) refl refl
  where
    go : (a b : Option ℕ) → hex_digit_value high ≡ a → hex_digit_value low ≡ b → pair_value high low i ≡ Ok (h + l)
    go (Some v) (Some w) ea eb =
        let x : h ≡ 16 * v = eh ∙ ap (in_place 16) ea in
        let y : l ≡ 1 * w = el ∙ ap (in_place 1) eb in
        let sum : v * 16 + w ≡ h + l = omega (arith, x, y) in
        rw (ea, eb) (ap (λ (n : ℕ). Ok n) sum)
    go None b ea eb = let x : h ≡ 256 = eh ∙ ap (in_place 16) ea in absurd (omega (arith, x, lt))
    go (Some v) None ea eb = let y : l ≡ 256 = el ∙ ap (in_place 1) eb in absurd (omega (arith, y, lt))

-- or that one of them is none
pub pair_wrong : (high low i : ℕ) (h l : ℕ) → high < 256 → low < 256 → h ≡ high_of high → l ≡ low_of low → 256 ≤ h + l → (e : FromHexError) × (pair_value high low i ≡ Err e)
pair_wrong high low i h l bh bl eh el ge = go (hex_digit_value high) (hex_digit_value low) refl refl
  where
    go : (a b : Option ℕ) → hex_digit_value high ≡ a → hex_digit_value low ≡ b → (e : FromHexError) × (pair_value high low i ≡ Err e)
    go None b ea eb = (InvalidHexCharacter high i, rw ea refl)
    go (Some v) None ea eb = (InvalidHexCharacter low (i + 1), rw (ea, eb) refl)
    go (Some v) (Some w) ea eb =
        let x : h ≡ 16 * v = eh ∙ ap (in_place 16) ea in
        let y : l ≡ 1 * w = el ∙ ap (in_place 1) eb in
        let a = value_below high v bh ea in
        let b = value_below low w bl eb in
        absurd (omega (arith, x, y, ge, a, b))
