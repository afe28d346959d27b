-- Texts as words of a script.
use Rattle.std.specs.Prelude.{◌≡◌, ℕ, ◌+◌, ◌*◌, List, [], ◌∷◌, nat_eq, if◌then◌else◌, Option, Some, None, codes, refl}
use Rattle.std.specs.Char.{is_ascii_graphic}
use Rattle.tileset_script.specs.Common.{hex_digit_value, is_utf8, option_and_then, option_map}

-- a byte that stands for itself, before others
abbrev pub plain : ℕ → Option (List ℕ) → Option (List ℕ)
plain b bytes = if is_ascii_graphic b then option_map (λ bs. b ∷ bs) bytes else None

-- the byte of two hexadecimal digits
abbrev pub byte_of : ℕ → ℕ → Option ℕ
byte_of high low = option_and_then (λ h. option_map (λ l. h * 16 + l) (hex_digit_value low)) (hex_digit_value high)

-- such a byte, before others
abbrev pub escaped : ℕ → ℕ → Option (List ℕ) → Option (List ℕ)
escaped high low bytes = option_and_then (λ b. option_map (λ bs. b ∷ bs) bytes) (byte_of high low)

-- the bytes 21 to 7E stand for themselves, but `%` and two hexadecimal digits for a byte
unfoldable pub unescaped : List ℕ → Option (List ℕ)
unescaped [] = Some []
unescaped (b ∷ []) = if nat_eq b 37 then None else plain b (Some [])
unescaped (b ∷ c ∷ []) = if nat_eq b 37 then None else plain b (unescaped (c ∷ []))
unescaped (b ∷ c ∷ d ∷ word) = if nat_eq b 37 then escaped c d (unescaped word) else plain b (unescaped (c ∷ d ∷ word))

abbrev pub if_utf8 : List ℕ → Option (List ℕ)
if_utf8 bytes = if is_utf8 bytes then Some bytes else None

-- `t` and a text in UTF-8 that is so written
abbrev pub text_of : List ℕ → Option (List ℕ)
text_of [] = None
text_of (b ∷ word) = if nat_eq b 116 then option_and_then if_utf8 (unescaped word) else None

pub escapes : unescaped (codes "a%20%7e") ≡ Some (97 ∷ 32 ∷ 126 ∷ [])
unfolding unescaped
escapes = refl

pub escape_cut_short : unescaped (codes "a%2") ≡ None
unfolding unescaped
escape_cut_short = refl

pub no_text : unescaped (9 ∷ []) ≡ None
unfolding unescaped
no_text = refl
