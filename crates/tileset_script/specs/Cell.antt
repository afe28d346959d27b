-- Cells as words of a script.
use Rattle.std.specs.Prelude.{◌≡◌, ◌^◌, ℕ, negsuc, List, [], ◌∷◌, nat_eq, if◌then◌else◌, Option, Some, None, Result, Ok, Err, codes, refl}
use Rattle.tileset_script.specs.Common.{Blob, Cell, chars, decode_of, decode_pairs, Int, integer_below, is_utf8, Null, option_map, Other, Text}
use Rattle.hex.specs.declared.error.FromHexError.{FromHexError}
use Rattle.tileset_script.specs.Text.{text_of, unescaped}

-- this cell, where no letter follows
abbrev pub alone : Cell → List ℕ → Option Cell
alone cell [] = Some cell
alone cell (b ∷ word) = None

abbrev pub blob_of : Result (List ℕ) FromHexError → Option Cell
blob_of (Ok bytes) = Some (Blob bytes)
blob_of (Err e) = None

-- `n` for null; `o` for a value of any other kind; `i` and a whole number of 64 bits; `x` and an even number of
-- hexadecimal digits; or `t` and a text
abbrev pub cell_of : List ℕ → Option Cell
cell_of [] = None
cell_of (b ∷ word) =
    if nat_eq b 110 then alone Null word else
    (if nat_eq b 111 then alone Other word else
    (if nat_eq b 105 then option_map Int (integer_below (2 ^ 63) word) else
    (if nat_eq b 120 then blob_of (decode_of word) else option_map Text (text_of (b ∷ word)))))

pub null : cell_of (codes "n") ≡ Some Null
null = refl

pub other : cell_of (codes "o") ≡ Some Other
other = refl

pub other_and_more : cell_of (codes "o1") ≡ None
other_and_more = refl

pub no_letter : cell_of (codes "t") ≡ Some (Text [])
unfolding unescaped is_utf8 chars
no_letter = refl

pub cut_letter : cell_of (codes "t%C3") ≡ None
unfolding unescaped is_utf8 chars
cut_letter = refl

pub two_bytes : cell_of (codes "x0fA0") ≡ Some (Blob (15 ∷ 160 ∷ []))
unfolding decode_pairs
two_bytes = refl

pub no_bytes : cell_of (codes "x") ≡ Some (Blob [])
unfolding decode_pairs
no_bytes = refl

pub odd_digits : cell_of (codes "x012") ≡ None
odd_digits = refl

pub least_number : cell_of (codes "i-9223372036854775808") ≡ Some (Int (negsuc 9223372036854775807))
least_number = refl

pub number_too_great : cell_of (codes "i9223372036854775808") ≡ None
number_too_great = refl
