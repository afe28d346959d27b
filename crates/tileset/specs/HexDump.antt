-- Bytes in lines of 32, those that are all zero left out.
use Rattle.std.specs.Prelude.{◌≡◌, ℕ, zero, suc, ◌+◌, List, [], ◌∷◌, ◌++◌, length, take, drop, replicate, nat_eq, if◌then◌else◌, codes, refl}
use Rattle.tileset.specs.Common.{encode_lower, encode_with, list_all}
use Rattle.std.specs.Int.{to_be_bytes, w64}

-- the digits without zeros in front, of which at most so many go
abbrev pub trimmed : ℕ → List ℕ → List ℕ
trimmed zero digits = digits
trimmed (suc n) [] = []
trimmed (suc n) (d ∷ digits) = if nat_eq d 48 then trimmed n digits else d ∷ digits

-- a place in hexadecimal, by at least eight digits
abbrev pub place_text : ℕ → List ℕ
place_text at = trimmed 8 (encode_lower (to_be_bytes w64 at))

-- the line of bytes at a place
abbrev pub hex_line : ℕ → List ℕ → List ℕ
hex_line at bytes = place_text at ++ (codes " " ++ (encode_lower bytes ++ codes "\n"))

abbrev pub shown_line : ℕ → List ℕ → List ℕ
shown_line at bytes = if list_all (λ b. nat_eq b 0) bytes then [] else hex_line at bytes

-- the lines of bytes from a place on, at most so many
abbrev pub hex_lines : ℕ → ℕ → List ℕ → List ℕ
hex_lines zero at bytes = []
hex_lines (suc n) at [] = []
hex_lines (suc n) at (b ∷ bytes) = shown_line at (take 32 (b ∷ bytes)) ++ hex_lines n (at + 32) (drop 32 (b ∷ bytes))

unfoldable pub hex_dump : ℕ → List ℕ → List ℕ
hex_dump at bytes = hex_lines (length bytes) at bytes

pub short_dump : hex_dump 0 (replicate 32 0 ++ (1 ∷ 255 ∷ [])) ≡ codes "00000020 01ff\n"
unfolding hex_dump encode_with
short_dump = refl
