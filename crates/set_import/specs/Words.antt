-- How many tiles the words of a command line allow.
use Rattle.std.specs.Prelude.{◌≡◌, ℕ, List, [], ◌∷◌, Option, Some, None, codes, refl}
use Rattle.line_words.specs.Number.{number_to}

-- no word: ten million; a word: the number of 64 bits that it spells
abbrev pub limit_in : List (List ℕ) → Option ℕ
limit_in [] = Some 10000000
limit_in (word ∷ []) = number_to 18446744073709551615 word
limit_in (word ∷ next ∷ words) = None

pub greatest : limit_in (codes "18446744073709551615" ∷ []) ≡ Some 18446744073709551615
greatest = refl

pub past_a_number : limit_in (codes "18446744073709551616" ∷ []) ≡ None
past_a_number = refl

pub no_number : limit_in (codes "many" ∷ []) ≡ None
no_number = refl

pub two_words : limit_in (codes "1" ∷ codes "2" ∷ []) ≡ None
two_words = refl
