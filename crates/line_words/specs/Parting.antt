-- Bytes in parts, between separators.
use Rattle.std.specs.Prelude.{◌≡◌, ◌≢◌, ◌<◌, ℕ, slice_index, List, [], ◌∷◌, nat_eq, if◌then◌else◌, codes, refl}

-- a byte in front of the first part
abbrev pub onto : ℕ → List (List ℕ) → List (List ℕ)
onto b [] = (b ∷ []) ∷ []
onto b (part ∷ parts) = (b ∷ part) ∷ parts

-- the parts before, between and behind the separators, each of which may be empty
unfoldable pub parted : ℕ → List ℕ → List (List ℕ)
parted separator [] = [] ∷ []
parted separator (b ∷ bytes) = if nat_eq b separator then [] ∷ parted separator bytes else onto b (parted separator bytes)

-- the words of a line, each two parted by one space
abbrev pub words_of : List ℕ → List (List ℕ)
words_of line = parted 32 line

-- no separator stands below a place
abbrev pub HasNo : ℕ → List ℕ → ℕ → Type 0
HasNo separator bytes n = (k : ℕ) → k < n → slice_index bytes k ≢ separator

pub two_words : words_of (codes "ab c") ≡ codes "ab" ∷ codes "c" ∷ []
unfolding parted
two_words = refl

pub two_spaces : words_of (codes "a  b ") ≡ codes "a" ∷ [] ∷ codes "b" ∷ [] ∷ []
unfolding parted
two_spaces = refl
