-- More parts than bounds and a center have.
use Rattle.set_options.proofs.Common.{arith, length, List, None, parted, refl, ℕ, [], ◌<◌, ◌∷◌, ◌≡◌}
use Rattle.line_words.proofs.PartingLemmas.{some_part}
use Rattle.set_options.specs.Extents.{bounds_of, center_of}

five : (a b c d : List ℕ) (parts : List (List ℕ)) → 0 < length parts → bounds_of (a ∷ b ∷ c ∷ d ∷ parts) ≡ None
five a b c d [] some = absurd (omega (arith, some))
five a b c d (e ∷ parts) some = refl

four : (a b c : List ℕ) (parts : List (List ℕ)) → 0 < length parts → center_of (a ∷ b ∷ c ∷ parts) ≡ None
four a b c [] some = absurd (omega (arith, some))
four a b c (d ∷ parts) some = refl

pub five_parts : (a b c d rest : List ℕ) → bounds_of (a ∷ b ∷ c ∷ d ∷ parted 44 rest) ≡ None
five_parts a b c d rest = five a b c d (parted 44 rest) (some_part 44 rest)

pub four_parts : (a b c rest : List ℕ) → center_of (a ∷ b ∷ c ∷ parted 44 rest) ≡ None
four_parts a b c rest = four a b c (parted 44 rest) (some_part 44 rest)

pub ruleset too_many = (five_parts, four_parts)
