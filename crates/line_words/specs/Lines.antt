-- The lines of an input.
use Rattle.std.specs.Prelude.{◌≡◌, ℕ, List, [], ◌∷◌, codes, refl}
use Rattle.line_words.specs.Parting.{parted}

-- the last part is a line only where it isn't empty
abbrev pub ended : List (List ℕ) → List (List ℕ)
ended [] = []
ended ([] ∷ []) = []
ended (line ∷ lines) = line ∷ ended lines

-- each line ends in a line feed; the last one may lack it
unfoldable pub lines_of : List ℕ → List (List ℕ)
lines_of bytes = ended (parted 10 bytes)

pub last_feed_missing : lines_of (codes "a\n\nbc") ≡ codes "a" ∷ [] ∷ codes "bc" ∷ []
unfolding lines_of parted
last_feed_missing = refl

pub last_feed_there : lines_of (codes "a\nbc\n") ≡ codes "a" ∷ codes "bc" ∷ []
unfolding lines_of parted
last_feed_there = refl

pub one_feed : lines_of (codes "\n") ≡ [] ∷ []
unfolding lines_of parted
one_feed = refl

pub no_byte : lines_of [] ≡ []
unfolding lines_of parted
no_byte = refl
