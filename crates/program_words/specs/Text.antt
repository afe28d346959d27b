-- The texts that a command line asks for.
use Rattle.std.specs.Prelude.{ℕ, codes, cond, List, [], ◌∷◌, Option, Some, None}
use Rattle.std.specs.Str.{bytes_eq}

-- a single word asks for the help text or the version
abbrev pub asked_text : List (List ℕ) → List ℕ → List ℕ → Option (List ℕ)
asked_text (word ∷ []) help version = cond (bytes_eq word (codes "--help")) (Some help) (cond (bytes_eq word (codes "-h")) (Some help) (cond (bytes_eq word (codes "--version")) (Some version) None))
asked_text _ help version = None
