-- What the words behind a subcommand ask for.
use Rattle.std.specs.Prelude.{ℕ, List, [], ◌∷◌, Option, Some, None, if◌then◌else◌, slice_get, unwrap_or}
use Rattle.tile_command.specs.Common.{bytes_eq}

-- the words beside options, and the options with their values
pub record AskedWords : Type 0 where
  pub places : List (List ℕ)
  pub options : List (List ℕ × List ℕ)

abbrev pub asked : List (List ℕ) → List (List ℕ × List ℕ) → AskedWords
asked places options = record { places = places; options = options }

-- the value of an option
abbrev pub value_in : List (List ℕ × List ℕ) → List ℕ → Option (List ℕ)
value_in [] name = None
value_in (o ∷ os) name = if bytes_eq o.0 name then Some o.1 else value_in os name

-- the word at a place, and no text where there is none
abbrev pub word_at : ℕ → List (List ℕ) → List ℕ
word_at place words = unwrap_or (slice_get words place) []
