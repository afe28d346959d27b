-- The words behind a subcommand: its options, and all others by their places.
use Rattle.std.specs.Prelude.{◌≡◌, ◌++◌, ◌&&◌, ℕ, Bool, true, false, List, [], ◌∷◌, Option, Some, None, codes, if◌then◌else◌, is_none, is_some, length, nat_eq, nat_le, refl}
use Rattle.std.specs.Option.{option_and_then}
use Rattle.tile_command.specs.Asked.{asked, AskedWords, value_in}
use Rattle.tile_command.specs.Common.{bytes_eq}
use Rattle.tile_command.specs.Subcommand.{has_flag, has_option, places}
use Rattle.tile_command.specs.declared.subcommand.Subcommand.{Subcommand}
use Rattle.tile_command.specs.declared.subcommand.Subcommand.TheVariants as sub

-- whether a word begins with two dashes, and has more
abbrev pub is_option : List ℕ → Bool
is_option (a ∷ b ∷ c ∷ word) = nat_eq a 45 && nat_eq b 45
is_option _ = false

-- words behind others
abbrev pub with_places : List (List ℕ) → List (List ℕ) → List (List ℕ)
with_places before [] = before
with_places before (word ∷ words) = with_places (before ++ (word ∷ [])) words

-- words that are read so far, and the option whose value is to follow
pub record Draft : Type 0 where
  pub places : List (List ℕ)
  pub options : List (List ℕ × List ℕ)
  pub pending : Option (List ℕ)

abbrev pub draft : List (List ℕ) → List (List ℕ × List ℕ) → Option (List ℕ) → Draft
draft places options pending = record { places = places; options = options; pending = pending }

-- an option behind others, among which it may not stand: alone, or its value is to follow
abbrev pub with_name : Subcommand → List (List ℕ) → List (List ℕ × List ℕ) → List ℕ → Option Draft
with_name s before options word =
    if is_some (value_in options word) then None
    else (if has_flag s word then Some (draft before (options ++ ((word, []) ∷ [])) None)
    else (if has_option s word then Some (draft before options (Some word)) else None))

-- the value of the option that is pending, an option, or another word
abbrev pub with_next : Subcommand → Draft → List ℕ → Option (List ℕ) → Option Draft
with_next s d word (Some name) = Some (draft d.places (d.options ++ ((name, word) ∷ [])) None)
with_next s d word None = if is_option word then with_name s d.places d.options word else Some (draft (d.places ++ (word ∷ [])) d.options None)

abbrev pub with_word : Subcommand → Draft → List ℕ → Option Draft
with_word s d word = with_next s d word d.pending

-- as many words as the subcommand has
abbrev pub fits : Subcommand → List (List ℕ) → List (List ℕ × List ℕ) → Option AskedWords
fits s words options =
    if nat_le (places s).0 (length words) && nat_le (length words) (places s).1 then Some (asked words options) else None

-- where no value is to follow
abbrev pub ended : Subcommand → Draft → Option AskedWords
ended s d = if is_some d.pending then None else fits s d.places d.options

-- two dashes alone, which are no value of an option
abbrev pub ends_options : Option (List ℕ) → List ℕ → Bool
ends_options pending word = is_none pending && bytes_eq word (codes "--")

-- what words ask for behind these: options anywhere in front of `--`, and behind it none
abbrev pub asked_after : Subcommand → Draft → List (List ℕ) → Option AskedWords
asked_after s d [] = ended s d
asked_after s d (word ∷ words) =
    if ends_options d.pending word then fits s (with_places d.places words) d.options
    else option_and_then (λ e. asked_after s e words) (with_word s d word)

abbrev pub asked_in : Subcommand → List (List ℕ) → Option AskedWords
asked_in s words = asked_after s (draft [] [] None) words

pub an_option_behind : asked_in sub.Pack (codes "a" ∷ codes "b" ∷ codes "--scheme" ∷ codes "tms" ∷ []) ≡ Some (asked (codes "a" ∷ codes "b" ∷ []) ((codes "--scheme", codes "tms") ∷ []))
an_option_behind = refl

pub a_value_with_dashes : asked_in sub.MetaSet (codes "a" ∷ codes "--" ∷ codes "name" ∷ codes "--x" ∷ []) ≡ Some (asked (codes "a" ∷ codes "name" ∷ codes "--x" ∷ []) [])
a_value_with_dashes = refl

pub twice : asked_in sub.Patch (codes "--force" ∷ codes "a" ∷ codes "--force" ∷ codes "b" ∷ []) ≡ None
twice = refl

pub without_its_value : asked_in sub.Validate (codes "a" ∷ codes "--agg-hash" ∷ []) ≡ None
without_its_value = refl

pub of_another : asked_in sub.Summary (codes "--force" ∷ codes "a" ∷ []) ≡ None
of_another = refl
