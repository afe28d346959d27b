-- What the words of a conversion of sets ask for.
use Rattle.std.specs.Prelude.{◌≡◌, ℕ, Bool, true, false, List, [], ◌∷◌, ◌++◌, if◌then◌else◌, nat_eq, Option, Some, None, codes, refl}
use Rattle.std.specs.Option.{option_map}
use Rattle.std.specs.Str.{bytes_eq}
use Rattle.set_conversion.specs.PartWords.{after_number, is_number}
use Rattle.set_conversion.specs.declared.part.SetPart.{SetPart}
use Rattle.set_conversion.specs.declared.part.SetPart.TheVariants.{Whole, Below, Ids}
use Rattle.set_conversion.specs.declared.part_words.Awaited.{Awaited}
use Rattle.set_conversion.specs.declared.part_words.Awaited.TheVariants.{Any, Zoom, First}
use Rattle.set_conversion.specs.declared.words.ConversionFlags.{ConversionFlags}
use Rattle.set_conversion.specs.declared.words.WordRead.{WordRead}
use Rattle.set_conversion.specs.declared.words.WordRead.TheVariants.{Flags, File, Rest, Other}

-- flags, and files: that of the base, those of its patches in their order, and that of the archive
pub record Asked : Type 0 where
  pub flags : ConversionFlags
  pub files : List (List ℕ)

abbrev pub asked : ConversionFlags → List (List ℕ) → Asked
asked flags files = record { flags = flags; files = files }

-- whether a word begins with a dash, and has more
abbrev pub is_option : List ℕ → Bool
is_option (b ∷ c ∷ word) = nat_eq b 45
is_option _ = false

-- files are two at least
abbrev pub enough : ConversionFlags → List (List ℕ) → Option Asked
enough flags (base ∷ next ∷ files) = Some (asked flags (base ∷ next ∷ files))
enough flags _ = None

-- flags with one more, by its word
abbrev pub with_flag : ConversionFlags → List ℕ → Option ConversionFlags
with_flag flags word =
    if bytes_eq word (codes "--force") then Some (record flags { force = true })
    else (if bytes_eq word (codes "--verify") then Some (record flags { verify = true })
    else (if bytes_eq word (codes "--hash") then Some (record flags { hash = true })
    else (if bytes_eq word (codes "--overwrite") then Some (record flags { overwrite = true })
    else (if bytes_eq word (codes "--strict") then Some (record flags { strict = true }) else None))))

-- whether no part is named
abbrev pub is_whole : ConversionFlags → Bool
is_whole flags = elim flags.part [ Whole ↦ true | Below z x y ↦ false | Ids first last ↦ false ]

-- the numbers of a part stand behind its flag, of which there is one
abbrev pub with_part : ConversionFlags → Awaited → Option (Awaited × ConversionFlags)
with_part flags awaited = if is_whole flags then Some (awaited, flags) else None

-- a flag, and what is read behind it
abbrev pub with_word : ConversionFlags → List ℕ → Option (Awaited × ConversionFlags)
with_word flags word =
    if bytes_eq word (codes "--part") then with_part flags Zoom
    else (if bytes_eq word (codes "--ids") then with_part flags First
    else option_map (λ f. (Any, f)) (with_flag flags word))

-- a number of a part, and what is read behind it
abbrev pub with_number : Awaited → ConversionFlags → List ℕ → Option (Awaited × ConversionFlags)
with_number awaited flags word = option_map (λ n. (n.0, record flags { part = n.1 })) (after_number awaited flags.part word)

-- words as files, behind others
abbrev pub with_files : List (List ℕ) → List (List ℕ) → List (List ℕ)
with_files files [] = files
with_files files (word ∷ words) = with_files (files ++ (word ∷ [])) words

-- files behind all words, where no number is missing
abbrev pub ended : Awaited → ConversionFlags → List (List ℕ) → Option Asked
ended awaited flags files = if is_number awaited then None else enough flags files

-- what a word is: flags in any order, numbers behind that of a part, files, and `--`
abbrev pub of_flags : Option (Awaited × ConversionFlags) → WordRead
of_flags None = Other
of_flags (Some n) = Flags n.0 n.1

abbrev pub word_read : Awaited → ConversionFlags → List ℕ → WordRead
word_read awaited flags word =
    if is_number awaited then of_flags (with_number awaited flags word)
    else (if bytes_eq word (codes "--") then Rest
    else (if is_option word then of_flags (with_word flags word) else File))

-- what words ask for that stand behind these flags and files: flags anywhere in front of `--`,
-- and behind it files alone
abbrev pub asked_after : Awaited → ConversionFlags → List (List ℕ) → List (List ℕ) → Option Asked
asked_after awaited flags files [] = ended awaited flags files
asked_after awaited flags files (word ∷ words) = elim (word_read awaited flags word) [
  | Flags next more ↦ asked_after next more files words
  | File ↦ asked_after Any flags (files ++ (word ∷ [])) words
  | Rest ↦ enough flags (with_files files words)
  | Other ↦ None
]

abbrev pub no_flags : ConversionFlags
no_flags = record { force = false; verify = false; hash = false; overwrite = false; strict = false; part = Whole }

-- flags in any order, in front of files, among them or behind, and two files at least
abbrev pub asked_in : List (List ℕ) → Option Asked
asked_in words = asked_after Any no_flags [] words

pub a_base_and_a_patch : asked_in (codes "--verify" ∷ codes "--force" ∷ codes "a" ∷ codes "b" ∷ codes "c" ∷ []) ≡
    Some (asked (record { force = true; verify = true; hash = false; overwrite = false; strict = false; part = Whole }) (codes "a" ∷ codes "b" ∷ codes "c" ∷ []))
a_base_and_a_patch = refl

pub files_with_dashes : asked_in (codes "--overwrite" ∷ codes "--" ∷ codes "--force" ∷ codes "-b" ∷ []) ≡
    Some (asked (record { force = false; verify = false; hash = false; overwrite = true; strict = false; part = Whole }) (codes "--force" ∷ codes "-b" ∷ []))
files_with_dashes = refl

pub flags_behind_files : asked_in (codes "a" ∷ codes "--strict" ∷ codes "b" ∷ codes "--force" ∷ []) ≡
    Some (asked (record { force = true; verify = false; hash = false; overwrite = false; strict = true; part = Whole }) (codes "a" ∷ codes "b" ∷ []))
flags_behind_files = refl

pub a_lone_dash : asked_in (codes "a" ∷ codes "-" ∷ []) ≡ Some (asked no_flags (codes "a" ∷ codes "-" ∷ []))
a_lone_dash = refl

pub one_file : asked_in (codes "--force" ∷ codes "a" ∷ []) ≡ None
one_file = refl

pub no_such_flag : asked_in (codes "--quiet" ∷ codes "a" ∷ codes "b" ∷ []) ≡ None
no_such_flag = refl

pub no_words : asked_in [] ≡ None
no_words = refl

pub a_subtree : asked_in (codes "--part" ∷ codes "2" ∷ codes "3" ∷ codes "0" ∷ codes "a" ∷ codes "b" ∷ []) ≡
    Some (asked (record no_flags { part = Below 2 3 0 }) (codes "a" ∷ codes "b" ∷ []))
a_subtree = refl

pub some_ids : asked_in (codes "a" ∷ codes "--ids" ∷ codes "0" ∷ codes "20" ∷ codes "b" ∷ []) ≡
    Some (asked (record no_flags { part = Ids 0 20 }) (codes "a" ∷ codes "b" ∷ []))
some_ids = refl

pub no_such_tile : asked_in (codes "--part" ∷ codes "2" ∷ codes "4" ∷ codes "0" ∷ codes "a" ∷ codes "b" ∷ []) ≡ None
no_such_tile = refl

pub a_number_missing : asked_in (codes "a" ∷ codes "b" ∷ codes "--ids" ∷ codes "0" ∷ []) ≡ None
a_number_missing = refl

pub two_parts : asked_in (codes "--ids" ∷ codes "0" ∷ codes "4" ∷ codes "--ids" ∷ codes "5" ∷ codes "6" ∷ codes "a" ∷ codes "b" ∷ []) ≡ None
two_parts = refl
