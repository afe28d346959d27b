-- Single values of metadata.
use Rattle.std.specs.Prelude.{ℕ, List, [], ◌∷◌, Option, Some, None, Result, Ok, Err, option_to_list}
use Rattle.std.specs.Borrow.{Bor}
use Rattle.mb_metadata.specs.Common.{MbtError, State, text_at}
use Rattle.mb_metadata.specs.NameEdits.{put_of, removal}
use Rattle.mb_metadata.specs.ZoomText.{zoom_of}
use Rattle.mb_metadata.specs.declared.name_edits.NameEdit.{NameEdit}
use Rattle.mb_tables.specs.declared.error.MbtError.TheVariants.{InvalidZoomValue}

-- the text under a name; none where the name isn't there, or null
abbrev pub value_answer : List ℕ → State → Result (Option (List ℕ)) MbtError
value_answer name s = Ok (text_at s.metadata name)

-- a zoom, or the refusal of a text that spells none, with its name
abbrev pub zoom_or_refused : Bor (List ℕ) → List ℕ → Option ℕ → Result (Option ℕ) MbtError
zoom_or_refused name text (Some zoom) = Ok (Some zoom)
zoom_or_refused name text None = Err (InvalidZoomValue name text)

abbrev pub zoom_value : Bor (List ℕ) → Option (List ℕ) → Result (Option ℕ) MbtError
zoom_value name None = Ok None
zoom_value name (Some text) = zoom_or_refused name text (zoom_of text)

-- the zoom that the text under a name spells; none where the name isn't there, or null
abbrev pub zoom_value_answer : Bor (List ℕ) → State → Result (Option ℕ) MbtError
zoom_value_answer name s = zoom_value name (text_at s.metadata name.now)

-- a text is put under a name, and a name is removed where it is there
abbrev pub set_edits : List ℕ → List ℕ → State → List NameEdit
set_edits name text s = put_of name text ∷ []

abbrev pub delete_edits : List ℕ → State → List NameEdit
delete_edits name s = option_to_list (removal s.metadata name)
