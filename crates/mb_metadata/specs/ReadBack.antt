-- What is read of a document that was put into the metadata of a set.
use Rattle.std.specs.Prelude.{◌≡◌, ◌≢◌, ℕ, List, [], codes, Option, Some, None, option_map}
use Rattle.mb_metadata.specs.Common.{Data, get, State, string, TileBounds, TileCenter, TileJson}
use Rattle.mb_metadata.specs.Inserting.{bounds_text, center_text, data_text, insert_edits}
use Rattle.mb_metadata.specs.NameEdits.{state_edited}
use Rattle.mb_metadata.specs.Reading.{metadata_of}
use Rattle.mb_metadata.specs.Said.{said, unless_empty}
use Rattle.mb_metadata.specs.declared.metadata.Metadata.{Metadata}
use Rattle.tile_json.specs.declared.extent.TileBounds.TheVariants as bounds
use Rattle.tile_json.specs.declared.extent.TileCenter.TheVariants as center

-- what the set of a file's name says once what a document says was put into it; and the document of that
abbrev pub said_after : List ℕ → State → TileJson → Metadata
said_after id s t = metadata_of id (state_edited s (insert_edits t s))

abbrev pub document_after : List ℕ → State → TileJson → TileJson
document_after id s t = (said_after id s t).tilejson

-- How the text of a name is read: by the text that a field puts there, by what `other` puts there, and by
-- what the set said before.
pub record IsRead (put : Option (List ℕ)) (beside : Option Data) (before after : Option (List ℕ)) : Type 0 where
  -- a text that isn't empty is read as it was put, whatever `other` has there
  pub same : (text : List ℕ) → put ≡ Some text → text ≢ [] → after ≡ Some text
  -- an empty one says nothing
  pub empty : put ≡ Some [] → after ≡ None
  -- without a text what `other` puts is read, and where it puts nothing, what the set said before
  pub instead : (d : Data) → put ≡ None → beside ≡ Some d → after ≡ unless_empty (data_text d)
  pub stays : put ≡ None → beside ≡ None → after ≡ before

-- the same of a name of a set, and of a document that is put into it
abbrev pub IsReadAt : State → TileJson → List ℕ → Option (List ℕ) → Option (List ℕ) → Type 0
IsReadAt s t name put after = IsRead put (get t.other name) (said s.metadata name) after

-- the same of what is read as a text of its own kind
pub record IsReadAs {A : Type 0} (kind : List ℕ → A) (s : State) (t : TileJson) (name : List ℕ) (put : Option (List ℕ)) (after : Option A) : Type 0 where
  pub text : Option (List ℕ)
  pub is : after ≡ option_map kind text
  pub read : IsReadAt s t name put text

-- bounds and center are read as the texts that stand for them
abbrev pub AreBoundsRead : State → TileJson → Option TileBounds → Type 0
AreBoundsRead s t after = IsReadAs bounds.Text s t (codes "bounds") (option_map bounds_text t.bounds) after

abbrev pub IsCenterRead : State → TileJson → Option TileCenter → Type 0
IsCenterRead s t after = IsReadAs center.Text s t (codes "center") (option_map center_text t.center) after

-- How a name that has no field is read: by what `other` puts there, and by what was read before.
pub record IsOtherRead (put : Option Data) (before after : Option Data) : Type 0 where
  -- a text that isn't empty is read as it was put
  pub same : (text : List ℕ) → put ≡ Some (string text) → text ≢ [] → after ≡ Some (string text)
  -- any value is read as the text that was put for it, an empty one as none
  pub any : (d : Data) → put ≡ Some d → after ≡ option_map string (unless_empty (data_text d))
  -- where nothing is put, what was read before stays
  pub stays : put ≡ None → after ≡ before
