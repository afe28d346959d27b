-- What an archive says of itself, by its header and the text of its metadata, as the document that is put into a set.
use Rattle.std.specs.Prelude.{◌≡◌, ℕ, true, false, List, [], Option, Some, None, Result, Ok, Err, codes, refl}
use Rattle.set_options.specs.Common.{as_object, Header, insert, is_bare, JsonMap, Members, object, option_and_then, read, string, TileType}
use Rattle.set_options.specs.ExtentsText.{bounds_said, center_said}
use Rattle.set_options.specs.Parting.{kept_in, names_in}
use Rattle.pm_format.specs.TileJson.{tilejson_of}
use Rattle.pm_format.specs.declared.tile_type.TileType.TheVariants as types
use Rattle.set_options.specs.ArchiveJson.{IsTextOf}
use Rattle.set_options.specs.Format.{type_named, type_of}
use Rattle.tile_json.specs.declared.document.TileJson.{TileJson}
use Rattle.tile_json.specs.declared.error.DocumentError.{DocumentError}
use Rattle.tile_json.specs.declared.error.DocumentError.TheVariants as errors

-- the text of `format`; none where the type isn't known
abbrev pub format_of : TileType → Option (List ℕ)
format_of types.Unknown = None
format_of types.Mvt = Some (codes "pbf")
format_of types.Png = Some (codes "png")
format_of types.Jpeg = Some (codes "jpg")
format_of types.Webp = Some (codes "webp")
format_of types.Avif = Some (codes "avif")
format_of types.Mlt = Some (codes "mlt")

-- such a text says the type again
pub says_type : (kind : TileType) → type_of (format_of kind) ≡ kind
unfolding type_named
says_type types.Unknown = refl
says_type types.Mvt = refl
says_type types.Png = refl
says_type types.Jpeg = refl
says_type types.Webp = refl
says_type types.Avif = refl
says_type types.Mlt = refl

-- a text at a name, if there is one
abbrev pub with_any : JsonMap → List ℕ → Option (List ℕ) → JsonMap
with_any names name None = names
with_any names name (Some text) = insert names name (string text)

-- all names without a field of their own
abbrev pub names_of : TileType → JsonMap → Option (List ℕ) → JsonMap
names_of kind names json = with_any (with_any names (codes "format") (format_of kind)) (codes "json") json

-- zooms as the header says them, bounds and center where a set has to say them, and these names; the texts of the
-- metadata stand among the names, and fill no fields
abbrev pub document_of : Header → JsonMap → Option (List ℕ) → TileJson
document_of h names json = record (tilejson_of h []) {
  bounds = bounds_said h;
  center = center_said h;
  other = names_of h.tile_type names json;
}

-- the text of `json`: none where it keeps no member, else a text of the object of those that it keeps
abbrev pub IsJsonOf : Members → Option (List ℕ) → Type 0
IsJsonOf kept None = is_bare (object kept) ≡ true
IsJsonOf kept (Some text) = (is_bare (object kept) ≡ false) × IsTextOf text (object kept)

-- The document of a header and of the members of the metadata. Its text of `json` is a fact and not a function, since
-- nothing says which digits a number has that is held as a float.
pub record IsOfMembers (h : Header) (ms : Members) (t : TileJson) : Type 0 where
  pub json : Option (List ℕ)
  pub is_json : IsJsonOf (kept_in ms) json
  pub is : t ≡ document_of h (names_in ms) json

-- the members of the object that a text of JSON is
abbrev pub object_in : List ℕ → Option Members
object_in text = option_and_then as_object (read text)

-- the document of a header and of the text of the metadata
abbrev pub IsDocumentOf : Header → List ℕ → TileJson → Type 0
IsDocumentOf h text t = (ms : Members) × (object_in text ≡ Some ms) × IsOfMembers h ms t

-- it is given, or the text is refused exactly where it is no object; running out of memory may
-- come in the place of both
abbrev pub IsAnswered : Header → List ℕ → Result TileJson DocumentError → Type 0
IsAnswered h text (Ok t) = IsDocumentOf h text t
IsAnswered h text (Err errors.Invalid) = object_in text ≡ None
IsAnswered h text (Err errors.OutOfMemory) = Unit {0}
