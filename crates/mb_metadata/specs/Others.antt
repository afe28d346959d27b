-- The names of a set's metadata that have no field of their own.
use Rattle.std.specs.Prelude.{◌≡◌, refl, ℕ, ◌||◌, Bool, List, [], codes, Option, Some, None, option_map, option_and_then, if◌then◌else◌}
use Rattle.mb_metadata.specs.Common.{bytes_eq, Data, entries, FinMap, from_entries, insert, Names, nat_cmp, slice_cmp, string}
use Rattle.std.specs.List.{filter_map}
use Rattle.mb_metadata.specs.Said.{unless_empty}

-- names whose texts fill fields of the document
abbrev pub is_text_name : List ℕ → Bool
is_text_name name =
    bytes_eq name (codes "name") || (bytes_eq name (codes "version") || (bytes_eq name (codes "description")
    || (bytes_eq name (codes "attribution") || (bytes_eq name (codes "legend") || bytes_eq name (codes "template")))))

-- names that are read otherwise, or passed over
abbrev pub is_read_name : List ℕ → Bool
is_read_name name =
    bytes_eq name (codes "bounds") || (bytes_eq name (codes "center") || (bytes_eq name (codes "minzoom") || (bytes_eq name (codes "maxzoom")
    || (bytes_eq name (codes "json") || (bytes_eq name (codes "type") || (bytes_eq name (codes "agg_tiles_hash") || bytes_eq name (codes "scheme")))))))

abbrev pub has_field : List ℕ → Bool
has_field name = is_text_name name || is_read_name name

-- what another name says, as a text of JSON
abbrev pub other_entry : List ℕ × Option (List ℕ) → Option (List ℕ × Data)
other_entry e = if has_field e.0 then None else option_map (λ text. (e.0, string text)) (option_and_then unless_empty e.1)

-- fields with an entry more, if there is one
abbrev pub with_entry : FinMap (slice_cmp nat_cmp) Data → Option (List ℕ × Data) → FinMap (slice_cmp nat_cmp) Data
with_entry fields None = fields
with_entry fields (Some e) = insert fields e.0 e.1

abbrev pub others_of : List (List ℕ × Option (List ℕ)) → FinMap (slice_cmp nat_cmp) Data
others_of es = from_entries (filter_map other_entry es)

abbrev pub others_said : Names → FinMap (slice_cmp nat_cmp) Data
others_said names = others_of (entries names)

pub format : other_entry (codes "format", Some (codes "pbf")) ≡ Some (codes "format", string (codes "pbf"))
format = refl

pub scheme : other_entry (codes "scheme", Some (codes "tms")) ≡ None
scheme = refl

pub null_says_nothing : other_entry (codes "format", None) ≡ None
null_says_nothing = refl

pub empty_says_nothing : other_entry (codes "format", Some []) ≡ None
empty_says_nothing = refl

-- layers are read from `json` alone
pub layers_by_name : (text : List ℕ) → other_entry (codes "vector_layers", Some text) ≡ option_map (λ t. (codes "vector_layers", string t)) (unless_empty text)
layers_by_name text = refl
