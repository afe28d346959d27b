-- The metadata of an archive: what a set says of itself, as an object of JSON.
use Rattle.std.specs.Prelude.{◌≡◌, ◌≤◌, ◌||◌, ℕ, Bool, false, cond, List, Option, Some, None, codes, fold, unwrap_or, refl}
use Rattle.set_options.specs.Common.{as_object, bytes_eq, Cell, Data, depth, entries, max_depth, member, Members, Names, no_members, object, option_and_then, put, read, string, Text, text_at}
use Rattle.set_options.specs.Common.{text_cell}
use Rattle.json.specs.Lex.{tokens}
use Rattle.json.specs.Print.{print}
use Rattle.serde_json.specs.Written.{compact_text, has_float, IsInOrder}

-- names that the header says, that `json` stands for, or that say nothing of an archive
abbrev pub is_left_out : List ℕ → Bool
is_left_out name =
    bytes_eq name (codes "format") || (bytes_eq name (codes "minzoom") || (bytes_eq name (codes "maxzoom")
    || (bytes_eq name (codes "bounds") || (bytes_eq name (codes "center") || (bytes_eq name (codes "json")
    || (bytes_eq name (codes "scheme") || (bytes_eq name (codes "hash_algorithm") || (bytes_eq name (codes "agg_tiles_hash")
    || (bytes_eq name (codes "agg_tiles_hash_before_apply") || bytes_eq name (codes "agg_tiles_hash_after_apply"))))))))))

-- members with the text of a name more, over one of that name; null says nothing
abbrev pub with_name : Members → List ℕ → Cell → Members
with_name ms name (Text text) = cond (is_left_out name) ms (put name (string text) ms)
with_name ms name _ = ms

abbrev pub with_entry : Members → List ℕ × Option (List ℕ) → Members
with_entry ms e = with_name ms e.0 (text_cell e.1)

-- the members of the object of JSON that the text of `json` is; none where it is no object
abbrev pub members_in : Option (List ℕ) → Members
members_in text = unwrap_or (option_and_then as_object (option_and_then read text)) no_members

-- the members of `json`, and over them the texts of all names that aren't left out
abbrev pub archive_members : Names → Members
archive_members names = fold with_entry (members_in (text_at names (codes "json"))) (entries names)

abbrev pub archive_data : Names → Data
archive_data names = object (archive_members names)

-- A text of a value. It is the one compact text, but for the digits of numbers that are held as floats: nothing stands
-- between its tokens, and its items and members are those of the value, each once and in order. It reads back as it.
pub record IsTextOf (text : List ℕ) (d : Data) : Type 0 where
  pub compact : has_float d ≡ false → text ≡ compact_text d
  pub spaced : text ≡ print (tokens text)
  pub order : IsInOrder text d
  pub reads_back : depth d ≤ max_depth → read text ≡ Some d

pub over_a_member : (d : Data) → with_entry (member (codes "name") d no_members) (codes "name", Some (codes "x")) ≡ member (codes "name") (string (codes "x")) no_members
over_a_member d = refl

pub null_stays : (ms : Members) → with_entry ms (codes "name", None) ≡ ms
null_stays ms = refl

pub left_out : (ms : Members) → with_entry ms (codes "format", Some (codes "pbf")) ≡ ms
left_out ms = refl
