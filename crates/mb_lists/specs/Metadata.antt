-- The metadata of a set: texts, or null, by name.
use Rattle.std.specs.Prelude.{ℕ, codes, List, Option, Some, None, filter_map, option_and_then}
use Rattle.mb_lists.specs.Common.{Cell, cell_at, find, FinMap, from_entries, get, InvalidDataFormat, MbtError, nat_cmp, slice_cmp, Text, unless}
use Rattle.mb_lists.specs.Contents.{are_apart, fronts}

-- names in the order of their bytes, each with a text or null
abbrev pub Names : Type 0
Names = FinMap (slice_cmp nat_cmp) (Option (List ℕ))

-- the text of a cell; null, and any other kind, is none
abbrev pub text_of : Cell → Option (List ℕ)
text_of (Text text) = Some text
text_of _ = None

-- the name and value of a row of metadata; a row of a null name has none
abbrev pub entry_of : Option (List ℕ) → Cell → Option (List ℕ × Option (List ℕ))
entry_of (Some name) value = Some (name, text_of value)
entry_of None value = None

abbrev pub name_entry : List Cell → Option (List ℕ × Option (List ℕ))
name_entry row = entry_of (text_of (cell_at 0 row)) (cell_at 1 row)

abbrev pub names_of : List (List Cell) → Names
names_of metadata = from_entries (filter_map name_entry metadata)

-- a name stands twice
abbrev pub name_twice : List (List Cell) → Option MbtError
name_twice metadata = unless (are_apart (fronts metadata)) InvalidDataFormat

-- the text under a name; none where there is no row of it, or null
abbrev pub stored_text : List ℕ → List (List Cell) → Option (List ℕ)
stored_text name metadata = option_and_then (λ value. value) (find (slice_cmp nat_cmp) name (filter_map name_entry metadata))

-- the text under a name of loaded metadata; none where the name isn't there, or null
abbrev pub text_at : Names → List ℕ → Option (List ℕ)
text_at metadata name = option_and_then (λ value. value) (get metadata name)

-- the digest of all tiles that metadata has, and those of before and after a patch
abbrev pub agg_hash : Names → Option (List ℕ)
agg_hash names = text_at names (codes "agg_tiles_hash")

abbrev pub before_hash : Names → Option (List ℕ)
before_hash names = text_at names (codes "agg_tiles_hash_before_apply")

abbrev pub after_hash : Names → Option (List ℕ)
after_hash names = text_at names (codes "agg_tiles_hash_after_apply")
