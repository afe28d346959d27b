-- The members of an archive's metadata in two parts: the texts that become names of a set, and
-- what the name `json` keeps.
use Rattle.std.specs.Prelude.{◌≡◌, ℕ, List, codes, cond, refl}
use Rattle.set_options.specs.Common.{array, boolean, Data, empty, insert, JsonMap, member, Members, no_members, null, Num, number, object, put, string}
use Rattle.set_options.specs.ArchiveJson.{is_left_out}

-- the names with a member more: a text, unless the header says it, or it says nothing of an archive
abbrev pub with_name : JsonMap → List ℕ → Data → JsonMap
with_name names name (string text) = cond (is_left_out name) names (insert names name (string text))
with_name names name _ = names

-- what `json` keeps with a member more: any that becomes no name
abbrev pub with_kept : Members → List ℕ → Data → Members
with_kept kept name null = put name null kept
with_kept kept name (boolean b) = put name (boolean b) kept
with_kept kept name (number n) = put name (number n) kept
with_kept kept name (string text) = cond (is_left_out name) (put name (string text) kept) kept
with_kept kept name (array ds) = put name (array ds) kept
with_kept kept name (object ms) = put name (object ms) kept

-- the same of all members
abbrev pub with_names : JsonMap → Members → JsonMap
with_names names no_members = names
with_names names (member name d ms) = with_names (with_name names name d) ms

abbrev pub with_all_kept : Members → Members → Members
with_all_kept kept no_members = kept
with_all_kept kept (member name d ms) = with_all_kept (with_kept kept name d) ms

abbrev pub names_in : Members → JsonMap
names_in ms = with_names empty ms

abbrev pub kept_in : Members → Members
kept_in ms = with_all_kept no_members ms

pub a_text : (text : List ℕ) → kept_in (member (codes "name") (string text) no_members) ≡ no_members
a_text text = refl

pub a_number : (n : Num) → kept_in (member (codes "name") (number n) no_members) ≡ member (codes "name") (number n) no_members
a_number n = refl

pub null_is_kept : with_name empty (codes "name") null ≡ empty
null_is_kept = refl

-- what the header says, or says nothing of an archive, is kept though it is a text
pub a_hash : (text : List ℕ) → kept_in (member (codes "agg_tiles_hash") (string text) no_members) ≡ member (codes "agg_tiles_hash") (string text) no_members
a_hash text = refl
