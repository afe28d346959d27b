-- Values of JSON without a member.
use Rattle.std.specs.Prelude.{◌≡◌, refl, ℕ, List, codes}
use Rattle.tile_json.specs.Common.{array, boolean, Data, member, no_members, null, number, object, string}
use Rattle.tile_json.specs.Members.{without}

-- an object without the member of a name; any other value as it is
abbrev pub without_member : List ℕ → Data → Data
without_member name null = null
without_member name (boolean b) = boolean b
without_member name (number n) = number n
without_member name (string text) = string text
without_member name (array ds) = array ds
without_member name (object ms) = object (without name ms)

pub only_member : (d : Data) → without_member (codes "a") (object (member (codes "a") d no_members)) ≡ object no_members
only_member d = refl

pub other_member : (d : Data) → without_member (codes "a") (object (member (codes "b") d no_members)) ≡ object (member (codes "b") d no_members)
other_member d = refl

pub null_stays : without_member (codes "a") null ≡ null
null_stays = refl
