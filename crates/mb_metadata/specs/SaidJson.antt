-- What the JSON of a set's metadata says: its layers, and all else.
use Rattle.std.specs.Prelude.{◌≡◌, refl, Bool, true, false, List, codes, Option, Some, None, option_and_then, if◌then◌else◌}
use Rattle.mb_metadata.specs.Common.{Data, layers_of, member, Names, no_members, null, object, VectorLayer, whole_data}
use Rattle.mb_metadata.specs.Said.{said}
use Rattle.serde_json.specs.Find.{get}
use Rattle.tile_json.specs.JsonReading.{without_member}

-- the value that the text of `json` is; none where it isn't JSON in which no number is held as a float
abbrev pub value_said : Names → Option Data
value_said names = option_and_then whole_data (said names (codes "json"))

-- the layers that an object lists
abbrev pub layers_in : Data → Option (List VectorLayer)
layers_in d = option_and_then layers_of (get (codes "vector_layers") d)

abbrev pub is_bare : Data → Bool
is_bare (object no_members) = true
is_bare _ = false

-- an object without members says nothing
abbrev pub unless_bare : Data → Option Data
unless_bare d = if is_bare d then None else Some d

-- what is left once layers are taken out, also where they can't be read as layers
abbrev pub all_else : Data → Option Data
all_else d = unless_bare (without_member (codes "vector_layers") d)

abbrev pub layers_said : Names → Option (List VectorLayer)
layers_said names = option_and_then layers_in (value_said names)

abbrev pub json_said : Names → Option Data
json_said names = option_and_then all_else (value_said names)

pub layers_alone : (d : Data) → all_else (object (member (codes "vector_layers") d no_members)) ≡ None
layers_alone d = refl

pub beside_layers : (d x : Data) → all_else (object (member (codes "tilestats") x (member (codes "vector_layers") d no_members))) ≡ Some (object (member (codes "tilestats") x no_members))
beside_layers d x = refl

pub no_layers : layers_in (object (member (codes "vector_layers") null no_members)) ≡ None
no_layers = refl

pub null_stays : all_else null ≡ Some null
null_stays = refl
