-- The members of an object of JSON.
use Rattle.std.specs.Prelude.{ℕ, List, Option, Some, option_and_then, if◌then◌else◌}
use Rattle.tile_json.specs.Common.{as_str, Data, FinMap, insert, is_eq, member, Members, nat_cmp, no_members, slice_cmp}

-- all but the one of a name
abbrev pub without : List ℕ → Members → Members
without name no_members = no_members
without name (member k d ms) = if is_eq (slice_cmp nat_cmp name k) then ms else member k d (without name ms)

-- the map with each member put at its name
abbrev pub with_all : FinMap (slice_cmp nat_cmp) Data → Members → FinMap (slice_cmp nat_cmp) Data
with_all fields no_members = fields
with_all fields (member k d ms) = with_all (insert fields k d) ms

-- the same, where all are texts
abbrev pub with_texts : FinMap (slice_cmp nat_cmp) (List ℕ) → Members → Option (FinMap (slice_cmp nat_cmp) (List ℕ))
with_texts fields no_members = Some fields
with_texts fields (member k d ms) = option_and_then (λ text. with_texts (insert fields k text) ms) (as_str d)
