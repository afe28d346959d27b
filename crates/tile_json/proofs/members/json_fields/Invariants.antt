-- Putting what is left gives what putting all gives.
use Rattle.tile_json.proofs.Common.{members_view, with_all, ◌≡◌}
use Rattle.std.specs.FinMap as map
use Rattle.tile_json.proofs.members.json_fields.Given as goal

abbrev pub invariant-loop-name : goal.invariant-loop-name
invariant-loop-name l = with_all l.fields (members_view l.name-iterator) ≡ with_all map.empty (members_view l.fn.members.entries)
