-- Adding what is left gives what adding all gives.
use Rattle.tile_json.proofs.Common.{members_view, ◌≡◌}
use Rattle.tile_json.specs.Reading.{with_members}
use Rattle.tile_json.proofs.document.TileJson.add_members.Given as goal

abbrev pub invariant-loop-name : goal.invariant-loop-name
invariant-loop-name l = with_members l.self (members_view l.name-iterator) ≡ with_members l.initial.self (members_view l.fn.members.entries)
