-- Putting what is left gives what putting all gives.
use Rattle.tile_json.proofs.Common.{members_view, with_texts, ◌≡◌}
use Rattle.std.specs.FinMap as map
use Rattle.tile_json.proofs.members.text_fields.Given as goal

abbrev pub invariant-loop-name : goal.invariant-loop-name
invariant-loop-name l = with_texts l.fields (members_view l.name-iterator) ≡ with_texts map.empty (members_view l.fn.members.entries)
