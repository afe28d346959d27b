-- The texts so far.
use Rattle.tile_command.proofs.Common.{map, string, take, view, ◌≡◌}
use Rattle.tile_command.proofs.document_text.texts_value.Given as goal

abbrev pub invariant-loop-text : goal.invariant-loop-text
invariant-loop-text l = map view l.items.items ≡ map string (take l.text-index l.texts)
