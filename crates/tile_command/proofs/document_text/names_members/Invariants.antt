-- the members of the names so far
use Rattle.tile_command.proofs.Common.{entries, fold, members_view, no_members, take, ◌≡◌}
use Rattle.tile_command.specs.Document.{with_stored}
use Rattle.tile_command.proofs.document_text.names_members.Given as goal

abbrev pub invariant-loop-index : goal.invariant-loop-index
invariant-loop-index l = members_view l.members.entries ≡ fold with_stored no_members (take l.index (entries l.set.state.metadata))
