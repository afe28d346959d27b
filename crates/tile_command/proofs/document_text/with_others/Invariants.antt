-- Putting what is left gives what putting all gives.
use Rattle.tile_command.proofs.Common.{as_it_is, drop, entries, members_view, with_entries, ◌≡◌}
use Rattle.tile_command.proofs.document_text.with_others.Given as goal

abbrev pub invariant-loop-index : goal.invariant-loop-index
invariant-loop-index l = with_entries as_it_is (members_view l.members.entries) (drop l.index (entries l.others)) ≡ with_entries as_it_is (members_view l.fn.members.entries) (entries l.others)
