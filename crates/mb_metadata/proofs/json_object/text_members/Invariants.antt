-- Putting what is left gives what putting all gives.
use Rattle.mb_metadata.proofs.Common.{drop, entries, members_view, no_members, string, with_entries, ◌≡◌}
use Rattle.mb_metadata.proofs.json_object.text_members.Given as goal

abbrev pub invariant-loop-index : goal.invariant-loop-index
invariant-loop-index l = with_entries string (members_view l.members.entries) (drop l.index (entries l.fields)) ≡ with_entries string no_members (entries l.fields)
