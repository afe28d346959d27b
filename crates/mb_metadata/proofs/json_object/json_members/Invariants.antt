-- Putting what is left gives what putting all gives.
use Rattle.mb_metadata.proofs.Common.{as_it_is, drop, entries, members_view, no_members, with_entries, ◌≡◌}
use Rattle.mb_metadata.proofs.json_object.json_members.Given as goal

abbrev pub invariant-loop-index : goal.invariant-loop-index
invariant-loop-index l = with_entries as_it_is (members_view l.members.entries) (drop l.index (entries l.fields)) ≡ with_entries as_it_is no_members (entries l.fields)
