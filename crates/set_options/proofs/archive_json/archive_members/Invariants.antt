-- the members of the names so far
use Rattle.set_options.proofs.Common.{codes, entries, fold, members_in, members_view, take, text_at, with_entry, ◌≡◌}
use Rattle.set_options.proofs.archive_json.archive_members.Given as goal

abbrev pub invariant-loop-index : goal.invariant-loop-index
invariant-loop-index g l = members_view l.members.entries ≡ fold with_entry (members_in (text_at (g.N.HasNames.names l.names) (codes "json"))) (take l.index (entries (g.N.HasNames.names l.names)))
