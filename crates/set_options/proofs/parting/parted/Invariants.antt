-- Putting what is left gives what putting all gives.
use Rattle.set_options.proofs.Common.{kept_in, members_view, names_in, with_all_kept, with_names, ◌≡◌}
use Rattle.set_options.proofs.parting.parted.Given as goal

abbrev pub invariant-loop-name : goal.invariant-loop-name
invariant-loop-name l =
    (with_names l.names (members_view l.name-iterator) ≡ names_in (members_view l.fn.members.entries))
    × (with_all_kept (members_view l.kept.entries) (members_view l.name-iterator) ≡ kept_in (members_view l.fn.members.entries))
