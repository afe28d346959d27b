use Rattle.pm_writer.proofs.Canonical.{canon_again, canon_is, canon_map, canon_same, entries_sorted}
use Rattle.pm_writer.proofs.laws.archive_is_canonical.Goals as goal

pub returns-clause-entries : goal.returns-clause-entries
returns-clause-entries c = entries_sorted

pub returns-clause-maps : goal.returns-clause-maps
returns-clause-maps c = canon_same

pub returns-clause-adds : goal.returns-clause-adds
returns-clause-adds c = canon_is

pub returns-clause-tiles : goal.returns-clause-tiles
returns-clause-tiles c = canon_map

pub returns-clause-again : goal.returns-clause-again
returns-clause-again c = canon_again
