use Rattle.pm_writer.proofs.EntriesRead.{archive_entries, entries_counted}
use Rattle.pm_writer.proofs.laws.entries_are_read.Goals as goal

pub returns-clause-entries : goal.returns-clause-entries
returns-clause-entries c = archive_entries

pub returns-clause-count : goal.returns-clause-count
returns-clause-count c = entries_counted
