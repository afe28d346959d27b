use Rattle.pm_format.proofs.EntryLemmas.{EntriesReading}
use Rattle.pm_format.proofs.directory.decode.read_entries.Given as goal

abbrev pub invariant-loop-i : goal.invariant-loop-i
invariant-loop-i l = EntriesReading l.bytes l.ids l.runs l.lengths l.start l.i l.at l.end l.entries.items
