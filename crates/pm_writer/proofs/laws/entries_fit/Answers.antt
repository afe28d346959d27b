use Rattle.pm_writer.proofs.Bounds.{entries_few, entries_fit as fit}
use Rattle.pm_writer.proofs.laws.entries_fit.Goals as goal

pub returns : goal.returns
returns c = λ o adds dist low sized total. (fit adds low sized total, entries_few adds dist low)
