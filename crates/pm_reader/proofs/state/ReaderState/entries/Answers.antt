use Rattle.pm_reader.proofs.Common.{false, refl}
use Rattle.pm_reader.proofs.WalkBeginsLemmas.{begins, queue_begins}
use Rattle.pm_reader.proofs.state.ReaderState.entries.Goals as goal

pub returns-clause-items : goal.returns-clause-items
returns-clause-items c = λ b opens.
    begins b c.args.self (record { alloc = c.args.self.alloc; header = c.args.self.header; current = c.args.self.root; at = 0; leaves = c.new.result; budget = c.args.budget; ended = false }) c.args.budget opens (queue_begins c.args.self.root c.new.result.items c.new.ensures.items) refl refl refl
