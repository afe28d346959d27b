use Rattle.set_conversion.proofs.PlainLemmas.{plain_of_set}
use Rattle.set_conversion.proofs.said_options.said_writer.Goals as goal

pub returns-clause-plain : goal.returns-clause-plain
returns-clause-plain c = plain_of_set c.args.set.now.state c.in_ok-writer.writer c.in_ok-writer.ensures
