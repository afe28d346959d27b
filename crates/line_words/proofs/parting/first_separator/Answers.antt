use Rattle.line_words.proofs.PartingLemmas.{separator_first, separator_there}
use Rattle.line_words.proofs.parting.first_separator.Goals as goal

pub returns-clause-found : goal.returns-clause-found
returns-clause-found c = separator_there c.args.separator c.args.bytes.now c.memchr.result c.memchr.ensures

pub returns-clause-before : goal.returns-clause-before
returns-clause-before c = separator_first c.args.separator c.args.bytes.now c.memchr.result c.memchr.ensures
