use Rattle.pm_writer.proofs.Labelled.{hidden_refused, opened_labelled, opened_whole}
use Rattle.pm_writer.proofs.laws.only_labelled_bytes_open.Goals as goal

pub returns-clause-label : goal.returns-clause-label
returns-clause-label c = opened_labelled

pub returns-clause-hidden : goal.returns-clause-hidden
returns-clause-hidden c = hidden_refused

pub returns-clause-whole : goal.returns-clause-whole
returns-clause-whole c = opened_whole
