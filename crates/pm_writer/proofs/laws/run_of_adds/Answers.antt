use Rattle.pm_writer.proofs.Common.{sym, ◌∙◌}
use Rattle.pm_writer.proofs.ContentLemmas.{run_more}
use Rattle.pm_writer.proofs.RunTaken.{run_filled, run_listed}
use Rattle.pm_writer.proofs.laws.run_of_adds.Goals as goal

pub returns : goal.returns
returns c = record {
  entries = run_more;
  turns = run_listed;
  adds = λ adds id n bytes some. sym (run_filled adds id n bytes some) ∙ run_listed adds id n bytes;
}
