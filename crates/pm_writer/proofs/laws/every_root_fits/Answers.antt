use Rattle.pm_writer.proofs.Laying.{root_small}
use Rattle.pm_writer.proofs.laws.every_root_fits.Goals as goal

pub returns : goal.returns
returns c = λ es size. root_small size es
