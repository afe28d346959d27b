use Rattle.pm_writer.proofs.Sorted.{adds_distinct, ids_rise, rising_adds, sorted_archivable, sorted_formed, sorted_map}
use Rattle.pm_writer.proofs.laws.rising_adds_are_distinct.Goals as goal

pub returns-clause-distinct : goal.returns-clause-distinct
returns-clause-distinct c = adds_distinct

pub returns-clause-clustered : goal.returns-clause-clustered
returns-clause-clustered c = ids_rise

pub returns-clause-pairs : goal.returns-clause-pairs
returns-clause-pairs c = rising_adds

pub returns-clause-archivable : goal.returns-clause-archivable
returns-clause-archivable c = sorted_archivable

pub returns-clause-tiles : goal.returns-clause-tiles
returns-clause-tiles c = sorted_map

pub returns-clause-formed : goal.returns-clause-formed
returns-clause-formed c = sorted_formed
