use Rattle.mb_constraints.proofs.AlgorithmLemmas.{named_is}
use Rattle.mb_constraints.proofs.algorithm.algorithm_named.Goals as goal

pub returns : goal.returns
returns c = named_is _ c.parse.result c.parse.ensures.named c.parse.ensures.found
