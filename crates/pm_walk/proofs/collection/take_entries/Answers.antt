use Rattle.pm_walk.proofs.Common.{header_of, root_of}
use Rattle.pm_walk.proofs.GatheredLemmas.{all_given}
use Rattle.pm_walk.proofs.collection.take_entries.Goals as goal

pub returns-in-Ok-clause-given : goal.returns-in-Ok-clause-given
returns-in-Ok-clause-given g c = all_given g.T.TakesEntries.holds (g.B.Backend.told c.args.backend.now) (header_of c.args.state.now) (root_of c.args.state.now) c.args.max_tiles c.in-Ok.taker c.in-Ok.ensures.gathered
