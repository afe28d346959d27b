use Rattle.bounded_lru.proofs.WeightLemmas.{still_within, used_within}
use Rattle.bounded_lru.proofs.bounded.BoundedLru.promote.Goals as goal

pub invariant_of-self : goal.invariant_of-self
invariant_of-self g c = still_within g.V.Weigh.weight c.args.key c.self.inside.pairs c.promote.new.self c.self.inside.weight c.self.inside.limit c.promote.ensures.entries c.self.invariant

pub returns-clause-within : goal.returns-clause-within
returns-clause-within g c = used_within g.V.Weigh.weight c.args.key c.self.inside.pairs c.promote.new.self c.self.inside.weight c.self.inside.limit c.promote.ensures.entries c.self.invariant
