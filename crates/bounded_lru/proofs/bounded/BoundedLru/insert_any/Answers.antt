use Rattle.bounded_lru.proofs.PuttingLemmas.{put_any}
use Rattle.bounded_lru.proofs.bounded.BoundedLru.insert_any.Goals as goal

pub invariant_of-self-2 : goal.invariant_of-self-2
invariant_of-self-2 g c = (put_any g.V.Weigh.weight c.args.self.now c.self.inside.pairs c.put.new.self c.args.key c.args.value c.self.inside.limit c.self.inside.weight c.self.view_is c.requires c.self.invariant c.in_ok-put.ensures.entries).kept

pub returns-clause-puts : goal.returns-clause-puts
returns-clause-puts g c = (put_any g.V.Weigh.weight c.args.self.now c.self.inside.pairs c.put.new.self c.args.key c.args.value c.self.inside.limit c.self.inside.weight c.self.view_is c.requires c.self.invariant c.in_ok-put.ensures.entries).puts

pub returns-clause-within : goal.returns-clause-within
returns-clause-within g c = (put_any g.V.Weigh.weight c.args.self.now c.self.inside.pairs c.put.new.self c.args.key c.args.value c.self.inside.limit c.self.inside.weight c.self.view_is c.requires c.self.invariant c.in_ok-put.ensures.entries).within
