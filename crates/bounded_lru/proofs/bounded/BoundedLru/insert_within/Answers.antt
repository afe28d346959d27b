use Rattle.bounded_lru.proofs.Common.{arith}
use Rattle.bounded_lru.proofs.PuttingLemmas.{others_weigh, put_light}
use Rattle.bounded_lru.proofs.bounded.BoundedLru.insert_within.Goals as goal

pub overflow_sub-others : goal.overflow_sub-others
overflow_sub-others g c = let o = others_weigh g.V.Weigh.weight c.args.self.now c.self.inside.pairs c.push.new.self c.args.key c.args.value c.self.inside.limit c.args.limit c.self.inside.weight c.in_ok-displaced.displaced c.self.view_is c.requires c.self.invariant c.in_ok-displaced.ensures.entries c.in_ok-displaced.ensures.old in omega (arith, o.0, c.weight_of.ensures)

pub lighten-requires-clause-weight : goal.lighten-requires-clause-weight
lighten-requires-clause-weight g c = let o = others_weigh g.V.Weigh.weight c.args.self.now c.self.inside.pairs c.push.new.self c.args.key c.args.value c.self.inside.limit c.args.limit c.self.inside.weight c.in_ok-displaced.displaced c.self.view_is c.requires c.self.invariant c.in_ok-displaced.ensures.entries c.in_ok-displaced.ensures.old in omega (arith, o.1, c.weight_of.ensures)

pub invariant_of-self-2 : goal.invariant_of-self-2
invariant_of-self-2 g c = (put_light g.V.Weigh.weight c.args.self.now c.self.inside.pairs c.push.new.self c.lighten.new.pairs c.args.key c.args.value c.self.inside.limit c.args.limit c.self.inside.weight c.weigh-weight.result c.lighten.result c.in_ok-displaced.displaced c.self.view_is c.requires c.self.invariant c.weigh-weight.ensures c.if-weight-limit.false c.in_ok-displaced.ensures.entries c.in_ok-displaced.ensures.old c.lighten.ensures.pairs c.lighten.ensures.weight).kept

pub returns-clause-puts : goal.returns-clause-puts
returns-clause-puts g c = (put_light g.V.Weigh.weight c.args.self.now c.self.inside.pairs c.push.new.self c.lighten.new.pairs c.args.key c.args.value c.self.inside.limit c.args.limit c.self.inside.weight c.weigh-weight.result c.lighten.result c.in_ok-displaced.displaced c.self.view_is c.requires c.self.invariant c.weigh-weight.ensures c.if-weight-limit.false c.in_ok-displaced.ensures.entries c.in_ok-displaced.ensures.old c.lighten.ensures.pairs c.lighten.ensures.weight).puts

pub returns-clause-within : goal.returns-clause-within
returns-clause-within g c = (put_light g.V.Weigh.weight c.args.self.now c.self.inside.pairs c.push.new.self c.lighten.new.pairs c.args.key c.args.value c.self.inside.limit c.args.limit c.self.inside.weight c.weigh-weight.result c.lighten.result c.in_ok-displaced.displaced c.self.view_is c.requires c.self.invariant c.weigh-weight.ensures c.if-weight-limit.false c.in_ok-displaced.ensures.entries c.in_ok-displaced.ensures.old c.lighten.ensures.pairs c.lighten.ensures.weight).within
