use Rattle.pm_reader.proofs.Common.{ap, arith, length, refl, true, ◌∙◌}
use Rattle.pm_reader.proofs.FollowingToldLemmas.{is_leaf, is_tile}
use Rattle.pm_reader.proofs.WalkItemLemmas.{Took, told_entered, told_none, told_refused, told_spent, told_tile}
use Rattle.pm_reader.proofs.walk.WalkState.next_item.Goals as goal

pub returns-then-not-is_leaf-clause-items : goal.returns-then-not-is_leaf-clause-items
returns-then-not-is_leaf-clause-items g c =
    let took : Took c.loop-entry.self c.pop.new.self c.in-Some.entry = record { queue = c.in-Some.ensures.queue; header = c.pop.ensures.header; budget = c.pop.ensures.budget; ended = c.pop.ensures.ended; goes = c.loop-entry.invariant.goes } in
    told_tile (g.B.Backend.told c.args.backend.now) c.args.self.now c.loop-entry.self c.pop.new.self c.in-Some.entry c.loop-entry.invariant.left took (is_tile _ _ c.is_leaf.ensures c.if-not-is_leaf.true)

pub returns-then-self-eq0-clause-items : goal.returns-then-self-eq0-clause-items
returns-then-self-eq0-clause-items g c =
    let took : Took c.loop-entry.self c.pop.new.self c.in-Some.entry = record { queue = c.in-Some.ensures.queue; header = c.pop.ensures.header; budget = c.pop.ensures.budget; ended = c.pop.ensures.ended; goes = c.loop-entry.invariant.goes } in
    told_spent (g.B.Backend.told c.args.backend.now) c.args.self.now c.loop-entry.self c.pop.new.self (record c.pop.new.self { ended = true }) c.in-Some.entry c.loop-entry.invariant.left took (is_leaf _ _ c.is_leaf.ensures c.if-not-is_leaf.false) c.if-self-eq0.true refl

pub returns-in-Err-clause-items : goal.returns-in-Err-clause-items
returns-in-Err-clause-items g c =
    let took : Took c.loop-entry.self c.pop.new.self c.in-Some.entry = record { queue = c.in-Some.ensures.queue; header = c.pop.ensures.header; budget = c.pop.ensures.budget; ended = c.pop.ensures.ended; goes = c.loop-entry.invariant.goes } in
    told_refused (g.B.Backend.told c.args.backend.now) _ c.args.self.now c.loop-entry.self c.pop.new.self (record c.enter.new.self { ended = true }) c.in-Some.entry c.in-Err.error c.loop-entry.invariant.told c.loop-entry.invariant.left took (is_leaf _ _ c.is_leaf.ensures c.if-not-is_leaf.false)
    (omega arith) refl c.in-Err.ensures.refused

pub loop-entry-preserved : goal.loop-entry-preserved
loop-entry-preserved g c =
    let took : Took c.loop-entry.self c.pop.new.self c.in-Some.entry = record { queue = c.in-Some.ensures.queue; header = c.pop.ensures.header; budget = c.pop.ensures.budget; ended = c.pop.ensures.ended; goes = c.loop-entry.invariant.goes } in
    record {
      told = c.enter.ensures.kept.told ∙ c.loop-entry.invariant.told;
      left = told_entered (g.B.Backend.told c.args.backend.now) _ c.args.self.now c.loop-entry.self c.pop.new.self c.enter.new.self c.in-Some.entry c.loop-entry.invariant.told c.loop-entry.invariant.left took (is_leaf _ _ c.is_leaf.ensures c.if-not-is_leaf.false)
          c.enter.ensures.header c.enter.ensures.budget c.enter.ensures.ended c.in_default-enter.ensures.ok;
      budget = omega arith;
      reads = record { least = omega (arith, c.in_default-enter.ensures.reads.least, c.loop-entry.invariant.reads.least); later = omega arith; most = omega (arith, c.loop-entry.invariant.reads.most, c.enter.ensures.reads.most) };
      faults = omega (arith, c.enter.ensures.kept.faults, c.loop-entry.invariant.faults);
      still = c.in_default-enter.ensures.still ∙ c.loop-entry.invariant.still;
      versions = c.enter.ensures.kept.versions ∙ c.loop-entry.invariant.versions;
      calm = λ z. let a = c.loop-entry.invariant.calm z in let b = c.enter.ensures.kept.calm a.0 in (b.0, b.1 ∙ a.1);
      fewer = omega (arith, ap length took.queue, c.enter.ensures.small, c.loop-entry.invariant.fewer);
      began = c.loop-entry.invariant.began;
      goes = c.enter.ensures.ended ∙ (c.pop.ensures.ended ∙ c.loop-entry.invariant.goes);
    }

pub returns-clause-items : goal.returns-clause-items
returns-clause-items g c =
    told_none (g.B.Backend.told c.args.backend.now) c.args.self.now c.loop-entry.self c.pop.new.self c.loop-entry.invariant.left c.in_default.ensures.queue (c.in_default.ensures.none refl) c.loop-entry.invariant.goes c.pop.ensures.ended
