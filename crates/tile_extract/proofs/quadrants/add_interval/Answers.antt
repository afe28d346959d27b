use Rattle.tile_extract.proofs.Common.{Gathered, subst, sym, ◌+◌}
use Rattle.tile_extract.proofs.GatheringLemmas.{apart_by, joined, touch_not}
use Rattle.tile_extract.proofs.quadrants.add_interval.Goals as goal

pub returns-then-touches : goal.returns-then-touches
returns-then-touches c = λ wanted g all.
    subst (Gathered wanted (c.args.last + 1)) (sym c.in_ok-push-2.ensures.items)
    (joined wanted c.pop.new.self.items c.in-Some.from c.in-Some.to c.args.first c.args.last (c.touches.ensures.0 c.if-touches.true) c.requires all (subst (Gathered wanted c.args.first) c.in-Some.ensures.items g))

pub returns : goal.returns
returns c = λ wanted g all.
    subst (Gathered wanted (c.args.last + 1)) (sym (rw c.in_ok-push-3.ensures.items at c.in_ok-push-4.ensures.items))
    (apart_by wanted c.pop.new.self.items c.in-Some.from c.in-Some.to c.args.first c.args.last (touch_not c.touches.result c.if-touches.false c.touches.ensures) c.requires all (subst (Gathered wanted c.args.first) c.in-Some.ensures.items g))
