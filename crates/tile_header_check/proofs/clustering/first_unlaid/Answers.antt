use Rattle.tile_header_check.proofs.Common.{arith, length, ◌-◌}
use Rattle.tile_header_check.proofs.ClusteringLemmas.{all_laid, next_laid, unlaid_found}
use Rattle.tile_header_check.proofs.clustering.first_unlaid.Goals as goal

pub returns-then-not-branch : goal.returns-then-not-branch
returns-then-not-branch c =
    unlaid_found (length c.args.parts.now - length c.loop-part.rest.now) c.loop-part.laid.end c.loop-part.laid.begins.items c.in-Some.part.now c.loop-part.rest.now c.in-Some.others.now _ _ _ _
    c.in-Some.ensures.cases.0 c.in_ok-lay.ensures.lays c.if-not-branch.true c.loop-part.invariant.2

pub loop-part-preserved : goal.loop-part-preserved
loop-part-preserved c =
    let i = c.loop-part.invariant in (
      omega (arith, i.0, c.in-Some.ensures.cases.1),
      c.in_ok-lay.ensures.rise,
      next_laid c.loop-part.laid.end c.loop-part.laid.begins.items c.in-Some.part.now c.args.parts.now c.loop-part.rest.now c.in-Some.others.now _ c.lay.new.self.end c.lay.new.self.begins.items _
          c.in-Some.ensures.cases.0 i.0 c.in_ok-lay.ensures.lays c.if-not-branch.false i.2,
    )

pub returns : goal.returns
returns c = all_laid (length c.args.parts.now - length c.loop-part.rest.now) c.loop-part.laid.end c.loop-part.laid.begins.items c.loop-part.rest.now _ c.in_default.ensures.cases c.loop-part.invariant.2
