use Rattle.pm_writer.proofs.Common.{ap, arith, entry, Some, sym, ◌∙◌}
use Rattle.pm_writer.proofs.Ordered.{within_found, within_on, within_none}
use Rattle.pm_writer.proofs.order.first_overlap.Goals as goal

pub returns-then-saturating_sub-from : goal.returns-then-saturating_sub-from
returns-then-saturating_sub-from c = ap Some c.tile_id-then-saturating_sub-from.ensures ∙ within_found c.args.entries.now c.loop-i.i (entry 0 0 0 0) (omega arith) (omega arith) (omega arith) c.loop-i.invariant

pub loop-i-preserved : goal.loop-i-preserved
loop-i-preserved c = c.loop-i.invariant ∙ within_on c.args.entries.now c.loop-i.i (entry 0 0 0 0) (omega arith) (omega arith) (omega arith)

pub returns : goal.returns
returns c = sym (c.loop-i.invariant ∙ within_none c.args.entries.now c.loop-i.i (omega arith) (omega arith))
