use Rattle.mb_metadata.proofs.Common.{arith, entries, len-entries}
use Rattle.mb_metadata.proofs.InsertLemmas.{others_end, others_more}
use Rattle.mb_metadata.proofs.inserting.other_edits.Goals as goal

pub loop-index-preserved : goal.loop-index-preserved
loop-index-preserved c =
    others_more (entries c.args.other.now) c.loop-index.index c.loop-index.edits.items c.push.new.self.items c.in_ok-put.field-0 c.at.result.0.now c.in_ok-text.text c.at.result.1.now
    (omega (arith, len-entries c.args.other.now)) c.at.ensures c.in_ok-text.ensures c.in_ok-put.ensures c.in_ok-push.ensures.items c.loop-index.invariant

pub returns : goal.returns
returns c = others_end (entries c.args.other.now) c.loop-index.index c.loop-index.edits.items (omega (arith, len-entries c.args.other.now)) c.loop-index.invariant
