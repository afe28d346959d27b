use Rattle.mb_metadata.proofs.Common.{arith, entries, len-entries}
use Rattle.mb_metadata.proofs.OthersLemmas.{others_end, others_more}
use Rattle.mb_metadata.proofs.others.others_said.Goals as goal

pub loop-index-preserved : goal.loop-index-preserved
loop-index-preserved c = others_more c.args.set.now.state.metadata c.loop-index.index c.loop-index.fields c.add_other.new.fields c.metadata_at.result.0.now c.metadata_at.result.1.now (omega (arith, len-entries c.args.set.now.state.metadata)) c.metadata_at.ensures c.in_ok-add_other.ensures c.loop-index.invariant

pub returns : goal.returns
returns c = others_end (entries c.args.set.now.state.metadata) c.loop-index.index c.loop-index.fields (omega (arith, len-entries c.args.set.now.state.metadata)) c.loop-index.invariant
