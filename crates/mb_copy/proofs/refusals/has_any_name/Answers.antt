use Rattle.mb_copy.proofs.Common.{arith, entries, len-entries, name_there}
use Rattle.mb_copy.proofs.EntryLemmas.{none_at_all, none_yet, one_found}
use Rattle.mb_copy.proofs.refusals.has_any_name.Goals as goal

pub returns-then-has_name : goal.returns-then-has_name
returns-then-has_name c = one_found (name_there c.args.copier.now c.args.base.now.state) (entries c.args.source.now.state.metadata) c.loop-index.index c.has_name.result (omega (arith, len-entries c.args.source.now.state.metadata)) c.has_name.ensures c.if-has_name.true c.loop-index.invariant

pub loop-index-preserved : goal.loop-index-preserved
loop-index-preserved c = none_yet (name_there c.args.copier.now c.args.base.now.state) (entries c.args.source.now.state.metadata) c.loop-index.index c.has_name.result (omega (arith, len-entries c.args.source.now.state.metadata)) c.has_name.ensures c.if-has_name.false c.loop-index.invariant

pub returns : goal.returns
returns c = none_at_all (name_there c.args.copier.now c.args.base.now.state) (entries c.args.source.now.state.metadata) c.loop-index.index (omega (arith, len-entries c.args.source.now.state.metadata)) c.loop-index.invariant
