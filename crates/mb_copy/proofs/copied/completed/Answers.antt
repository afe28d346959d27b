use Rattle.mb_copy.proofs.Common.{Held, IsPutIn, subst, sym}
use Rattle.mb_copy.proofs.CopiedLemmas.{completed_is}
use Rattle.mb_copy.proofs.copied.completed.Goals as goal

pub with_times-requires : goal.with_times-requires
with_times-requires c = subst (λ (h : Held). IsPutIn c.args.put.now.state.tiles h) (sym c.in_ok-set.ensures) c.requires

pub returns : goal.returns
returns c = completed_is c.args.copier.now c.args.made c.args.set c.in_ok-set.set c.in_ok-set-2.set c.args.put.now.state.tiles c.args.put.now.state.dates c.args.put.now.state.metadata c.with_names.result c.in_ok-set.ensures c.in_ok-set-2.ensures c.with_names.ensures
