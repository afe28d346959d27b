use Rattle.bounded_lru.proofs.Common.{arith, LruCache, subst, sym, ℕ, ◌-◌}
use Rattle.bounded_lru.proofs.GivingUpLemmas.{Lightened, lightened, shortened}
use Rattle.bounded_lru.proofs.lighten.lighten.Goals as goal

pub overflow_sub-left : goal.overflow_sub-left
overflow_sub-left g c = let done = shortened g.V.Weigh.weight c.args.room c.args.pairs.now c.loop-left.pairs c.loop-left.left c.loop-left.invariant c.loop-left-test.true in omega (arith, done.0, c.give_up_last-left.ensures.weight)

pub loop-left-preserved : goal.loop-left-preserved
loop-left-preserved g c =
    let done = shortened g.V.Weigh.weight c.args.room c.args.pairs.now c.loop-left.pairs c.loop-left.left c.loop-left.invariant c.loop-left-test.true in
    let P : LruCache ℕ g.row.V.Denot → ℕ → Type 0 = λ z n. Lightened g.V.Weigh.weight c.args.room c.args.pairs.now z (c.loop-left.left - n) in
    let Q : LruCache ℕ g.row.V.Denot → Type 0 = λ z. P z c.give_up_last-left.result in
    subst Q (sym c.give_up_last-left.ensures.pairs) (subst (P _) (sym c.give_up_last-left.ensures.weight) done.1)

pub returns-clause-pairs : goal.returns-clause-pairs
returns-clause-pairs g c = (lightened g.V.Weigh.weight c.args.room c.args.pairs.now c.loop-left.pairs c.loop-left.left c.loop-left.invariant c.loop-left-test.false).0

pub returns-clause-weight : goal.returns-clause-weight
returns-clause-weight g c = (lightened g.V.Weigh.weight c.args.room c.args.pairs.now c.loop-left.pairs c.loop-left.left c.loop-left.invariant c.loop-left-test.false).1
