use Rattle.mb_cache.proofs.Common.{ap, drop, Entry, length, List, subst, sym, take, ◌∙◌, ◌≡◌}
use Rattle.mb_cache.proofs.RoundLemmas.{drop_round, take_round}
use Rattle.mb_cache.proofs.sizing.evict_round.Goals as goal

pub evict-requires-clause-first : goal.evict-requires-clause-first
evict-requires-clause-first g c =
    let is : c.deref-2.result.now ≡ take 64 c.args.entries.now.keys = c.deref-2.ensures.value ∙ c.in_ok-round.ensures in
    subst (λ (es : List Entry). take (length es) c.args.entries.now.keys ≡ es) (sym is) (take_round 64 c.args.entries.now.keys)

pub returns-clause-left : goal.returns-clause-left
returns-clause-left g c =
    let is : c.deref-2.result.now ≡ take 64 c.args.entries.now.keys = c.deref-2.ensures.value ∙ c.in_ok-round.ensures in
    c.in_ok-evict.ensures.left ∙ (ap (λ (es : List Entry). drop (length es) c.args.entries.now.keys) is ∙ drop_round 64 c.args.entries.now.keys)
