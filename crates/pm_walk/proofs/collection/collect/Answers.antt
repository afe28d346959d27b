use Rattle.pm_walk.proofs.Common.{AllLieIn, AreOrdered, Entry, Gathers, header_of, IfSome, List, None, Ok, root_of, subst, sym, tile_count, walked, Within, ◌≤◌}
use Rattle.pm_walk.proofs.collection.collect.Goals as goal

pub returns-in-Ok-clause-gathered : goal.returns-in-Ok-clause-gathered
returns-in-Ok-clause-gathered g c =
    let all = c.in-Ok.ensures.gathered in
    subst (λ (l : List Entry). IfSome (g.B.Backend.told c.args.backend.now) (λ b. Gathers Within (walked Within 6 (header_of c.args.state.now) b c.args.intervals.now 0 None (root_of c.args.state.now)) c.args.intervals.now c.args.max_tiles (Ok l))) (sym all.held) all.gathered

pub returns-in-Ok-clause-ordered : goal.returns-in-Ok-clause-ordered
returns-in-Ok-clause-ordered g c = λ apart. let all = c.in-Ok.ensures.gathered in subst (λ (l : List Entry). AreOrdered 0 l None) (sym all.held) (all.ordered apart)

pub returns-in-Ok-clause-few : goal.returns-in-Ok-clause-few
returns-in-Ok-clause-few g c = let all = c.in-Ok.ensures.gathered in subst (λ (l : List Entry). tile_count l ≤ c.args.max_tiles) (sym all.held) all.few

pub returns-in-Ok-clause-within : goal.returns-in-Ok-clause-within
returns-in-Ok-clause-within g c = let all = c.in-Ok.ensures.gathered in subst (AllLieIn c.args.intervals.now) (sym all.held) all.within
