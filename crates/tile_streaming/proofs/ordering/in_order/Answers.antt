use Rattle.tile_streaming.proofs.Common.{ap, are_distinct, List, map, nat_cmp, sym, ◌∙◌}
use Rattle.tile_streaming.proofs.OrderLemmas.{same_apart}
use Rattle.tile_streaming.specs.declared.mark.Mark.{Mark}
use Rattle.tile_streaming.proofs.ordering.in_order.Goals as goal

pub returns-then-are_apart-clause-apart : goal.returns-then-are_apart-clause-apart
returns-then-are_apart-clause-apart c =
    sym c.if-are_apart.true
    ∙ (c.are_apart.ensures ∙ (ap (λ (l : List Mark). are_distinct nat_cmp (map (λ (m : Mark). m.id) l)) c.deref.ensures.value ∙ same_apart c.args.marks.items c.sort_by_id.new.marks.items c.sort_by_id.ensures.same))

pub returns-else-are_apart-clause-apart : goal.returns-else-are_apart-clause-apart
returns-else-are_apart-clause-apart c =
    sym c.if-are_apart.false
    ∙ (c.are_apart.ensures ∙ (ap (λ (l : List Mark). are_distinct nat_cmp (map (λ (m : Mark). m.id) l)) c.deref.ensures.value ∙ same_apart c.args.marks.items c.sort_by_id.new.marks.items c.sort_by_id.ensures.same))
