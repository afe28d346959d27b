use Rattle.tile_streaming.proofs.Common.{answers_always, is_lt, nat_cmp, rules}
use Rattle.tile_streaming.proofs.OrderLemmas.{apart_by}
use Rattle.tile_streaming.specs.declared.mark.Mark.{Mark}
use Rattle.tile_streaming.proofs.ordering.are_apart.Goals as goal

pub returns : goal.returns
returns c = apart_by c.args.marks.now c.is_sorted_by.result c.requires (c.is_sorted_by.ensures.cases (λ (a b : Mark). is_lt (nat_cmp a.id b.id)) (answers_always _ _ _ (λ f a r g called. search rules)))
