use Rattle.mb_lists.proofs.Common.{ap, at_key, Cell, cell_cmp, cell_cmp-IsAntisymmetric, cells_total, Content, drop, id_at, is_content_gone, IsAt, IsGap, length, List, position, subst, take, ℕ, ◌-◌}
use Rattle.mb_lists.proofs.Common.{◌∙◌}
use Rattle.mb_lists.proofs.ListEdits.{slice_from}
use Rattle.mb_lists.proofs.StandsLemmas.{id_read, over, placed}
use Rattle.mb_lists.proofs.content_list.ContentList.put.Goals as goal

pub returns-in-Ok-clause-order : goal.returns-in-Ok-clause-order
returns-in-Ok-clause-order c =
    let cs = c.args.self.now.items.items in
    let at = subst (λ (q : Cell). IsAt cell_cmp (id_at cs) c.args.self.now.live c.args.self.now.order.items q c.in-Ok.at) (id_read cs c.args.index c.index.result.now c.requires.within c.index.ensures) c.in-Ok.ensures.found in
    (over cells_total cell_cmp-IsAntisymmetric (id_at cs) (is_content_gone cs) c.args.self.now.live c.args.self.now.order.items c.in-Ok.at c.args.index at c.requires.live c.requires.order).0

pub returns-in-Ok-clause-same : goal.returns-in-Ok-clause-same
returns-in-Ok-clause-same c =
    let cs = c.args.self.now.items.items in
    let at = subst (λ (q : Cell). IsAt cell_cmp (id_at cs) c.args.self.now.live c.args.self.now.order.items q c.in-Ok.at) (id_read cs c.args.index c.index.result.now c.requires.within c.index.ensures) c.in-Ok.ensures.found in
    (over cells_total cell_cmp-IsAntisymmetric (id_at cs) (is_content_gone cs) c.args.self.now.live c.args.self.now.order.items c.in-Ok.at c.args.index at c.requires.live c.requires.order).1

pub returns-in-Err-clause-order : goal.returns-in-Err-clause-order
returns-in-Err-clause-order c =
    let cs = c.args.self.now.items.items in
    let gap = subst (λ (q : Cell). IsGap cell_cmp (id_at cs) c.args.self.now.live c.args.self.now.order.items q c.in-Err.at) (id_read cs c.args.index c.index.result.now c.requires.within c.index.ensures) c.in-Err.ensures.absent in
    let slice : List ℕ = take (length c.deref-in-Err.result.now - c.args.self.now.live) (drop c.args.self.now.live c.deref-in-Err.result.now) in
    (placed cells_total cell_cmp-IsAntisymmetric (id_at cs) (is_content_gone cs) c.args.self.now.live c.args.self.now.order.items c.put_at.new.items.items slice c.in-Err.at c.args.index c.id_position-mark.result gap c.requires.live (c.id_position-mark.ensures ∙ ap (λ (l : List Content). position (at_key cell_cmp (id_at l) (id_at l c.args.index)) slice) c.deref.ensures.value) (slice_from c.deref-in-Err.result.now _ c.args.self.now.live c.deref-in-Err.ensures.value) c.requires.order c.put_at.ensures).0

pub returns-in-Err-clause-same : goal.returns-in-Err-clause-same
returns-in-Err-clause-same c =
    let cs = c.args.self.now.items.items in
    let gap = subst (λ (q : Cell). IsGap cell_cmp (id_at cs) c.args.self.now.live c.args.self.now.order.items q c.in-Err.at) (id_read cs c.args.index c.index.result.now c.requires.within c.index.ensures) c.in-Err.ensures.absent in
    let slice : List ℕ = take (length c.deref-in-Err.result.now - c.args.self.now.live) (drop c.args.self.now.live c.deref-in-Err.result.now) in
    (placed cells_total cell_cmp-IsAntisymmetric (id_at cs) (is_content_gone cs) c.args.self.now.live c.args.self.now.order.items c.put_at.new.items.items slice c.in-Err.at c.args.index c.id_position-mark.result gap c.requires.live (c.id_position-mark.ensures ∙ ap (λ (l : List Content). position (at_key cell_cmp (id_at l) (id_at l c.args.index)) slice) c.deref.ensures.value) (slice_from c.deref-in-Err.result.now _ c.args.self.now.live c.deref-in-Err.ensures.value) c.requires.order c.put_at.ensures).1
