use Rattle.mb_lists.proofs.Common.{ap, append-nil, cell_cmp, cell_cmp-IsAntisymmetric, cells_total, id_at, List, newest_ids, StandsAs, subst, sym, ℕ, ◌++◌, ◌∙◌}
use Rattle.mb_lists.proofs.StandsLemmas.{not_listed, stands_itself}
use Rattle.mb_lists.proofs.content_list.ContentList.list.Goals as goal

pub returns-then-is_null-clause-same : goal.returns-then-is_null-clause-same
returns-then-is_null-clause-same c =
    let cs = c.args.self.now.items.items in
    let order = c.args.self.now.order.items in
    subst (λ (l : List ℕ). StandsAs cell_cmp (id_at cs) (newest_ids cs l) order) (sym (ap (λ (l : List ℕ). order ++ l) (not_listed c.args.is_null c.args.index c.if-is_null.true) ∙ append-nil order)) (stands_itself cells_total cell_cmp-IsAntisymmetric (id_at cs) order c.requires.order.apart)
