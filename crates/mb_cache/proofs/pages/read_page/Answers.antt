use Rattle.mb_cache.proofs.Common.{Cell, err_from_is_err_and, List, SeesRows, subst, take, TileCache, ◌++◌, ◌-◌, ◌∙◌}
use Rattle.mb_cache.proofs.PageLemmas.{page_wrong, whole_page}
use Rattle.mb_cache.proofs.pages.read_page.Goals as goal

pub returns-in_err-see-clause-refused : goal.returns-in_err-see-clause-refused
returns-in_err-see-clause-refused g c tells =
    let p = err_from_is_err_and c.from_residual-in_err-see.result c.from_residual-in_err-see.ensures.1 in
    rw (p.1, p.2) (λ free. page_wrong (c.args.count - c.args.left) c.page_size-asked.result ((g.S.TileStore.told c.args.store.now).rows TileCache) c.deref.result.now _ (c.deref.ensures.value ∙ c.in_ok-page.ensures.answer tells) (c.in_err-see.ensures.tests.0 free))

pub returns-clause-seen : goal.returns-clause-seen
returns-clause-seen g c tells all sees =
    let rows = (g.S.TileStore.told c.args.store.now).rows TileCache in
    let before = take (c.args.count - c.args.left) rows in
    whole_page rows c.in_ok-page.page.items c.see.new.self c.args.count c.args.left c.page_size-asked.result _ c.left_after.result all c.requires c.page_size-asked.ensures.within (c.in_ok-page.ensures.answer tells) (c.len.ensures ∙ c.in_ok-page.page.ok.0) c.left_after.ensures.whole
    (subst (λ (l : List (List Cell)). SeesRows (before ++ l) c.see.new.self) c.deref.ensures.value (c.in_ok-see.ensures.seen before sees))
