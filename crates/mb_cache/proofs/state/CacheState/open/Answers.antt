use Rattle.mb_cache.proofs.Common.{ap, Cache, err_from_is_err_and, inr, layout_of, Some, Tables, ◌∙◌, ◌≡◌}
use Rattle.mb_store.proofs.FaultLemmas.{counted_then}
use Rattle.mb_cache.proofs.OpenLemmas.{agrees_opened, begun_layout, begun_may, opened_as}
use Rattle.mb_cache.proofs.OwnLemmas.{on_ok, own_begin}
use Rattle.mb_cache.proofs.RoundLemmas.{on_err}
use Rattle.mb_cache.proofs.state.CacheState.open.Goals as goal

pub returns-in_err-begin-clause-own : goal.returns-in_err-begin-clause-own
returns-in_err-begin-clause-own g c =
    let p = err_from_is_err_and c.from_residual.result c.from_residual.ensures.1 in
    own_begin _ p.0 _ p.1 p.2 c.in_err-begin.ensures.own

pub returns-clause-answer : goal.returns-clause-answer
returns-clause-answer g c t =
    let old = g.S.TileStore.told c.args.store.now in
    let first = c.in_ok-begin.ensures.answer t in
    let begun = c.in_ok-begin.ensures.begun t in
    let layout : layout_of (g.S.TileStore.told c.begin.new.store).descriptions ≡ Some Cache = ap (λ (x : Tables). layout_of x.descriptions) begun ∙ begun_layout old (begun_may old.descriptions first) in
    opened_as old (g.S.TileStore.told c.begin.new.store) _ first begun (c.load_state.ensures.answer (c.in_ok-begin.ensures.kept.tells ∙ t) layout)

pub returns-clause-begun : goal.returns-clause-begun
returns-clause-begun g c t = on_ok _ _ (c.load_state.ensures.kept.told ∙ c.in_ok-begin.ensures.begun t)

pub returns-clause-agrees : goal.returns-clause-agrees
returns-clause-agrees g c t =
    let old = g.S.TileStore.told c.args.store.now in
    let begun = c.in_ok-begin.ensures.begun t in
    let layout : layout_of (g.S.TileStore.told c.begin.new.store).descriptions ≡ Some Cache = ap (λ (x : Tables). layout_of x.descriptions) begun ∙ begun_layout old (begun_may old.descriptions (c.in_ok-begin.ensures.answer t)) in
    agrees_opened old (g.S.TileStore.told c.begin.new.store) _ _ c.load_state.ensures.kept.told (c.load_state.ensures.answer (c.in_ok-begin.ensures.kept.tells ∙ t) layout)

pub returns-clause-err : goal.returns-clause-err
returns-clause-err g c t = on_err _ _ (inr (c.load_state.ensures.kept.told ∙ c.in_ok-begin.ensures.begun t))

pub returns-clause-own : goal.returns-clause-own
returns-clause-own g c = c.load_state.ensures.own

pub returns-clause-fault : goal.returns-clause-fault
returns-clause-fault g c = counted_then _ _ _ _ _ _ c.in_ok-begin.ensures.fault.still c.load_state.ensures.fault
