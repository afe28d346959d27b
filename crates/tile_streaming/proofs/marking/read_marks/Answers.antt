use Rattle.mb_load.proofs.StateLemmas.{no_fault}
use Rattle.mb_store.proofs.FaultLemmas.{counted_then, unasked}
use Rattle.tile_streaming.proofs.Common.{ap, Err, err_from_is_err_and, is_free, store_free, sym, ◌∙◌}
use Rattle.tile_streaming.proofs.MarkedLemmas.{free_own, own_marked, refused_at, refused_own, told_marked}
use Rattle.tile_streaming.proofs.marking.read_marks.Goals as goal

pub returns-in_err-descriptions-clause-own : goal.returns-in_err-descriptions-clause-own
returns-in_err-descriptions-clause-own g c =
    let p = err_from_is_err_and c.from_residual.result c.from_residual.ensures.1 in
    free_own (g.S.TileStore.told c.args.store.now) c.from_residual.result p.0 p.1 (ap is_free p.2 ∙ store_free _)

pub returns-in_err-layout-clause-answer : goal.returns-in_err-layout-clause-answer
returns-in_err-layout-clause-answer g c t =
    let p = err_from_is_err_and c.from_residual-in_err-layout.result c.from_residual-in_err-layout.ensures.1 in
    refused_at (g.S.TileStore.told c.args.store.now) c.from_residual-in_err-layout.result p.0 p.1 (c.in_err-layout.ensures.refused (g.S.TileStore.told c.args.store.now) (sym (c.deref.ensures.value ∙ c.in_ok-descriptions.ensures.answer t)) ∙ ap Err (sym p.2))

pub returns-in_err-layout-clause-own : goal.returns-in_err-layout-clause-own
returns-in_err-layout-clause-own g c =
    let p = err_from_is_err_and c.from_residual-in_err-layout.result c.from_residual-in_err-layout.ensures.1 in
    refused_own c.deref.result.now c.from_residual-in_err-layout.result p.0 p.1 (λ t same. c.in_err-layout.ensures.refused t same ∙ ap Err (sym p.2))

pub returns-in_err-layout-clause-fault : goal.returns-in_err-layout-clause-fault
returns-in_err-layout-clause-fault g c =
    let p = err_from_is_err_and c.from_residual-in_err-layout.result c.from_residual-in_err-layout.ensures.1 in
    unasked _ _ c.args.store.now _ _ _ c.in_ok-descriptions.ensures.fault.still (λ h. no_fault c.from_residual-in_err-layout.result p.0 _ p.1 p.2 c.in_err-layout.ensures.unfaulted h)

pub returns-clause-answer : goal.returns-clause-answer
returns-clause-answer g c t =
    told_marked c.in_ok-layout.layout c.deref.result.now (record { is_layout = c.in_ok-layout.ensures.layout; metadata = c.in_ok-layout.ensures.metadata; index = c.in_ok-layout.ensures.index }) _ _ (g.S.TileStore.told c.args.store.now) c.marked_set.result (c.in_ok-descriptions.ensures.kept.tells ∙ t) c.in_ok-descriptions.ensures.kept.told (c.deref.ensures.value ∙ c.in_ok-descriptions.ensures.answer t) c.marked_set.ensures.marked

pub returns-clause-own : goal.returns-clause-own
returns-clause-own g c =
    own_marked c.in_ok-layout.layout c.deref.result.now (record { is_layout = c.in_ok-layout.ensures.layout; metadata = c.in_ok-layout.ensures.metadata; index = c.in_ok-layout.ensures.index }) _ _ c.marked_set.result c.marked_set.ensures.marked

pub returns-clause-fault : goal.returns-clause-fault
returns-clause-fault g c = counted_then _ _ _ _ _ _ c.in_ok-descriptions.ensures.fault.still c.marked_set.ensures.fault
