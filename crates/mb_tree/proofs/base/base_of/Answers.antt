use Rattle.mb_tree.proofs.Common.{ap, err_from_is_err_and, false≢true, made_if, sym, ◌∙◌}
use Rattle.mb_store.proofs.FaultLemmas.{counted_then}
use Rattle.mb_tree.proofs.BaseLemmas.{base_wanting, is_new, is_old, made_new, new_from, new_named, new_whole, old_from, old_made, old_moved}
use Rattle.mb_tree.proofs.base.base_of.Goals as goal

pub returns-in_err-is_empty_database-clause-answer : goal.returns-in_err-is_empty_database-clause-answer
returns-in_err-is_empty_database-clause-answer g c =
    let p = err_from_is_err_and c.from_residual.result c.from_residual.ensures.1 in
    rw (p.1, p.2) (base_wanting (g.S.TileStore.tells c.args.store.now) (g.S.TileStore.told c.args.store.now) _ c.in_err-is_empty_database.ensures.errors)

pub returns-then-branch-clause-answer : goal.returns-then-branch-clause-answer
returns-then-branch-clause-answer g c =
    is_new (g.S.TileStore.tells c.args.store.now) (g.S.TileStore.told c.args.store.now) c.new_set.result (λ t. (c.in_ok-is_empty_database.ensures.answer t).0 c.if-branch.true) c.new_set.ensures.set

pub returns-then-branch-clause-new : goal.returns-then-branch-clause-new
returns-then-branch-clause-new g c t =
    ap (λ n. made_if n (g.S.TileStore.told c.args.store.now)) c.new_set.ensures.new ∙ made_new (g.S.TileStore.told c.args.store.now) ((c.in_ok-is_empty_database.ensures.answer t).0 c.if-branch.true)

pub returns-then-branch-clause-loaded : goal.returns-then-branch-clause-loaded
returns-then-branch-clause-loaded g c t =
    new_from (g.S.TileStore.told c.args.store.now) c.new_set.result.set (g.met.S.TileStore.sound c.args.store.now t) ((c.in_ok-is_empty_database.ensures.answer t).0 c.if-branch.true) c.new_set.ensures.set

pub returns-then-branch-clause-whole : goal.returns-then-branch-clause-whole
returns-then-branch-clause-whole g c = new_whole c.new_set.result.set c.new_set.ensures.set

pub returns-then-branch-clause-named : goal.returns-then-branch-clause-named
returns-then-branch-clause-named g c = new_named c.new_set.result.set c.new_set.ensures.set

pub returns-clause-answer : goal.returns-clause-answer
returns-clause-answer g c =
    is_old (g.S.TileStore.tells c.args.store.now) (g.S.TileStore.told c.args.store.now) c.old_set.result
    (λ t e. false≢true (sym c.if-branch.false ∙ (c.in_ok-is_empty_database.ensures.answer t).1 e))
    (old_moved (g.S.TileStore.tells c.args.store.now) (g.S.TileStore.tells c.is_empty_database.new.store) (g.S.TileStore.told c.args.store.now) (g.S.TileStore.told c.is_empty_database.new.store) c.old_set.result
    c.is_empty_database.ensures.kept.tells c.is_empty_database.ensures.kept.told c.old_set.ensures.answer)

pub returns-clause-new : goal.returns-clause-new
returns-clause-new g c t =
    old_made (g.S.TileStore.told c.args.store.now) c.old_set.result (λ e. false≢true (sym c.if-branch.false ∙ (c.in_ok-is_empty_database.ensures.answer t).1 e)) c.old_set.ensures.old

pub returns-clause-loaded : goal.returns-clause-loaded
returns-clause-loaded g c t =
    old_from (g.S.TileStore.told c.args.store.now) (g.S.TileStore.told c.is_empty_database.new.store) c.old_set.result
    (λ e. false≢true (sym c.if-branch.false ∙ (c.in_ok-is_empty_database.ensures.answer t).1 e)) c.is_empty_database.ensures.kept.told
    (c.old_set.ensures.loaded (c.is_empty_database.ensures.kept.tells ∙ t))

pub returns-clause-fault : goal.returns-clause-fault
returns-clause-fault g c = counted_then _ _ _ _ _ _ c.in_ok-is_empty_database.ensures.fault.still c.old_set.ensures.fault
