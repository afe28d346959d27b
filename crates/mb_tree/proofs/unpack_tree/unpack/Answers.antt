use Rattle.mb_tree.proofs.Common.{ap, Err, err_from_is_err_and, refl, TreeFault, ◌∙◌}
use Rattle.mb_store.proofs.FaultLemmas.{unasked}
use Rattle.mb_tree.proofs.UnpackLemmas.{all_written, format_refused, load_refused, tree_wanting, writing_ended}
use Rattle.mb_tree.proofs.RefusalLemmas.{no_tree_fault}
use Rattle.mb_tree.proofs.unpack_tree.unpack.Goals as goal

pub returns-in_err-set-clause-answer : goal.returns-in_err-set-clause-answer
returns-in_err-set-clause-answer g c =
    let p = err_from_is_err_and c.from_residual.result c.from_residual.ensures.1 in
    rw (p.1, p.2) (load_refused c.args.scheme (g.S.TileStore.tells c.args.store.now) (g.S.TileStore.told c.args.store.now) (g.T.TileTree.tells c.args.tree.now) (g.T.TileTree.told c.args.tree.now) (g.T.TileTree.told c.args.tree.now) _ c.in_err-set.ensures.answer c.in_err-set.ensures.own refl)

pub returns-in_err-format-clause-answer : goal.returns-in_err-format-clause-answer
returns-in_err-format-clause-answer g c =
    let p = err_from_is_err_and c.from_residual-in_err-format.result c.from_residual-in_err-format.ensures.1 in
    rw (p.1, p.2) (format_refused c.args.scheme (g.S.TileStore.tells c.args.store.now) (g.S.TileStore.told c.args.store.now) (g.T.TileTree.tells c.args.tree.now) (g.T.TileTree.told c.args.tree.now) (g.T.TileTree.told c.args.tree.now) c.in_ok-set.set c.in_ok-set.ensures.answer c.in_ok-set.ensures.own _ c.in_err-format.ensures.answer refl)

pub returns-clause-answer : goal.returns-clause-answer
returns-clause-answer g c =
    all_written c.args.scheme (g.S.TileStore.tells c.args.store.now) (g.S.TileStore.told c.args.store.now) (g.T.TileTree.tells c.args.tree.now) (g.T.TileTree.told c.args.tree.now) (g.T.TileTree.told c.write_tiles.new.tree) c.in_ok-set.set c.in_ok-set.ensures.answer c.in_ok-set.ensures.own c.in_ok-format.format c.in_ok-format.ensures.answer c.in_ok-write_tiles.ensures.put

pub returns-in_err-write_tiles-clause-answer : goal.returns-in_err-write_tiles-clause-answer
returns-in_err-write_tiles-clause-answer g c =
    let p = err_from_is_err_and c.from_residual-in_err-write_tiles.result c.from_residual-in_err-write_tiles.ensures.1 in
    rw (p.1, p.2) (writing_ended c.args.scheme (g.S.TileStore.tells c.args.store.now) (g.S.TileStore.told c.args.store.now) (g.T.TileTree.tells c.args.tree.now) (g.T.TileTree.told c.args.tree.now) (g.T.TileTree.told c.write_tiles.new.tree) c.in_ok-set.set c.in_ok-set.ensures.answer c.in_ok-set.ensures.own _ c.in_ok-format.format c.in_ok-format.ensures.answer (tree_wanting c.in_err-write_tiles.field-0.0) c.in_err-write_tiles.ensures.front)

pub returns-in_err-set-clause-tree_fault : goal.returns-in_err-set-clause-tree_fault
returns-in_err-set-clause-tree_fault g c =
    let p = err_from_is_err_and c.from_residual.result c.from_residual.ensures.1 in
    unasked g.T.TileTree.faults c.args.tree.now c.args.tree.now c.args.tree.now c.from_residual.result TreeFault refl (λ fault. no_tree_fault c.from_residual.result _ (p.1 ∙ ap Err p.2) c.in_err-set.ensures.own fault)
