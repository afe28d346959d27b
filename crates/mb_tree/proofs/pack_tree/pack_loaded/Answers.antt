use Rattle.mb_tree.proofs.Common.{All, ap, contains_key, Err, err_from_is_err_and, FileFormat, first_format, List, Option, paths_of, subst, sym, TreeFault, true, with_format, with_zooms, ℕ, ◌∙◌, ◌≡◌}
use Rattle.mb_store.proofs.FaultLemmas.{unasked}
use Rattle.mb_tree.proofs.FileLemmas.{all_there, moved_all}
use Rattle.mb_tree.proofs.PackLemmas.{all_fit, are_packed}
use Rattle.mb_tree.proofs.PathRefusals.{paths_no_fault, refuses_none, unfaulted}
use Rattle.mb_tree.proofs.UnpackLemmas.{tree_wanting}
use Rattle.mb_tree.proofs.pack_tree.pack_loaded.Goals as goal

pub put_files-requires-clause-fit : goal.put_files-requires-clause-fit
put_files-requires-clause-fit g c = all_fit c.as_slice-paths.result.now c.in_ok-test_paths.ensures

pub put_files-requires-clause-there : goal.put_files-requires-clause-there
put_files-requires-clause-there g c tells =
    subst (λ (paths : List (List ℕ)). All (λ path. contains_key (g.T.TileTree.told c.list.new.self) path ≡ true) paths)
    (ap paths_of c.list.ensures.kept.told ∙ (sym (c.in_ok-listed.ensures.answer (sym c.list.ensures.kept.tells ∙ tells)) ∙ sym c.as_slice-paths.ensures.value))
    (all_there (g.T.TileTree.told c.list.new.self))

pub returns-in_err-listed-clause-refused : goal.returns-in_err-listed-clause-refused
returns-in_err-listed-clause-refused g c =
    let p = err_from_is_err_and c.from_residual.result c.from_residual.ensures.1 in
    rw (p.1, p.2) (refuses_none c.args.scheme (g.T.TileTree.tells c.args.tree.now) (g.T.TileTree.told c.args.tree.now) c.args.base.state _ (tree_wanting c.in_err-listed.field-0.0))

pub returns-in_err-test_paths-clause-fault : goal.returns-in_err-test_paths-clause-fault
returns-in_err-test_paths-clause-fault g c =
    let p = err_from_is_err_and c.from_residual-in_err-test_paths.result c.from_residual-in_err-test_paths.ensures.1 in
    unasked g.T.TileTree.faults c.args.tree.now c.args.tree.now c.list.new.self c.from_residual-in_err-test_paths.result TreeFault c.in_ok-listed.ensures.fault.still
    (λ fault. unfaulted c.from_residual-in_err-test_paths.result _ (p.1 ∙ ap Err p.2) (paths_no_fault (first_format c.as_slice-paths.result.now) c.as_slice-paths.result.now _ c.in_err-test_paths.ensures.0) fault)

pub returns-clause-packed : goal.returns-clause-packed
returns-clause-packed g c =
    let read =
    moved_all c.args.scheme (g.T.TileTree.tells c.args.tree.now) (g.T.TileTree.tells c.list.new.self) (g.T.TileTree.told c.args.tree.now) (g.T.TileTree.told c.list.new.self) c.as_slice-paths.result.now c.args.base c.in_ok-set.set
    c.list.ensures.kept.tells c.list.ensures.kept.told c.in_ok-set.ensures.put in
    are_packed c.args.scheme (g.T.TileTree.tells c.args.tree.now) (g.T.TileTree.told c.args.tree.now) c.as_slice-paths.result.now c.args.base c.in_ok-set.set _
    (λ tells. c.as_slice-paths.ensures.value ∙ c.in_ok-listed.ensures.answer tells) read c.in_ok-test_paths.ensures
    (c.in_ok-test_apart.ensures c.args.scheme c.args.base read.files c.tile_count-before.ensures read.of read.put)
    (c.in_ok-with_names.ensures ∙ ap (λ (o : Option FileFormat). with_zooms (with_format c.in_ok-set.set o)) c.first_format.ensures)
