use Rattle.mb_tree.proofs.Common.{ap, arith, is_some, sym, tile_path, ◌∙◌}
use Rattle.mb_tree.proofs.PathLoops.{not_counted, some_counted}
use Rattle.mb_tree.proofs.tests_of_paths.count_tiles.Goals.{else-is_some, then-is_some}
use Rattle.mb_tree.proofs.tests_of_paths.count_tiles.Goals as goal

pub loop-path-preserved : goal.loop-path-preserved
loop-path-preserved c =
    let tested = ap (λ path. is_some (tile_path path)) (sym c.as_str.ensures) ∙ (ap is_some (sym c.read_path.ensures) ∙ sym c.is_some.ensures) in
    elim c.if-is_some.branch [
      | then-is_some w ↦ record {
        counted = w.count-is ∙ some_counted c.args.paths.now c.loop-path.path-index c.loop-path.count c.path-item.result c.loop-path-test.true c.path-item.is c.loop-path.invariant.counted (tested ∙ w.if-is_some.true);
        within = omega (arith, w.count-is, c.loop-path.invariant.within);
      }
      | else-is_some w ↦ record {
        counted = w.count-is ∙ not_counted c.args.paths.now c.loop-path.path-index c.loop-path.count c.path-item.result c.loop-path-test.true c.path-item.is c.loop-path.invariant.counted (tested ∙ w.if-is_some.false);
        within = omega (arith, w.count-is, c.loop-path.invariant.within);
      }
    ]
