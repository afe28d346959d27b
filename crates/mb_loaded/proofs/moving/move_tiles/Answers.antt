use Rattle.mb_loaded.proofs.Common.{ap, arith, Cell, HashAlgorithm, id_of, IsTile, length, List, MbtType, option_map, same_Some, slice_get, slice_get-get_or, slice_get-map, Some, subst, sym, ◌-◌, ◌<◌}
use Rattle.mb_loaded.proofs.Common.{◌∙◌, ◌≡◌}
use Rattle.mb_loaded.proofs.CopyLemmas.{one_copied}
use Rattle.mb_loaded.proofs.moving.move_tiles.Goals as goal

pub loop-left-preserved : goal.loop-left-preserved
loop-left-preserved c =
    let first = c.args.others.now.items in
    let tiles = c.args.tiles.now in
    let n = c.loop-left.left in
    let t = c.index-tiles-left.result in
    let start = c.args.copying.now in
    let l = c.loop-left.copying in
    let lt : n - 1 < length tiles = omega (arith, c.loop-left-test.true, c.loop-left.invariant.within) in
    let there : slice_get tiles (n - 1) ≡ Some t = slice_get-get_or tiles (n - 1) t lt ∙ ap Some (sym c.index-tiles-left.is) in
    let id_is : c.at.result.now ≡ id_of start.layout start.algorithm first t =
    same_Some c.at.result.now (id_of start.layout start.algorithm first t) (sym c.at.ensures ∙ (ap (λ (ids : List Cell). slice_get ids (n - 1)) c.requires.ids ∙ (slice_get-map (id_of start.layout start.algorithm first) tiles (n - 1) ∙ ap (option_map (id_of start.layout start.algorithm first)) there))) in
    let given : c.at.result.now ≡ id_of l.layout l.algorithm first t =
    id_is ∙ (ap (λ (z : MbtType). id_of z start.algorithm first t) (sym c.loop-left.invariant.edits.layout) ∙ ap (λ (z : HashAlgorithm). id_of l.layout z first t) (sym c.loop-left.invariant.edits.algorithm)) in
    let done = c.in_ok-move_tile.ensures first c.loop-left.invariant.copying c.loop-left.invariant.others (subst (IsTile first) (sym c.index-tiles-left.is) (c.requires.whole (n - 1) t lt)) given in
    record {
      within = omega (arith, c.loop-left.invariant.within);
      copying = done.0;
      others = done.1;
      edits = one_copied first tiles n t start l c.move_tile.new.copying c.loop-left-test.true c.loop-left.invariant.within c.index-tiles-left.is c.loop-left.invariant.edits done.2;
    }
