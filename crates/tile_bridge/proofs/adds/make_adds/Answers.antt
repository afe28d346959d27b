use Rattle.tile_bridge.proofs.Common.{Add, All-permutation, arith, len, shown, ◌<◌}
use Rattle.tile_bridge.proofs.AddLemmas.{adds_are, permuted}
use Rattle.tile_bridge.proofs.FewAddLemmas.{adds_few}
use Rattle.tile_bridge.proofs.FillingLemmas.{all_filled}
use Rattle.tile_bridge.proofs.adds.make_adds.Goals as goal

pub returns-clause-are : goal.returns-clause-are
returns-clause-are c =
    let tiles = c.args.set.now.state.tiles in
    let all = all_filled tiles c.in_ok-adds.adds.items (len tiles) (omega arith) c.in_ok-adds.ensures in
    adds_are tiles all.1 c.sort_by_id.new.adds.items (permuted tiles c.in_ok-adds.adds.items c.sort_by_id.new.adds.items all.0 c.sort_by_id.ensures.same) c.sort_by_id.ensures.rising

pub returns-clause-within : goal.returns-clause-within
returns-clause-within c = All-permutation (λ (a : Add). a.index < len c.args.set.now.state.tiles) c.in_ok-adds.adds.items c.sort_by_id.new.adds.items c.sort_by_id.ensures.same c.in_ok-adds.ensures.within

pub returns-clause-few : goal.returns-clause-few
returns-clause-few c =
    let tiles = c.args.set.now.state.tiles in
    let all = all_filled tiles c.in_ok-adds.adds.items (len tiles) (omega arith) c.in_ok-adds.ensures in
    λ o. adds_few tiles (shown tiles c.sort_by_id.new.adds.items) (permuted tiles c.in_ok-adds.adds.items c.sort_by_id.new.adds.items all.0 c.sort_by_id.ensures.same) o
