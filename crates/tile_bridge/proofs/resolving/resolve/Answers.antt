use Rattle.tile_bridge.proofs.Common.{map, ◌∷◌}
use Rattle.tile_bridge.proofs.ResolveLemmas.{held_from, patches_refused, state_due, tests_refused}
use Rattle.tile_bridge.proofs.StandsLemmas.{all_stand, base_stands, patches_stand, stores_anyway}
use Rattle.tile_bridge.proofs.resolving.resolve.Goals as goal

pub returns-in_err-set-2-clause-refused : goal.returns-in_err-set-2-clause-refused
returns-in_err-set-2-clause-refused g c =
    patches_refused g.S.TileStore.tells g.S.TileStore.told g.P.TileStore.tells g.P.TileStore.told c.args.base.now c.args.patches.now.items c.args.options.now c.in_ok-set.set.state c.in_ok-set.ensures.state
    c.in_err-set-2.field-0.0 c.from_residual-in_err-set-2.result c.in_err-set-2.ensures.refused c.from_residual-in_err-set-2.ensures.1

pub returns-in_err-aggregate-clause-refused : goal.returns-in_err-aggregate-clause-refused
returns-in_err-aggregate-clause-refused g c =
    tests_refused g.S.TileStore.tells g.S.TileStore.told g.P.TileStore.tells g.P.TileStore.told c.args.base.now c.args.patches.now.items c.args.options.now c.in_ok-set.set.state c.in_ok-set.ensures.state
    c.in_ok-set-2.set.state c.in_ok-set-2.ensures.state c.in_err-aggregate.field-0.0 c.from_residual-in_err-aggregate.result c.in_err-aggregate.ensures.refused c.from_residual-in_err-aggregate.ensures.1

pub returns-clause-state : goal.returns-clause-state
returns-clause-state g c =
    state_due g.S.TileStore.tells g.S.TileStore.told g.P.TileStore.tells g.P.TileStore.told c.args.base.now c.args.patches.now.items c.args.options.now c.in_ok-set.set.state c.in_ok-set.ensures.state
    c.in_ok-set-2.set.state c.in_ok-set-2.ensures.state c.in_ok-aggregate.ensures.state

pub returns-clause-held : goal.returns-clause-held
returns-clause-held g c =
    held_from c.args.options.now.force c.args.options.now.verify (g.S.TileStore.tells c.args.base.now) (g.S.TileStore.told c.args.base.now) _ _ c.in_ok-set.set c.in_ok-set-2.set c.in_ok-set.ensures.edited c.in_ok-set.ensures.state c.in_ok-set.ensures.loaded c.in_ok-set.ensures.named
    c.in_ok-set-2.ensures.held c.in_ok-aggregate.ensures.state c.in_ok-set-2.ensures.loaded

pub returns-in_err-set-clause-still : goal.returns-in_err-set-clause-still
returns-in_err-set-clause-still g c =
    base_stands (g.S.TileStore.faults c.args.base.now) (g.S.TileStore.faults c.load_at.new.store) (map g.P.TileStore.faults c.args.patches.now.items) c.in_err-set.field-0.0 c.from_residual.result c.in_err-set.ensures.placed c.from_residual.ensures.1

pub returns-in_err-set-2-clause-still : goal.returns-in_err-set-2-clause-still
returns-in_err-set-2-clause-still g c =
    patches_stand (g.S.TileStore.faults c.args.base.now) (g.S.TileStore.faults c.load_at.new.store) (map g.P.TileStore.faults c.args.patches.now.items) (map g.P.TileStore.faults c.patch_all.new.patches.items)
    c.in_err-set-2.field-0.0 c.from_residual-in_err-set-2.result c.in_ok-set.ensures.still c.in_err-set-2.ensures.still c.from_residual-in_err-set-2.ensures.1

pub returns-in_err-aggregate-clause-still : goal.returns-in_err-aggregate-clause-still
returns-in_err-aggregate-clause-still g c =
    stores_anyway (g.S.TileStore.faults c.args.base.now ∷ map g.P.TileStore.faults c.args.patches.now.items) (g.S.TileStore.faults c.load_at.new.store ∷ map g.P.TileStore.faults c.patch_all.new.patches.items) c.from_residual-in_err-aggregate.result (all_stand (g.S.TileStore.faults c.args.base.now) (g.S.TileStore.faults c.load_at.new.store) (map g.P.TileStore.faults c.args.patches.now.items) (map g.P.TileStore.faults c.patch_all.new.patches.items) c.in_ok-set.ensures.still c.in_ok-set-2.ensures.still)

pub returns-clause-still : goal.returns-clause-still
returns-clause-still g c =
    all_stand (g.S.TileStore.faults c.args.base.now) (g.S.TileStore.faults c.load_at.new.store) (map g.P.TileStore.faults c.args.patches.now.items) (map g.P.TileStore.faults c.patch_all.new.patches.items) c.in_ok-set.ensures.still c.in_ok-set-2.ensures.still
