use Rattle.tile_bridge.proofs.Common.{map, MemStore, refl, told_of, true}
use Rattle.tile_bridge.proofs.ResolveLemmas.{base_refused, patches_refused, state_due, tests_refused}
use Rattle.tile_bridge.proofs.StandsLemmas.{patches_stand, stores_anyway}
use Rattle.tile_bridge.proofs.resolving.resolve_owned.Goals as goal

pub returns-in_err-set-clause-refused : goal.returns-in_err-set-clause-refused
returns-in_err-set-clause-refused g c =
    base_refused told_of g.P.TileStore.tells g.P.TileStore.told c.args.base c.args.patches.now.items c.args.options.now
    c.in_err-set.field-0.0 c.from_residual.result c.in_err-set.ensures.refused c.from_residual.ensures.1

pub returns-in_err-set-2-clause-refused : goal.returns-in_err-set-2-clause-refused
returns-in_err-set-2-clause-refused g c =
    patches_refused (λ (s : MemStore). true) told_of g.P.TileStore.tells g.P.TileStore.told c.args.base c.args.patches.now.items c.args.options.now c.in_ok-set.set.state (λ tells. c.in_ok-set.ensures.state)
    c.in_err-set-2.field-0.0 c.from_residual-in_err-set-2.result c.in_err-set-2.ensures.refused c.from_residual-in_err-set-2.ensures.1

pub returns-in_err-aggregate-clause-refused : goal.returns-in_err-aggregate-clause-refused
returns-in_err-aggregate-clause-refused g c =
    tests_refused (λ (s : MemStore). true) told_of g.P.TileStore.tells g.P.TileStore.told c.args.base c.args.patches.now.items c.args.options.now c.in_ok-set.set.state (λ tells. c.in_ok-set.ensures.state)
    c.in_ok-set-2.set.state c.in_ok-set-2.ensures.state c.in_err-aggregate.field-0.0 c.from_residual-in_err-aggregate.result c.in_err-aggregate.ensures.refused c.from_residual-in_err-aggregate.ensures.1

pub returns-clause-state : goal.returns-clause-state
returns-clause-state g c =
    state_due (λ (s : MemStore). true) told_of g.P.TileStore.tells g.P.TileStore.told c.args.base c.args.patches.now.items c.args.options.now c.in_ok-set.set.state (λ tells. c.in_ok-set.ensures.state)
    c.in_ok-set-2.set.state c.in_ok-set-2.ensures.state c.in_ok-aggregate.ensures.state

pub returns-in_err-set-clause-still : goal.returns-in_err-set-clause-still
returns-in_err-set-clause-still g c = stores_anyway _ _ c.from_residual.result refl

pub returns-in_err-set-2-clause-still : goal.returns-in_err-set-2-clause-still
returns-in_err-set-2-clause-still g c =
    patches_stand 0 0 (map g.P.TileStore.faults c.args.patches.now.items) (map g.P.TileStore.faults c.patch_all.new.patches.items) c.in_err-set-2.field-0.0 c.from_residual-in_err-set-2.result refl c.in_err-set-2.ensures.still c.from_residual-in_err-set-2.ensures.1

pub returns-in_err-aggregate-clause-still : goal.returns-in_err-aggregate-clause-still
returns-in_err-aggregate-clause-still g c = stores_anyway _ _ c.from_residual-in_err-aggregate.result (c.in_ok-set-2.ensures.still 0)

pub returns-clause-still : goal.returns-clause-still
returns-clause-still g c = c.in_ok-set-2.ensures.still 0
