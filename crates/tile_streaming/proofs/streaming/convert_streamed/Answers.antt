use Rattle.tile_streaming.proofs.Common.{List, StreamCauses, StreamLeaves, subst, ap, ◌∙◌}
use Rattle.mb_store.specs.MemStore.{told_of}
use Rattle.mb_store.specs.declared.mem_store.MemStore.{MemStore}
use Rattle.std.proofs.Common.{length, true}
use Rattle.tile_bridge.proofs.FoldLemmas.{as_long}
use Rattle.tile_bridge.specs.Outcome.{due}
use Rattle.tile_streaming.proofs.ResolveLemmas.{none_left, rose_alone}
use Rattle.tile_streaming.proofs.StandsLemmas.{alone}
use Rattle.tile_streaming.proofs.streaming.convert_streamed.Goals as goal

pub returns-clause-causes : goal.returns-clause-causes
returns-clause-causes g c =
    let asks = g.O.ArchiveOptions.asks c.args.options.now in
    subst (λ (ps : List MemStore). StreamCauses asks.writer (due g.S.TileStore.tells g.S.TileStore.told (λ (s : MemStore). true) told_of c.args.base.now ps asks) (g.S.TileStore.tells c.args.base.now) (g.M.Backend.told c.args.medium.now) c.convert_patched.result) c.new-none.ensures.items c.convert_patched.ensures.causes

pub returns-clause-leaves : goal.returns-clause-leaves
returns-clause-leaves g c =
    let asks = g.O.ArchiveOptions.asks c.args.options.now in
    subst (λ (ps : List MemStore). StreamLeaves (g.O.ArchiveOptions.gives c.args.options.now) (due g.S.TileStore.tells g.S.TileStore.told (λ (s : MemStore). true) told_of c.args.base.now ps asks) (g.S.TileStore.tells c.args.base.now) c.args.coords.now c.convert_patched.result (g.M.Backend.told c.args.medium.now) (g.M.Backend.told c.convert_patched.new.medium)) c.new-none.ensures.items c.convert_patched.ensures.leaves

pub returns-clause-store_fault : goal.returns-clause-store_fault
returns-clause-store_fault g c = λ place h.
    let old = c.new-none.result.items in
    let new = c.convert_patched.new.patches.items in
    let none = none_left new (as_long told_of old new c.convert_patched.ensures.patches.told ∙ ap length c.new-none.ensures.items) in
    rose_alone _ place (g.S.TileStore.faults c.args.base.now) (g.S.TileStore.faults c.convert_patched.new.base) old new c.new-none.ensures.items none (c.convert_patched.ensures.store_fault place h)

pub returns-clause-stores_still : goal.returns-clause-stores_still
returns-clause-stores_still g c =
    let old = c.new-none.result.items in
    let new = c.convert_patched.new.patches.items in
    let none = none_left new (as_long told_of old new c.convert_patched.ensures.patches.told ∙ ap length c.new-none.ensures.items) in
    alone _ (g.S.TileStore.faults c.args.base.now) (g.S.TileStore.faults c.convert_patched.new.base) old new c.convert_patched.result c.new-none.ensures.items none c.convert_patched.ensures.stores_still
