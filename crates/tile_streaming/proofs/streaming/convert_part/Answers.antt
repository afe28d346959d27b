use Rattle.tile_streaming.proofs.Common.{ConvertOptions, Err, IsEmpty, PartLeaves, refl, StreamCauses, StreamReport, subst, sym}
use Rattle.tile_bridge.specs.Outcome.{due}
use Rattle.tile_streaming.proofs.DueLemmas.{test_no_store, test_refused, test_rose}
use Rattle.tile_streaming.proofs.StreamLemmas.{error_of, same_word}
use Rattle.tile_streaming.specs.declared.error.StreamError.TheVariants.{Convert}
use Rattle.tile_streaming.proofs.StandsLemmas.{medium_after, stores_anyway}
use Rattle.tile_streaming.proofs.streaming.convert_part.Goals as goal

pub convert_tested-requires-clause-empty : goal.convert_tested-requires-clause-empty
convert_tested-requires-clause-empty g c = subst IsEmpty (sym c.test_medium.ensures.kept.told) c.in-Ok.ensures.causes.0

pub returns-in-Ok-clause-causes : goal.returns-in-Ok-clause-causes
returns-in-Ok-clause-causes g c =
    let asks = g.O.ArchiveOptions.asks c.args.options.now in
    subst (λ m. StreamCauses asks.writer (due g.S.TileStore.tells g.S.TileStore.told g.P.TileStore.tells g.P.TileStore.told c.args.base.now c.args.patches.now.items asks) (g.S.TileStore.tells c.args.base.now) m c.convert_tested.result) c.test_medium.ensures.kept.told c.convert_tested.ensures.causes

pub returns-in-Ok-clause-leaves : goal.returns-in-Ok-clause-leaves
returns-in-Ok-clause-leaves g c =
    let asks = g.O.ArchiveOptions.asks c.args.options.now in
    subst (λ m. PartLeaves c.args.part.now (g.O.ArchiveOptions.gives c.args.options.now) (due g.S.TileStore.tells g.S.TileStore.told g.P.TileStore.tells g.P.TileStore.told c.args.base.now c.args.patches.now.items asks) (g.S.TileStore.tells c.args.base.now) c.args.coords.now c.convert_tested.result m (g.M.Backend.told c.convert_tested.new.medium)) c.test_medium.ensures.kept.told c.convert_tested.ensures.leaves

pub returns-in-Err-clause-causes : goal.returns-in-Err-clause-causes
returns-in-Err-clause-causes g c =
    let is_due = due g.S.TileStore.tells g.S.TileStore.told g.P.TileStore.tells g.P.TileStore.told c.args.base.now c.args.patches.now.items (g.O.ArchiveOptions.asks c.args.options.now) in
    let tells = g.S.TileStore.tells c.args.base.now in
    let told = g.M.Backend.told c.args.medium.now in
    subst (λ (o : ConvertOptions). StreamCauses o.writer is_due tells told (Err (Convert c.in-Err.error))) c.asked.ensures
    (test_refused c.asked.result.now.writer is_due tells told (g.M.Backend.faults c.args.medium.now) (g.M.Backend.faults c.test_medium.new.medium) c.in-Err.error c.in-Err.ensures.causes)

pub returns-in-Err-clause-store_fault : goal.returns-in-Err-clause-store_fault
returns-in-Err-clause-store_fault g c = λ place h. absurd (test_no_store c.asked.result.now.writer (g.M.Backend.told c.args.medium.now) (g.M.Backend.faults c.args.medium.now) (g.M.Backend.faults c.test_medium.new.medium) c.in-Err.error place (same_word c.in-Err.error _ (error_of (Convert c.in-Err.error) _ h)) c.in-Err.ensures.causes)

pub returns-in-Err-clause-fault : goal.returns-in-Err-clause-fault
returns-in-Err-clause-fault g c = λ h. test_rose c.asked.result.now.writer (g.M.Backend.told c.args.medium.now) (g.M.Backend.faults c.args.medium.now) (g.M.Backend.faults c.test_medium.new.medium) c.in-Err.error (same_word c.in-Err.error _ (error_of (Convert c.in-Err.error) _ h)) c.in-Err.ensures.causes

pub returns-in-Ok-clause-medium_still : goal.returns-in-Ok-clause-medium_still
returns-in-Ok-clause-medium_still g c = medium_after _ _ _ c.convert_tested.result c.in-Ok.ensures.still c.convert_tested.ensures.medium_still

pub returns-in-Err-clause-medium_still : goal.returns-in-Err-clause-medium_still
returns-in-Err-clause-medium_still g c = c.in-Err.ensures.still

pub returns-in-Err-clause-stores_still : goal.returns-in-Err-clause-stores_still
returns-in-Err-clause-stores_still g c = stores_anyway {A = StreamReport} _ _ (Err (Convert c.in-Err.error)) refl
