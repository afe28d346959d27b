use Rattle.tile_streaming.proofs.Common.{ap, ConvertOptions, Err, IsHeld, IsHeldOf, list_all, map, refl, state_of, stored_in, PartLeaves, StreamCauses, StreamReport, subst, sym, tested_due, ◌&&◌, ◌∙◌, ◌∷◌}
use Rattle.tile_bridge.specs.Outcome.{all_patched, at_place}
use Rattle.tile_bridge.specs.Stores.{Refuses}
use Rattle.tile_streaming.proofs.DueLemmas.{causes_moved, due_tested, leaves_moved, no_medium, set_refused}
use Rattle.tile_streaming.proofs.ResolveLemmas.{any_held, rose_behind}
use Rattle.tile_streaming.proofs.StreamLemmas.{error_of, same_word}
use Rattle.tile_streaming.proofs.VerifyLemmas.{store_moved}
use Rattle.tile_streaming.specs.Streaming.{begun_due}
use Rattle.tile_streaming.specs.declared.error.StreamError.TheVariants.{Convert}
use Rattle.tile_streaming.proofs.StandsLemmas.{medium_anyway, stores_after}
use Rattle.tile_streaming.proofs.streaming.convert_tested.Goals as goal

pub convert_marked-requires-clause-held : goal.convert_marked-requires-clause-held
convert_marked-requires-clause-held g c =
    let set = c.in-Ok.set in
    store_moved (λ b x. IsHeld b x set.marked) (g.S.TileStore.tells c.args.base.now) (g.S.TileStore.tells c.resolve.new.base) (stored_in set (g.S.TileStore.told c.args.base.now)) (stored_in set (g.S.TileStore.told c.resolve.new.base)) c.resolve.ensures.base_kept.tells (ap (stored_in set) c.resolve.ensures.base_kept.told)
    (any_held (begun_due g.S.TileStore.tells g.S.TileStore.told g.P.TileStore.tells g.P.TileStore.told c.args.base.now c.args.patches.now.items c.asked.result.now.force) (g.S.TileStore.tells c.args.base.now) (stored_in set (g.S.TileStore.told c.args.base.now)) set.marked c.in-Ok.ensures.held)

pub returns-in-Ok-clause-causes : goal.returns-in-Ok-clause-causes
returns-in-Ok-clause-causes g c =
    let set = c.in-Ok.set in
    let asks = g.O.ArchiveOptions.asks c.args.options.now in
    let tells = g.S.TileStore.tells c.args.base.now in
    let tells_now = g.S.TileStore.tells c.resolve.new.base in
    let told = g.S.TileStore.told c.args.base.now in
    let now = g.S.TileStore.told c.resolve.new.base in
    let patches = c.args.patches.now.items in
    let begun = λ (o : ConvertOptions). begun_due g.S.TileStore.tells g.S.TileStore.told g.P.TileStore.tells g.P.TileStore.told c.args.base.now patches o.force in
    let medium = g.M.Backend.told c.args.medium.now in
    let moved = store_moved (λ b x. IsHeldOf (begun c.asked.result.now) b x set.marked) tells tells_now (stored_in set told) (stored_in set now) c.resolve.ensures.base_kept.tells (ap (stored_in set) c.resolve.ensures.base_kept.told) c.in-Ok.ensures.held in
    let held = subst (λ (o : ConvertOptions). IsHeldOf (begun o) tells_now (stored_in set now) set.marked) c.asked.ensures moved in
    let due = due_tested (tells && list_all g.P.TileStore.tells patches) (at_place 0 (state_of told)) (λ s. all_patched asks.force 1 s (map g.P.TileStore.told patches)) asks.verify in
    subst (λ d. StreamCauses asks.writer d tells medium c.convert_marked.result) (sym due)
    (causes_moved (tested_due asks.verify (begun asks)) tells tells_now c.resolve.ensures.base_kept.tells asks.writer medium c.convert_marked.result (c.convert_marked.ensures.causes (begun asks) held))

pub returns-in-Ok-clause-leaves : goal.returns-in-Ok-clause-leaves
returns-in-Ok-clause-leaves g c =
    let set = c.in-Ok.set in
    let asks = g.O.ArchiveOptions.asks c.args.options.now in
    let gives = g.O.ArchiveOptions.gives c.args.options.now in
    let tells = g.S.TileStore.tells c.args.base.now in
    let tells_now = g.S.TileStore.tells c.resolve.new.base in
    let told = g.S.TileStore.told c.args.base.now in
    let now = g.S.TileStore.told c.resolve.new.base in
    let patches = c.args.patches.now.items in
    let begun = λ (o : ConvertOptions). begun_due g.S.TileStore.tells g.S.TileStore.told g.P.TileStore.tells g.P.TileStore.told c.args.base.now patches o.force in
    let old = g.M.Backend.told c.args.medium.now in
    let new = g.M.Backend.told c.convert_marked.new.medium in
    let moved = store_moved (λ b x. IsHeldOf (begun c.asked.result.now) b x set.marked) tells tells_now (stored_in set told) (stored_in set now) c.resolve.ensures.base_kept.tells (ap (stored_in set) c.resolve.ensures.base_kept.told) c.in-Ok.ensures.held in
    let held = subst (λ (o : ConvertOptions). IsHeldOf (begun o) tells_now (stored_in set now) set.marked) c.asked.ensures moved in
    let due = due_tested (tells && list_all g.P.TileStore.tells patches) (at_place 0 (state_of told)) (λ s. all_patched asks.force 1 s (map g.P.TileStore.told patches)) asks.verify in
    subst (λ d. PartLeaves c.args.part.now gives d tells c.args.coords.now c.convert_marked.result old new) (sym due)
    (leaves_moved (tested_due asks.verify (begun asks)) tells tells_now c.resolve.ensures.base_kept.tells c.args.part.now gives c.args.coords.now c.convert_marked.result old new (c.convert_marked.ensures.leaves (begun asks) held))

pub returns-in-Ok-clause-store_fault : goal.returns-in-Ok-clause-store_fault
returns-in-Ok-clause-store_fault g c = λ place h.
    rose_behind place (g.S.TileStore.faults c.args.base.now) (g.S.TileStore.faults c.resolve.new.base) (g.S.TileStore.faults c.convert_marked.new.base) (map g.P.TileStore.faults c.args.patches.now.items) (map g.P.TileStore.faults c.resolve.new.patches.items) c.resolve.ensures.base_kept.faults (c.convert_marked.ensures.store_fault place h)

pub returns-in-Err-clause-causes : goal.returns-in-Err-clause-causes
returns-in-Err-clause-causes g c =
    let asks = g.O.ArchiveOptions.asks c.args.options.now in
    let tells = g.S.TileStore.tells c.args.base.now in
    let told = g.S.TileStore.told c.args.base.now in
    let patches = c.args.patches.now.items in
    let begun = λ (o : ConvertOptions). begun_due g.S.TileStore.tells g.S.TileStore.told g.P.TileStore.tells g.P.TileStore.told c.args.base.now patches o.force in
    let medium = g.M.Backend.told c.args.medium.now in
    let due = due_tested (tells && list_all g.P.TileStore.tells patches) (at_place 0 (state_of told)) (λ s. all_patched asks.force 1 s (map g.P.TileStore.told patches)) asks.verify in
    subst (λ d. StreamCauses asks.writer d tells medium (Err (Convert c.in-Err.error))) (sym due)
    (set_refused asks.verify (begun asks) asks.writer tells medium c.in-Err.error c.requires.empty c.requires.plain (subst (λ (o : ConvertOptions). Refuses (begun o) c.in-Err.error) c.asked.ensures c.in-Err.ensures.refused))

pub returns-in-Err-clause-store_fault : goal.returns-in-Err-clause-store_fault
returns-in-Err-clause-store_fault g c = λ place h. c.in-Err.ensures.fault place (ap Err (same_word c.in-Err.error _ (error_of (Convert c.in-Err.error) _ h)))

pub returns-in-Err-clause-fault : goal.returns-in-Err-clause-fault
returns-in-Err-clause-fault g c = λ h.
    absurd (no_medium (begun_due g.S.TileStore.tells g.S.TileStore.told g.P.TileStore.tells g.P.TileStore.told c.args.base.now c.args.patches.now.items c.asked.result.now.force) c.in-Err.error c.in-Err.ensures.refused (same_word c.in-Err.error _ (error_of (Convert c.in-Err.error) _ h)))

pub returns-in-Ok-clause-stores_still : goal.returns-in-Ok-clause-stores_still
returns-in-Ok-clause-stores_still g c =
    stores_after (g.S.TileStore.faults c.args.base.now ∷ map g.P.TileStore.faults c.args.patches.now.items) (g.S.TileStore.faults c.resolve.new.base ∷ map g.P.TileStore.faults c.resolve.new.patches.items) (g.S.TileStore.faults c.convert_marked.new.base ∷ map g.P.TileStore.faults c.resolve.new.patches.items)
    c.convert_marked.result c.in-Ok.ensures.still (c.convert_marked.ensures.base_still (map g.P.TileStore.faults c.resolve.new.patches.items))

pub returns-in-Err-clause-stores_still : goal.returns-in-Err-clause-stores_still
returns-in-Err-clause-stores_still g c = c.in-Err.ensures.still

pub returns-in-Err-clause-medium_still : goal.returns-in-Err-clause-medium_still
returns-in-Err-clause-medium_still g c = medium_anyway {A = StreamReport} _ _ (Err (Convert c.in-Err.error)) refl
