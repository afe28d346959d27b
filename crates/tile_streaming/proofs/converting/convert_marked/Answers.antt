use Rattle.tile_streaming.proofs.Common.{ap, ConvertOptions, Err, IfSome, inl, List, Option, refl, Result, Rose, RoseAt, PartLeaves, StreamCauses, StreamError, StreamReport, subst, ℕ, [], ◌∙◌, ◌∷◌, ◌||◌, ◌≡◌, IsHeld, IsHeldOf, stored_in, tested_due}
use Rattle.tile_bridge.specs.declared.error.ConvertError.TheVariants.{MediumFault, StoreFault}
use Rattle.tile_streaming.proofs.DueLemmas.{causes_moved, leaves_moved, rose_more}
use Rattle.tile_streaming.proofs.StepLemmas.{same_error}
use Rattle.tile_streaming.proofs.StreamLemmas.{error_of}
use Rattle.tile_streaming.proofs.VerifyLemmas.{asked_is, hash_causes, hash_no_medium, hash_right, hash_rose, store_moved}
use Rattle.tile_streaming.specs.Hashing.{HashCauses, IsHashOf, IsRight}
use Rattle.tile_streaming.specs.declared.error.StreamError.TheVariants.{Convert}
use Rattle.tile_streaming.proofs.StandsLemmas.{medium_anyway, stores_after, stores_hash}
use Rattle.tile_streaming.specs.Stands.{StoresStand}
use Rattle.tile_streaming.proofs.converting.convert_marked.Goals as goal

pub convert_hashed-requires-clause-held : goal.convert_hashed-requires-clause-held
convert_hashed-requires-clause-held g c =
    let set = c.args.set.now in
    store_moved (λ b x. IsHeld b x set.marked) (g.S.TileStore.tells c.args.base.now) (g.S.TileStore.tells c.hash_for.new.store) (stored_in set (g.S.TileStore.told c.args.base.now)) (stored_in set (g.S.TileStore.told c.hash_for.new.store)) c.hash_for.ensures.kept.tells (ap (stored_in set) c.hash_for.ensures.kept.told) c.requires.held

pub convert_hashed-requires-clause-right : goal.convert_hashed-requires-clause-right
convert_hashed-requires-clause-right g c =
    let set = c.args.set.now in
    let tells = g.S.TileStore.tells c.args.base.now in
    let tells_now = g.S.TileStore.tells c.hash_for.new.store in
    let t = stored_in set (g.S.TileStore.told c.args.base.now) in
    let now = stored_in set (g.S.TileStore.told c.hash_for.new.store) in
    subst (λ (o : ConvertOptions). IsRight o.verify tells_now now set.marked) c.asked.ensures
    (store_moved (λ b x. IsRight c.asked.result.now.verify b x set.marked) tells tells_now t now c.hash_for.ensures.kept.tells (ap (stored_in set) c.hash_for.ensures.kept.told)
    (hash_right tells t set.marked c.asked.result.now.verify c.args.hash c.in_ok-aggregate.aggregate c.in_ok-aggregate.ensures.asked c.in_ok-aggregate.ensures.hash c.in_ok-aggregate.ensures.stored))

pub convert_hashed-requires-clause-hashed : goal.convert_hashed-requires-clause-hashed
convert_hashed-requires-clause-hashed g c =
    let set = c.args.set.now in
    store_moved (λ b x. IfSome c.in_ok-aggregate.aggregate (IsHashOf b x set.marked)) (g.S.TileStore.tells c.args.base.now) (g.S.TileStore.tells c.hash_for.new.store) (stored_in set (g.S.TileStore.told c.args.base.now)) (stored_in set (g.S.TileStore.told c.hash_for.new.store)) c.hash_for.ensures.kept.tells (ap (stored_in set) c.hash_for.ensures.kept.told) c.in_ok-aggregate.ensures.hash

pub returns-in_err-aggregate-clause-causes : goal.returns-in_err-aggregate-clause-causes
returns-in_err-aggregate-clause-causes g c = λ begun from.
    let set = c.args.set.now in
    let tells = g.S.TileStore.tells c.args.base.now in
    let t = stored_in set (g.S.TileStore.told c.args.base.now) in
    let asks = g.O.ArchiveOptions.asks c.args.options.now in
    let told = g.M.Backend.told c.args.medium.now in
    let s = g.S.TileStore.faults c.args.base.now in
    let sn = g.S.TileStore.faults c.hash_for.new.store in
    let x = c.in_err-aggregate.field-0.0 in
    same_error x _ (λ (r : Result StreamReport StreamError). StreamCauses asks.writer (tested_due asks.verify begun) tells told r)
    (hash_causes tells t set.marked begun from (Option (List ℕ)) asks.verify asks.writer told s sn x c.requires.empty c.requires.plain
    (subst (λ (o : ConvertOptions). HashCauses {A = Option (List ℕ)} o.verify tells t set.marked s sn (Err x)) c.asked.ensures c.in_err-aggregate.ensures.causes)) c.from_residual.ensures.1

pub returns-in_err-aggregate-clause-leaves : goal.returns-in_err-aggregate-clause-leaves
returns-in_err-aggregate-clause-leaves g c = λ begun from.
    let asks = g.O.ArchiveOptions.asks c.args.options.now in
    let told = g.M.Backend.told c.args.medium.now in
    same_error c.in_err-aggregate.field-0.0 _ (λ (r : Result StreamReport StreamError). PartLeaves c.args.part.now (g.O.ArchiveOptions.gives c.args.options.now) (tested_due asks.verify begun) (g.S.TileStore.tells c.args.base.now) c.args.coords.now r told told)
    (inl (record { refused = tt; medium = refl })) c.from_residual.ensures.1

pub returns-in_err-aggregate-clause-store_fault : goal.returns-in_err-aggregate-clause-store_fault
returns-in_err-aggregate-clause-store_fault g c = λ place h.
    let s = g.S.TileStore.faults c.args.base.now in
    let sn = g.S.TileStore.faults c.hash_for.new.store in
    let x = c.in_err-aggregate.field-0.0 in
    same_error x _ (λ (r : Result StreamReport StreamError). r ≡ Err (Convert (StoreFault place)) → RoseAt place (s ∷ []) (sn ∷ []))
    (λ is. hash_rose (Option (List ℕ)) c.asked.result.now.verify (g.S.TileStore.tells c.args.base.now) (stored_in c.args.set.now (g.S.TileStore.told c.args.base.now)) c.args.set.now.marked s sn x place c.in_err-aggregate.ensures.causes (error_of x (Convert (StoreFault place)) is))
    c.from_residual.ensures.1 h

pub returns-in_err-aggregate-clause-fault : goal.returns-in_err-aggregate-clause-fault
returns-in_err-aggregate-clause-fault g c = λ h.
    let s = g.S.TileStore.faults c.args.base.now in
    let sn = g.S.TileStore.faults c.hash_for.new.store in
    let x = c.in_err-aggregate.field-0.0 in
    let medium = g.M.Backend.faults c.args.medium.now in
    same_error x _ (λ (r : Result StreamReport StreamError). r ≡ Err (Convert MediumFault) → Rose medium medium)
    (λ is. absurd (hash_no_medium (Option (List ℕ)) c.asked.result.now.verify (g.S.TileStore.tells c.args.base.now) (stored_in c.args.set.now (g.S.TileStore.told c.args.base.now)) c.args.set.now.marked s sn x c.in_err-aggregate.ensures.causes (error_of x (Convert MediumFault) is)))
    c.from_residual.ensures.1 h

pub returns-clause-causes : goal.returns-clause-causes
returns-clause-causes g c = λ begun from.
    let set = c.args.set.now in
    let tells = g.S.TileStore.tells c.args.base.now in
    let tells_now = g.S.TileStore.tells c.hash_for.new.store in
    let t = stored_in set (g.S.TileStore.told c.args.base.now) in
    let now = stored_in set (g.S.TileStore.told c.hash_for.new.store) in
    let asks = g.O.ArchiveOptions.asks c.args.options.now in
    let moved = store_moved (λ b x. IsHeldOf begun b x set.marked) tells tells_now t now c.hash_for.ensures.kept.tells (ap (stored_in set) c.hash_for.ensures.kept.told) from in
    causes_moved (tested_due asks.verify begun) tells tells_now c.hash_for.ensures.kept.tells asks.writer (g.M.Backend.told c.args.medium.now) c.convert_hashed.result (c.convert_hashed.ensures.causes begun moved)

pub returns-clause-leaves : goal.returns-clause-leaves
returns-clause-leaves g c = λ begun from.
    let set = c.args.set.now in
    let tells = g.S.TileStore.tells c.args.base.now in
    let tells_now = g.S.TileStore.tells c.hash_for.new.store in
    let t = stored_in set (g.S.TileStore.told c.args.base.now) in
    let now = stored_in set (g.S.TileStore.told c.hash_for.new.store) in
    let asks = g.O.ArchiveOptions.asks c.args.options.now in
    let moved = store_moved (λ b x. IsHeldOf begun b x set.marked) tells tells_now t now c.hash_for.ensures.kept.tells (ap (stored_in set) c.hash_for.ensures.kept.told) from in
    leaves_moved (tested_due asks.verify begun) tells tells_now c.hash_for.ensures.kept.tells c.args.part.now
    (g.O.ArchiveOptions.gives c.args.options.now) c.args.coords.now c.convert_hashed.result (g.M.Backend.told c.args.medium.now) (g.M.Backend.told c.convert_hashed.new.medium) (c.convert_hashed.ensures.leaves begun moved)

pub returns-clause-store_fault : goal.returns-clause-store_fault
returns-clause-store_fault g c = λ place h. rose_more place (g.S.TileStore.faults c.args.base.now) (g.S.TileStore.faults c.hash_for.new.store) (g.S.TileStore.faults c.convert_hashed.new.base) c.hash_for.ensures.kept.faults (c.convert_hashed.ensures.store_fault place h)

pub returns-clause-aggregate : goal.returns-clause-aggregate
returns-clause-aggregate g c =
    asked_is c.convert_hashed.result c.in_ok-aggregate.aggregate ((g.O.ArchiveOptions.asks c.args.options.now).verify || c.args.hash)
    (c.in_ok-aggregate.ensures.asked ∙ ap (λ (o : ConvertOptions). o.verify || c.args.hash) c.asked.ensures) c.convert_hashed.ensures.aggregate

pub returns-in_err-aggregate-clause-base_still : goal.returns-in_err-aggregate-clause-base_still
returns-in_err-aggregate-clause-base_still g c = λ patches.
    same_error c.in_err-aggregate.field-0.0 _ (StoresStand (g.S.TileStore.faults c.args.base.now ∷ patches) (g.S.TileStore.faults c.hash_for.new.store ∷ patches))
    (stores_hash (Option (List ℕ)) c.asked.result.now.verify (g.S.TileStore.tells c.args.base.now) (stored_in c.args.set.now (g.S.TileStore.told c.args.base.now)) c.args.set.now.marked (g.S.TileStore.faults c.args.base.now) (g.S.TileStore.faults c.hash_for.new.store) patches c.in_err-aggregate.field-0.0 c.in_err-aggregate.ensures.causes c.in_err-aggregate.ensures.still) c.from_residual.ensures.1

pub returns-in_err-aggregate-clause-medium_still : goal.returns-in_err-aggregate-clause-medium_still
returns-in_err-aggregate-clause-medium_still g c = medium_anyway _ _ c.from_residual.result refl

pub returns-clause-base_still : goal.returns-clause-base_still
returns-clause-base_still g c = λ patches. stores_after _ _ _ c.convert_hashed.result (ap (λ n. n ∷ patches) c.in_ok-aggregate.ensures.still) (c.convert_hashed.ensures.base_still patches)
