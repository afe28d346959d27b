use Rattle.tile_streaming.proofs.Common.{ap, Err, List, option_copied, refl, Some, StreamError, subst, sym, true, ℕ, ◌∙◌, stored_in}
use Rattle.tile_streaming.proofs.VerifyLemmas.{hash_differs}
use Rattle.tile_streaming.specs.Hashing.{HashCauses, IsHashOf}
use Rattle.tile_streaming.proofs.StepLemmas.{same_error}
use Rattle.tile_streaming.proofs.StandsLemmas.{base_anyway}
use Rattle.tile_streaming.specs.Stands.{BaseStands}
use Rattle.tile_streaming.proofs.verifying.verified_hash.Goals as goal

pub returns-in_default-clause-causes : goal.returns-in_default-clause-causes
returns-in_default-clause-causes g c =
    let store = g.S.TileStore.faults c.args.store.now in
    subst (λ (x : StreamError). HashCauses {A = List ℕ} true (g.S.TileStore.tells c.args.store.now) (stored_in c.args.set.now (g.S.TileStore.told c.args.store.now)) c.args.set.now.marked store store (Err x)) (sym c.of_store.ensures)
    (refl, refl, sym c.text.ensures ∙ ap option_copied c.in_default.is)

pub returns-in-Ok-clause-hash : goal.returns-in-Ok-clause-hash
returns-in-Ok-clause-hash g c = subst (IsHashOf (g.S.TileStore.tells c.args.store.now) (stored_in c.args.set.now (g.S.TileStore.told c.args.store.now)) c.args.set.now.marked) (sym c.in-Ok.ensures.computed) c.in_ok-computed.ensures.hash

pub returns-in-Ok-clause-stored : goal.returns-in-Ok-clause-stored
returns-in-Ok-clause-stored g c = sym c.text.ensures ∙ ap option_copied c.in-Some.is ∙ ap Some (sym c.in-Ok.ensures.stored)

pub returns-in-Err-clause-causes : goal.returns-in-Err-clause-causes
returns-in-Err-clause-causes g c =
    let tells = g.S.TileStore.tells c.args.store.now in
    let t = stored_in c.args.set.now (g.S.TileStore.told c.args.store.now) in
    let store = g.S.TileStore.faults c.args.store.now in
    let now = g.S.TileStore.faults c.hash_marked.new.store in
    subst (λ (x : StreamError). HashCauses {A = List ℕ} true tells t c.args.set.now.marked store now (Err x)) (sym c.of_store-in-Err.ensures)
    (hash_differs (List ℕ) true tells t c.args.set.now.marked store now c.in-Err.error c.in_ok-computed.computed c.in-Some.stored.now refl c.in-Err.ensures.refused c.in-Err.ensures.differ (λ e. c.in-Err.ensures.fault (ap Err e))
    (sym c.text.ensures ∙ ap option_copied c.in-Some.is) c.in_ok-computed.ensures.hash)

pub returns-in_default-clause-still : goal.returns-in_default-clause-still
returns-in_default-clause-still g c = base_anyway {A = List ℕ} _ _ (Err c.of_store.result) refl

pub returns-in_err-computed-clause-still : goal.returns-in_err-computed-clause-still
returns-in_err-computed-clause-still g c = same_error c.in_err-computed.field-0.0 _ (BaseStands (g.S.TileStore.faults c.args.store.now) (g.S.TileStore.faults c.hash_marked.new.store)) c.in_err-computed.ensures.still c.from_residual.ensures.1

pub returns-in-Err-clause-still : goal.returns-in-Err-clause-still
returns-in-Err-clause-still g c = base_anyway {A = List ℕ} _ _ (Err c.of_store-in-Err.result) c.in_ok-computed.ensures.still
