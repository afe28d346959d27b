use Rattle.tile_streaming.proofs.Common.{arith, Err, false, FindCauses, refl, [], ◌∙◌, ◌≡◌, ap, stored_in}
use Rattle.tile_streaming.proofs.HashedLemmas.{hash_refused, hashed_next}
use Rattle.tile_streaming.proofs.StepLemmas.{same_error}
use Rattle.tile_streaming.proofs.StandsLemmas.{base_after}
use Rattle.tile_streaming.specs.Stands.{BaseStands}
use Rattle.tile_streaming.proofs.hashing.hash_spots.Goals as goal

pub loop-spot-init : goal.loop-spot-init
loop-spot-init g c = (
  λ a taken. record { contents = []; read = tt; taken = taken },
  record { told = refl; tells = refl; faults = omega arith; steady = λ s. s; calm = λ s. refl },
  refl,
)

pub loop-spot-preserved : goal.loop-spot-preserved
loop-spot-preserved g c =
    let i = c.loop-spot.invariant in (
      λ a taken.
          let so = i.0 a taken in
          hashed_next (g.S.TileStore.tells c.args.store.now) (g.S.TileStore.tells c.loop-spot.store) (stored_in c.args.set.now (g.S.TileStore.told c.args.store.now)) (stored_in c.args.set.now (g.S.TileStore.told c.loop-spot.store)) c.args.marks.now c.args.spots.now c.loop-spot.spot-index _ _ c.index-marks-spot.result c.index-marks-spot.is c.loop-spot-test.true c.requires.within i.1.tells (ap (stored_in c.args.set.now) i.1.told)
          a c.loop-spot.stream c.hash_mark.new.stream so (c.in_ok-hash_mark.ensures.hashed a _ so.taken),
      record {
        told = c.in_ok-hash_mark.ensures.kept.told ∙ i.1.told;
        tells = c.in_ok-hash_mark.ensures.kept.tells ∙ i.1.tells;
        faults = omega (arith, i.1.faults, c.in_ok-hash_mark.ensures.kept.faults);
        steady = λ s. c.in_ok-hash_mark.ensures.kept.steady (i.1.steady s);
        calm = λ s. c.in_ok-hash_mark.ensures.kept.calm (i.1.steady s) ∙ i.1.calm s;
      },
      c.in_ok-hash_mark.ensures.still ∙ i.2,
    )

pub returns-in_err-hash_mark-clause-causes : goal.returns-in_err-hash_mark-clause-causes
returns-in_err-hash_mark-clause-causes g c =
    let i = c.loop-spot.invariant in
    same_error c.in_err-hash_mark.field-0.0 _ (λ r. FindCauses {A = Unit {0}} (g.S.TileStore.tells c.args.store.now ≡ false) (g.S.TileStore.faults c.args.store.now) (g.S.TileStore.faults c.hash_mark.new.store) r)
    (hash_refused (g.S.TileStore.tells c.args.store.now) (g.S.TileStore.tells c.loop-spot.store) (stored_in c.args.set.now (g.S.TileStore.told c.args.store.now)) (stored_in c.args.set.now (g.S.TileStore.told c.loop-spot.store)) c.args.marks.now c.args.spots.now c.loop-spot.spot-index _ _ c.index-marks-spot.result c.index-marks-spot.is c.loop-spot-test.true c.requires.within i.1.tells (ap (stored_in c.args.set.now) i.1.told)
    (Unit {0}) (g.S.TileStore.faults c.args.store.now) (g.S.TileStore.faults c.loop-spot.store) (g.S.TileStore.faults c.hash_mark.new.store) c.in_err-hash_mark.field-0.0 c.requires.stored i.1.faults c.in_err-hash_mark.ensures.causes)
    c.from_residual.ensures.1

pub returns-in_err-hash_mark-clause-still : goal.returns-in_err-hash_mark-clause-still
returns-in_err-hash_mark-clause-still g c = same_error c.in_err-hash_mark.field-0.0 _ (BaseStands (g.S.TileStore.faults c.args.store.now) (g.S.TileStore.faults c.hash_mark.new.store)) (base_after {A = Unit {0}} _ _ _ (Err c.in_err-hash_mark.field-0.0) c.loop-spot.invariant.2 c.in_err-hash_mark.ensures.still) c.from_residual.ensures.1
