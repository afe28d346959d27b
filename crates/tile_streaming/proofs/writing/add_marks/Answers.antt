use Rattle.tile_streaming.proofs.Common.{arith, Err, IsChanged, IsStored, medium_same, medium_then, refl, rules, StepCauses, subst, sym, false, [], ◌∙◌, ◌≡◌, ap, stored_in}
use Rattle.tile_streaming.proofs.AddingLemmas.{added_next, fits_now, short_mark}
use Rattle.tile_streaming.proofs.StepLemmas.{changed_untold, same_error, step_within}
use Rattle.tile_streaming.proofs.StandsLemmas.{base_after, medium_after}
use Rattle.tile_streaming.specs.Stands.{BaseStands, MediumStands}
use Rattle.tile_streaming.proofs.writing.add_marks.Goals as goal

pub add_mark-requires-clause-writes : goal.add_mark-requires-clause-writes
add_mark-requires-clause-writes g c =
    let o = c.requires.begun.0 in
    let m = c.loop-mark.invariant.0 o c.requires.begun.1 in
    (o, m.taken, m.writes)

pub add_mark-requires-clause-short : goal.add_mark-requires-clause-short
add_mark-requires-clause-short g c = short_mark c.args.marks.now c.loop-mark.mark-index c.mark-item.result c.requires.size c.loop-mark-test.true c.mark-item.is

pub returns-in_err-add_mark-clause-causes : goal.returns-in_err-add_mark-clause-causes
returns-in_err-add_mark-clause-causes g c =
    let i = c.loop-mark.invariant in
    let o = c.requires.begun.0 in
    let so = i.0 o c.requires.begun.1 in
    let tells = g.S.TileStore.tells c.args.store.now in
    let t = stored_in c.args.set.now (g.S.TileStore.told c.args.store.now) in
    let now = stored_in c.args.set.now (g.S.TileStore.told c.loop-mark.store) in
    let mark = c.mark-item.result in
    let marks = c.args.marks.now in
    let told = g.M.Backend.told c.args.medium.now in
    let fit = fits_now o tells tells t t marks c.loop-mark.mark-index mark told (g.M.Backend.told c.loop-mark.medium) c.loop-mark.state c.loop-mark-test.true c.mark-item.is so c.requires.size c.requires.begun.2 in
    let changed = IsChanged (g.S.TileStore.tells c.loop-mark.store) now mark in
    let store = g.S.TileStore.faults c.args.store.now in
    let store_then = g.S.TileStore.faults c.loop-mark.store in
    let store_now = g.S.TileStore.faults c.add_mark.new.store in
    let medium = g.M.Backend.faults c.args.medium.now in
    let medium_then = g.M.Backend.faults c.loop-mark.medium in
    let medium_now = g.M.Backend.faults c.add_mark.new.medium in
    same_error c.in_err-add_mark.field-0.0 _ (λ r. StepCauses {A = Unit {0}} (tells ≡ false) store store_now medium medium_now r)
    (step_within (Unit {0}) (Unit {0}) changed (tells ≡ false) store store_then store_now medium medium_then medium_now c.in_err-add_mark.field-0.0
    (changed_untold tells (g.S.TileStore.tells c.loop-mark.store) t now mark i.2.tells (ap (stored_in c.args.set.now) i.2.told)
    (λ u. subst (IsStored t) (sym c.mark-item.is) (c.requires.stored u c.loop-mark.mark-index mark c.loop-mark-test.true)))
    i.2.faults i.3.faults (c.in_err-add_mark.ensures.causes o so.taken so.writes fit))
    c.from_residual.ensures.1

pub loop-mark-preserved : goal.loop-mark-preserved
loop-mark-preserved g c =
    let i = c.loop-mark.invariant in
    let tells = g.S.TileStore.tells c.args.store.now in
    let t = stored_in c.args.set.now (g.S.TileStore.told c.args.store.now) in
    let now = stored_in c.args.set.now (g.S.TileStore.told c.loop-mark.store) in
    let mark = c.mark-item.result in
    let told = g.M.Backend.told c.args.medium.now in (
      λ o w.
          let so = i.0 o w in
          added_next o tells (g.S.TileStore.tells c.loop-mark.store) t now c.args.marks.now c.loop-mark.mark-index mark told (g.M.Backend.told c.loop-mark.medium) c.loop-mark.state c.loop-mark-test.true c.mark-item.is so
          (g.M.Backend.told c.add_mark.new.medium) c.add_mark.new.state i.2.tells (ap (stored_in c.args.set.now) i.2.told) i.3.tells (c.in_ok-add_mark.ensures.added o so.taken so.writes),
      search rules,
      record {
        told = c.in_ok-add_mark.ensures.store_kept.told ∙ i.2.told;
        tells = c.in_ok-add_mark.ensures.store_kept.tells ∙ i.2.tells;
        faults = omega (arith, i.2.faults, c.in_ok-add_mark.ensures.store_kept.faults);
        steady = λ s. c.in_ok-add_mark.ensures.store_kept.steady (i.2.steady s);
        calm = λ s. c.in_ok-add_mark.ensures.store_kept.calm (i.2.steady s) ∙ i.2.calm s;
      },
      medium_then g.M.Backend.told g.M.Backend.versions g.M.Backend.reads g.M.Backend.faults g.M.Backend.steady c.args.medium.now c.loop-mark.medium c.add_mark.new.medium i.3 c.in_ok-add_mark.ensures.medium_kept,
      c.in_ok-add_mark.ensures.store_still ∙ i.4,
      c.in_ok-add_mark.ensures.medium_still ∙ i.5,
    )

pub loop-mark-init : goal.loop-mark-init
loop-mark-init g c = (
  λ o w. record { contents = []; read = tt; taken = []; took = tt; writes = w },
  c.requires.alive,
  record { told = refl; tells = refl; faults = omega arith; steady = λ s. s; calm = λ s. refl },
  medium_same g.M.Backend.told g.M.Backend.versions g.M.Backend.reads g.M.Backend.faults g.M.Backend.steady c.args.medium.now,
  refl,
  refl,
)

pub returns-in_err-add_mark-clause-store_still : goal.returns-in_err-add_mark-clause-store_still
returns-in_err-add_mark-clause-store_still g c = same_error c.in_err-add_mark.field-0.0 _ (BaseStands (g.S.TileStore.faults c.args.store.now) (g.S.TileStore.faults c.add_mark.new.store)) (base_after {A = Unit {0}} _ _ _ (Err c.in_err-add_mark.field-0.0) c.loop-mark.invariant.4 c.in_err-add_mark.ensures.store_still) c.from_residual.ensures.1

pub returns-in_err-add_mark-clause-medium_still : goal.returns-in_err-add_mark-clause-medium_still
returns-in_err-add_mark-clause-medium_still g c = same_error c.in_err-add_mark.field-0.0 _ (MediumStands (g.M.Backend.faults c.args.medium.now) (g.M.Backend.faults c.add_mark.new.medium)) (medium_after {A = Unit {0}} _ _ _ (Err c.in_err-add_mark.field-0.0) c.loop-mark.invariant.5 c.in_err-add_mark.ensures.medium_still) c.from_residual.ensures.1
