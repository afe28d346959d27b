use Rattle.tile_streaming.proofs.Common.{Cell, IsChanged, List, refl, rules, StepCauses, sym, took_itself, [], ◌∙◌, bytes_in, Option, stored_in}
use Rattle.std.proofs.lemmas.Result.{on_ok_weaker}
use Rattle.tile_streaming.proofs.AddingLemmas.{fits_read, none_read}
use Rattle.tile_streaming.proofs.StepLemmas.{add_step, find_step, same_error}
use Rattle.tile_streaming.proofs.StandsLemmas.{base_anyway, medium_anyway}
use Rattle.tile_streaming.specs.Stands.{BaseStands}
use Rattle.tile_streaming.proofs.writing.add_mark.Goals as goal

pub returns-then-mark-eq0-clause-added : goal.returns-then-mark-eq0-clause-added
returns-then-mark-eq0-clause-added g c = λ o adds w.
    let told = g.M.Backend.told c.args.medium.now in
    record {
      bytes = [];
      read = none_read _ _ c.args.mark.now c.if-mark-eq0.true;
      added = record { taken = []; took = took_itself told []; writes = w };
    }

pub add_row-requires-clause-digest : goal.add_row-requires-clause-digest
add_row-requires-clause-digest g c =
    let tells = g.S.TileStore.tells c.args.store.now in
    let t = stored_in c.args.set.now (g.S.TileStore.told c.args.store.now) in
    let r = fits_read tells t c.args.mark.now (bytes_in c.args.set.now c.args.mark.now.id c.in_ok-row.row) c.requires.short c.in_ok-row.ensures.found c.in_ok-row.ensures.answer in
    sym (r.digest (search rules))

pub returns-in_err-row-clause-causes : goal.returns-in_err-row-clause-causes
returns-in_err-row-clause-causes g c = λ o adds w fit.
    let store = g.S.TileStore.faults c.args.store.now in
    let store_now = g.S.TileStore.faults c.marked_row.new.store in
    let medium = g.M.Backend.faults c.args.medium.now in
    let changed = IsChanged (g.S.TileStore.tells c.args.store.now) (stored_in c.args.set.now (g.S.TileStore.told c.args.store.now)) c.args.mark.now in
    same_error c.in_err-row.field-0.0 _ (λ r. StepCauses {A = Unit {0}} changed store store_now medium medium r)
    (find_step (Unit {0}) changed store store_now medium medium (Option (List Cell)) c.in_err-row.field-0.0 c.in_err-row.ensures.causes) c.from_residual.ensures.1

pub returns-clause-added : goal.returns-clause-added
returns-clause-added g c = λ o adds w.
    let told = g.M.Backend.told c.args.medium.now in
    let tells = g.S.TileStore.tells c.args.store.now in
    let t = stored_in c.args.set.now (g.S.TileStore.told c.args.store.now) in
    let bytes = bytes_in c.args.set.now c.args.mark.now.id c.in_ok-row.row in
    on_ok_weaker c.add_row.result (λ a. record { bytes = bytes; read = fits_read tells t c.args.mark.now (bytes_in c.args.set.now c.args.mark.now.id c.in_ok-row.row) c.requires.short c.in_ok-row.ensures.found c.in_ok-row.ensures.answer; added = a }) (c.add_row.ensures.added o adds w)

pub returns-clause-causes : goal.returns-clause-causes
returns-clause-causes g c = λ o adds w fit.
    let tells = g.S.TileStore.tells c.args.store.now in
    let t = stored_in c.args.set.now (g.S.TileStore.told c.args.store.now) in
    let r = fits_read tells t c.args.mark.now (bytes_in c.args.set.now c.args.mark.now.id c.in_ok-row.row) c.requires.short c.in_ok-row.ensures.found c.in_ok-row.ensures.answer in
    let changed = IsChanged tells t c.args.mark.now in
    add_step (Unit {0}) changed (g.S.TileStore.faults c.args.store.now) (g.S.TileStore.faults c.marked_row.new.store) (g.M.Backend.faults c.args.medium.now) (g.M.Backend.faults c.add_row.new.medium) c.add_row.result (c.add_row.ensures.causes o adds w (λ taken size. fit taken (size ∙ r.size) (search rules)))

pub returns-in_err-row-clause-store_still : goal.returns-in_err-row-clause-store_still
returns-in_err-row-clause-store_still g c = same_error c.in_err-row.field-0.0 _ (BaseStands (g.S.TileStore.faults c.args.store.now) (g.S.TileStore.faults c.marked_row.new.store)) c.in_err-row.ensures.still c.from_residual.ensures.1

pub returns-in_err-row-clause-medium_still : goal.returns-in_err-row-clause-medium_still
returns-in_err-row-clause-medium_still g c = medium_anyway _ _ c.from_residual.result refl

pub returns-clause-store_still : goal.returns-clause-store_still
returns-clause-store_still g c = base_anyway _ _ c.add_row.result c.in_ok-row.ensures.still
