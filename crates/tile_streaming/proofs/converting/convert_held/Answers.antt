use Rattle.tile_streaming.proofs.Common.{ap, ArchivePlaces, Err, false, IsHeldWith, Ok, refl, Result, Rose, RoseAt, PartLeaves, StreamCauses, StreamError, StreamReport, subst, sym, [], ◌∙◌, ◌∷◌, ◌≡◌, None, stored_in, tested_due}
use Rattle.tile_streaming.proofs.PartLemmas.{part_fits}
use Rattle.tile_streaming.proofs.StepLemmas.{same_error}
use Rattle.tile_streaming.proofs.StreamLemmas.{can, error_of, medium_rose, no_store, part_left, same_word, step_causes, step_ends, store_rose, stored_all, unread_causes, unread_left, whole_causes, whole_left}
use Rattle.tile_bridge.specs.ReadingBack.{of_read_error}
use Rattle.tile_bridge.specs.declared.error.ConvertError.TheVariants.{MediumFault, StoreFault}
use Rattle.tile_streaming.specs.declared.error.StreamError.TheVariants.{Convert}
use Rattle.tile_streaming.proofs.StandsLemmas.{read_medium, stores_anyway, stores_step}
use Rattle.tile_streaming.specs.Stands.{MediumStands, StoresStand}
use Rattle.tile_streaming.proofs.converting.convert_held.Goals as goal

pub write_part-requires-clause-size : goal.write_part-requires-clause-size
write_part-requires-clause-size g c = part_fits c.args.part.now c.args.set.now.marked.marks.items c.requires.size

pub write_part-requires-clause-can : goal.write_part-requires-clause-can
write_part-requires-clause-can g c =
    can c.args.part.now (g.S.TileStore.tells c.args.base.now) (stored_in c.args.set.now (g.S.TileStore.told c.args.base.now)) c.args.asked.now c.args.writer.now c.args.set.now.marked None c.requires.held c.requires.right
    c.requires.size c.fits.ensures.options c.fits.ensures.metadata

pub write_part-requires-clause-stored : goal.write_part-requires-clause-stored
write_part-requires-clause-stored g c =
    stored_all c.args.part.now (g.S.TileStore.tells c.args.base.now) (stored_in c.args.set.now (g.S.TileStore.told c.args.base.now)) c.args.asked.now c.args.writer.now c.args.set.now.marked None c.requires.held c.requires.right
    c.requires.size c.fits.ensures.options c.fits.ensures.metadata

pub returns-in_err-places-clause-causes : goal.returns-in_err-places-clause-causes
returns-in_err-places-clause-causes g c = λ begun from.
    same_error c.in_err-places.field-0.0 _ (λ (r : Result StreamReport StreamError). StreamCauses c.args.asked.now.writer (tested_due c.args.asked.now.verify begun) (g.S.TileStore.tells c.args.base.now) (g.M.Backend.told c.args.medium.now) r)
    (step_causes ArchivePlaces c.args.asked.now.writer (tested_due c.args.asked.now.verify begun) (g.S.TileStore.tells c.args.base.now) (g.M.Backend.told c.args.medium.now) (g.S.TileStore.faults c.args.base.now) (g.S.TileStore.faults c.write_part.new.store) (g.M.Backend.faults c.args.medium.now) (g.M.Backend.faults c.write_part.new.medium) c.in_err-places.field-0.0 c.requires.empty c.requires.label c.in_err-places.ensures.causes) c.from_residual.ensures.1

pub returns-in_err-places-clause-leaves : goal.returns-in_err-places-clause-leaves
returns-in_err-places-clause-leaves g c = λ begun from.
    same_error c.in_err-places.field-0.0 _ (λ (r : Result StreamReport StreamError). PartLeaves c.args.part.now (IsHeldWith c.args.set.now.marked c.args.writer.now) (tested_due c.args.asked.now.verify begun) (g.S.TileStore.tells c.args.base.now) c.args.coords.now r (g.M.Backend.told c.args.medium.now) (g.M.Backend.told c.write_part.new.medium))
    (part_left c.args.part.now (g.S.TileStore.tells c.args.base.now) (stored_in c.args.set.now (g.S.TileStore.told c.args.base.now)) c.args.asked.now c.args.writer.now c.args.set.now.marked begun from c.requires.right
    c.requires.size c.fits.ensures.options c.fits.ensures.metadata
    c.args.coords.now (g.M.Backend.told c.args.medium.now) (g.M.Backend.told c.write_part.new.medium) c.requires.empty c.write_part.ensures.medium_kept.tells c.in_err-places.field-0.0
    (step_ends ArchivePlaces (g.S.TileStore.tells c.args.base.now) (g.M.Backend.told c.args.medium.now) (g.S.TileStore.faults c.args.base.now) (g.S.TileStore.faults c.write_part.new.store) (g.M.Backend.faults c.args.medium.now) (g.M.Backend.faults c.write_part.new.medium) c.in_err-places.field-0.0 c.in_err-places.ensures.causes) c.in_err-places.ensures.leaves) c.from_residual.ensures.1

pub returns-in-Ok-clause-causes : goal.returns-in-Ok-clause-causes
returns-in-Ok-clause-causes g c = λ begun from.
    whole_causes c.args.part.now (g.S.TileStore.tells c.args.base.now) (stored_in c.args.set.now (g.S.TileStore.told c.args.base.now)) c.args.asked.now c.args.writer.now c.args.set.now.marked begun from c.requires.right
    c.requires.size c.fits.ensures.options c.fits.ensures.metadata
    c.args.coords.now (g.M.Backend.told c.args.medium.now) (g.M.Backend.told c.write_part.new.medium) c.requires.empty c.write_part.ensures.medium_kept.tells c.in_ok-places.places c.in_ok-places.ensures.leaves (record { answers = c.in-Ok.answers; aggregate = c.args.aggregate; places = c.in_ok-places.places }) c.requires.label

pub returns-in-Ok-clause-leaves : goal.returns-in-Ok-clause-leaves
returns-in-Ok-clause-leaves g c = λ begun from.
    let before = g.M.Backend.told c.write_part.new.medium in
    let after = g.M.Backend.told c.read_answers.new.backend in
    subst (λ told. PartLeaves c.args.part.now (IsHeldWith c.args.set.now.marked c.args.writer.now) (tested_due c.args.asked.now.verify begun) (g.S.TileStore.tells c.args.base.now) c.args.coords.now (Ok (record { answers = c.in-Ok.answers; aggregate = c.args.aggregate; places = c.in_ok-places.places })) (g.M.Backend.told c.args.medium.now) told) (sym c.read_answers.ensures.kept.told)
    (whole_left c.args.part.now (g.S.TileStore.tells c.args.base.now) (stored_in c.args.set.now (g.S.TileStore.told c.args.base.now)) c.args.asked.now c.args.writer.now c.args.set.now.marked begun from c.requires.right
    c.requires.size c.fits.ensures.options c.fits.ensures.metadata
    c.args.coords.now (g.M.Backend.told c.args.medium.now) before c.requires.empty c.write_part.ensures.medium_kept.tells c.in_ok-places.places c.in_ok-places.ensures.leaves (record { answers = c.in-Ok.answers; aggregate = c.args.aggregate; places = c.in_ok-places.places }) refl c.requires.hashed c.in-Ok.ensures.answers)

pub returns-in-Err-clause-causes : goal.returns-in-Err-clause-causes
returns-in-Err-clause-causes g c = λ begun from.
    subst (λ (e : StreamError). StreamCauses c.args.asked.now.writer (tested_due c.args.asked.now.verify begun) (g.S.TileStore.tells c.args.base.now) (g.M.Backend.told c.args.medium.now) (Err e)) (sym c.of_reader.ensures)
    (unread_causes c.args.part.now (g.S.TileStore.tells c.args.base.now) (stored_in c.args.set.now (g.S.TileStore.told c.args.base.now)) c.args.asked.now c.args.writer.now c.args.set.now.marked begun from c.requires.right
    c.requires.size c.fits.ensures.options c.fits.ensures.metadata
    c.args.coords.now (g.M.Backend.told c.args.medium.now) (g.M.Backend.told c.write_part.new.medium) c.requires.empty c.write_part.ensures.medium_kept.tells c.in_ok-places.places c.in_ok-places.ensures.leaves
    (g.M.Backend.faults c.write_part.new.medium) (g.M.Backend.faults c.read_answers.new.backend) c.in-Err.error c.in-Err.ensures.answers c.in-Err.ensures.causes c.requires.label)

pub returns-in-Err-clause-leaves : goal.returns-in-Err-clause-leaves
returns-in-Err-clause-leaves g c = λ begun from.
    subst (λ told. PartLeaves c.args.part.now (IsHeldWith c.args.set.now.marked c.args.writer.now) (tested_due c.args.asked.now.verify begun) (g.S.TileStore.tells c.args.base.now) c.args.coords.now (Err c.of_reader.result) (g.M.Backend.told c.args.medium.now) told) (sym c.read_answers.ensures.kept.told)
    (subst (λ (e : StreamError). PartLeaves c.args.part.now (IsHeldWith c.args.set.now.marked c.args.writer.now) (tested_due c.args.asked.now.verify begun) (g.S.TileStore.tells c.args.base.now) c.args.coords.now (Err e) (g.M.Backend.told c.args.medium.now) (g.M.Backend.told c.write_part.new.medium)) (sym c.of_reader.ensures)
    (unread_left c.args.part.now (g.S.TileStore.tells c.args.base.now) (stored_in c.args.set.now (g.S.TileStore.told c.args.base.now)) c.args.asked.now c.args.writer.now c.args.set.now.marked begun from c.requires.right
    c.requires.size c.fits.ensures.options c.fits.ensures.metadata
    c.args.coords.now (g.M.Backend.told c.args.medium.now) (g.M.Backend.told c.write_part.new.medium) c.requires.empty c.write_part.ensures.medium_kept.tells c.in_ok-places.places c.in_ok-places.ensures.leaves
    (g.M.Backend.faults c.write_part.new.medium) (g.M.Backend.faults c.read_answers.new.backend) c.in-Err.error c.in-Err.ensures.answers c.in-Err.ensures.causes))

pub returns-in_err-places-clause-store_fault : goal.returns-in_err-places-clause-store_fault
returns-in_err-places-clause-store_fault g c = λ place h.
    same_error c.in_err-places.field-0.0 _ (λ (r : Result StreamReport StreamError). r ≡ Err (Convert (StoreFault place)) → RoseAt place (g.S.TileStore.faults c.args.base.now ∷ []) (g.S.TileStore.faults c.write_part.new.store ∷ []))
    (λ is. store_rose ArchivePlaces (g.S.TileStore.tells c.args.base.now) (g.S.TileStore.faults c.args.base.now) (g.S.TileStore.faults c.write_part.new.store) (g.M.Backend.faults c.args.medium.now) (g.M.Backend.faults c.write_part.new.medium) c.in_err-places.field-0.0 place c.in_err-places.ensures.causes (error_of c.in_err-places.field-0.0 (Convert (StoreFault place)) is))
    c.from_residual.ensures.1 h

pub returns-in_err-places-clause-fault : goal.returns-in_err-places-clause-fault
returns-in_err-places-clause-fault g c = λ h.
    same_error c.in_err-places.field-0.0 _ (λ (r : Result StreamReport StreamError). r ≡ Err (Convert MediumFault) → Rose (g.M.Backend.faults c.args.medium.now) (g.M.Backend.faults c.write_part.new.medium))
    (λ is. medium_rose ArchivePlaces (g.S.TileStore.tells c.args.base.now) (g.S.TileStore.faults c.args.base.now) (g.S.TileStore.faults c.write_part.new.store) (g.M.Backend.faults c.args.medium.now) (g.M.Backend.faults c.write_part.new.medium) c.in_err-places.field-0.0 c.in_err-places.ensures.causes (error_of c.in_err-places.field-0.0 (Convert MediumFault) is))
    c.from_residual.ensures.1 h

pub returns-in-Err-clause-store_fault : goal.returns-in-Err-clause-store_fault
returns-in-Err-clause-store_fault g c = λ place h. absurd (no_store c.in-Err.error place (same_word (of_read_error c.in-Err.error) _ (sym c.of_reader.ensures ∙ error_of c.of_reader.result _ h)))

pub returns-in_err-places-clause-base_still : goal.returns-in_err-places-clause-base_still
returns-in_err-places-clause-base_still g c = λ patches.
    same_error c.in_err-places.field-0.0 _ (StoresStand (g.S.TileStore.faults c.args.base.now ∷ patches) (g.S.TileStore.faults c.write_part.new.store ∷ patches))
    (stores_step ArchivePlaces (g.S.TileStore.tells c.args.base.now ≡ false) (g.S.TileStore.faults c.args.base.now) (g.S.TileStore.faults c.write_part.new.store) (g.M.Backend.faults c.args.medium.now) (g.M.Backend.faults c.write_part.new.medium) patches c.in_err-places.field-0.0 c.in_err-places.ensures.causes c.in_err-places.ensures.store_still) c.from_residual.ensures.1

pub returns-in_err-places-clause-medium_still : goal.returns-in_err-places-clause-medium_still
returns-in_err-places-clause-medium_still g c = same_error c.in_err-places.field-0.0 _ (MediumStands (g.M.Backend.faults c.args.medium.now) (g.M.Backend.faults c.write_part.new.medium)) c.in_err-places.ensures.medium_still c.from_residual.ensures.1

pub returns-in-Ok-clause-base_still : goal.returns-in-Ok-clause-base_still
returns-in-Ok-clause-base_still g c = λ patches. ap (λ n. n ∷ patches) c.in_ok-places.ensures.store_still

pub returns-in-Ok-clause-medium_still : goal.returns-in-Ok-clause-medium_still
returns-in-Ok-clause-medium_still g c = c.in-Ok.ensures.still ∙ c.in_ok-places.ensures.medium_still

pub returns-in-Err-clause-base_still : goal.returns-in-Err-clause-base_still
returns-in-Err-clause-base_still g c = λ patches. stores_anyway {A = StreamReport} _ _ (Err c.of_reader.result) (ap (λ n. n ∷ patches) c.in_ok-places.ensures.store_still)

pub returns-in-Err-clause-medium_still : goal.returns-in-Err-clause-medium_still
returns-in-Err-clause-medium_still g c = read_medium _ _ _ c.in-Err.error c.of_reader.result c.of_reader.ensures c.in_ok-places.ensures.medium_still c.in-Err.ensures.still
