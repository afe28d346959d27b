use Rattle.tile_streaming.proofs.Common.{adds_of, ArchivePlaces, Err, false, of_write_error, refl, rules, StepCauses, StreamError, subst, sym, WriterState, WrittenLeaves, [], ◌∙◌, ◌≡◌, stored_in}
use Rattle.tile_bridge.proofs.WritingLemmas.{finish_refused, written_took}
use Rattle.tile_streaming.proofs.ReadLemmas.{lengths_read}
use Rattle.tile_streaming.proofs.StepLemmas.{add_step, end_refused, same_error, start_refused}
use Rattle.tile_streaming.proofs.WrittenLemmas.{part_written, refused_left, whole_written}
use Rattle.tile_bridge.specs.declared.error.ConvertError.TheVariants.{OutOfMemory}
use Rattle.tile_streaming.specs.declared.error.StreamError.TheVariants.{Convert}
use Rattle.tile_streaming.proofs.StandsLemmas.{base_anyway, medium_after, medium_anyway, written_medium}
use Rattle.tile_streaming.specs.Stands.{BaseStands, MediumStands}
use Rattle.tile_streaming.proofs.writing.write_marked.Goals as goal

pub returns-in-Err-clause-leaves : goal.returns-in-Err-clause-leaves
returns-in-Err-clause-leaves g c = refused_left c.args.options.now (g.S.TileStore.tells c.args.store.now) (stored_in c.args.set.now (g.S.TileStore.told c.args.store.now)) c.args.marks.now (g.M.Backend.told c.args.medium.now) (g.M.Backend.told c.start.new.medium) c.of_writer.result c.start.ensures.hidden

pub returns-in-Err-clause-causes : goal.returns-in-Err-clause-causes
returns-in-Err-clause-causes g c =
    let changed = g.S.TileStore.tells c.args.store.now ≡ false in
    let store = g.S.TileStore.faults c.args.store.now in
    let before = g.M.Backend.faults c.args.medium.now in
    let now = g.M.Backend.faults c.start.new.medium in
    subst (λ (x : StreamError). StepCauses {A = ArchivePlaces} changed store store before now (Err x)) (sym c.of_writer.ensures)
    (add_step ArchivePlaces changed store store before now (Err (Convert (of_write_error c.in-Err.error))) (start_refused WriterState ArchivePlaces c.args.options.now.internal_compression before now c.in-Err.error c.requires.plain c.in-Err.ensures.causes))

pub returns-in_err-reserve-clause-leaves : goal.returns-in_err-reserve-clause-leaves
returns-in_err-reserve-clause-leaves g c =
    same_error (Convert OutOfMemory) _ (λ r. WrittenLeaves c.args.options.now (g.S.TileStore.tells c.args.store.now) (stored_in c.args.set.now (g.S.TileStore.told c.args.store.now)) c.args.marks.now (g.M.Backend.told c.args.medium.now) (g.M.Backend.told c.start.new.medium) r)
    (refused_left c.args.options.now (g.S.TileStore.tells c.args.store.now) (stored_in c.args.set.now (g.S.TileStore.told c.args.store.now)) c.args.marks.now (g.M.Backend.told c.args.medium.now) (g.M.Backend.told c.start.new.medium) (Convert OutOfMemory) c.start.ensures.hidden) (search rules)

pub add_marks-requires-clause-begun : goal.add_marks-requires-clause-begun
add_marks-requires-clause-begun g c = (c.args.options.now, c.in_ok-reserve.ensures.same c.args.options.now _ [] c.in-Ok.ensures.begun, c.requires.metadata)

pub returns-in_err-add_marks-clause-leaves : goal.returns-in_err-add_marks-clause-leaves
returns-in_err-add_marks-clause-leaves g c =
    same_error c.in_err-add_marks.field-0.0 _ (λ r. WrittenLeaves c.args.options.now (g.S.TileStore.tells c.args.store.now) (stored_in c.args.set.now (g.S.TileStore.told c.args.store.now)) c.args.marks.now (g.M.Backend.told c.args.medium.now) (g.M.Backend.told c.add_marks.new.medium) r)
    (refused_left c.args.options.now (g.S.TileStore.tells c.args.store.now) (stored_in c.args.set.now (g.S.TileStore.told c.args.store.now)) c.args.marks.now (g.M.Backend.told c.args.medium.now) (g.M.Backend.told c.add_marks.new.medium) c.in_err-add_marks.field-0.0 c.in_err-add_marks.ensures.hidden) c.from_residual-in_err-add_marks.ensures.1

pub finalize-requires : goal.finalize-requires
finalize-requires g c =
    let o = c.args.options.now in
    let so = c.in_ok-add_marks.ensures.added o (c.in_ok-reserve.ensures.same o (g.M.Backend.told c.start.new.medium) [] c.in-Ok.ensures.begun) in
    record { writes = (o, so.taken, so.writes) }

pub returns-in-Ok-finalize-clause-leaves : goal.returns-in-Ok-finalize-clause-leaves
returns-in-Ok-finalize-clause-leaves g c =
    let o = c.args.options.now in
    let so = c.in_ok-add_marks.ensures.added o (c.in_ok-reserve.ensures.same o (g.M.Backend.told c.start.new.medium) [] c.in-Ok.ensures.begun) in
    let told = g.M.Backend.told c.start.new.medium in
    whole_written c.args.options.now (g.S.TileStore.tells c.args.store.now) (stored_in c.args.set.now (g.S.TileStore.told c.args.store.now)) c.args.marks.now told (g.M.Backend.told c.add_marks.new.medium) (g.M.Backend.told c.finalize.new.medium) c.add_marks.new.state so (c.finalize.ensures.kept.tells ∙ c.add_marks.ensures.medium_kept.tells)
    (g.M.Backend.told c.args.medium.now) c.in-Ok-finalize.places (sym c.start.ensures.tells) (c.in-Ok-finalize.ensures.bytes o so.taken so.writes) (c.in-Ok-finalize.ensures.places o so.taken so.writes)

pub returns-in-Err-finalize-clause-leaves : goal.returns-in-Err-finalize-clause-leaves
returns-in-Err-finalize-clause-leaves g c =
    let o = c.args.options.now in
    let so = c.in_ok-add_marks.ensures.added o (c.in_ok-reserve.ensures.same o (g.M.Backend.told c.start.new.medium) [] c.in-Ok.ensures.begun) in
    let told = g.M.Backend.told c.start.new.medium in
    subst (λ e. WrittenLeaves c.args.options.now (g.S.TileStore.tells c.args.store.now) (stored_in c.args.set.now (g.S.TileStore.told c.args.store.now)) c.args.marks.now (g.M.Backend.told c.args.medium.now) (g.M.Backend.told c.finalize.new.medium) (Err e)) (sym c.of_writer-in-Err-finalize.ensures)
    (part_written c.args.options.now (g.S.TileStore.tells c.args.store.now) (stored_in c.args.set.now (g.S.TileStore.told c.args.store.now)) c.args.marks.now told (g.M.Backend.told c.add_marks.new.medium) (g.M.Backend.told c.finalize.new.medium) c.add_marks.new.state so (c.finalize.ensures.kept.tells ∙ c.add_marks.ensures.medium_kept.tells)
    (g.M.Backend.told c.args.medium.now) c.in-Err-finalize.error (c.in-Err-finalize.ensures.shown o so.taken so.writes))

pub returns-in-Err-finalize-clause-causes : goal.returns-in-Err-finalize-clause-causes
returns-in-Err-finalize-clause-causes g c =
    let o = c.args.options.now in
    let so = c.in_ok-add_marks.ensures.added o (c.in_ok-reserve.ensures.same o (g.M.Backend.told c.start.new.medium) [] c.in-Ok.ensures.begun) in
    let told = g.M.Backend.told c.start.new.medium in
    let changed = g.S.TileStore.tells c.args.store.now ≡ false in
    let store = g.S.TileStore.faults c.args.store.now in
    let store_now = g.S.TileStore.faults c.add_marks.new.store in
    let before = g.M.Backend.faults c.args.medium.now in
    let now = g.M.Backend.faults c.finalize.new.medium in
    let can = written_took told o (adds_of c.args.marks.now so.contents) so.taken so.took (c.requires.can so.contents (lengths_read (g.S.TileStore.tells c.args.store.now) (stored_in c.args.set.now (g.S.TileStore.told c.args.store.now)) c.args.marks.now so.contents so.read)) in
    subst (λ (x : StreamError). StepCauses {A = ArchivePlaces} changed store store_now before now (Err x)) (sym c.of_writer-in-Err-finalize.ensures)
    (add_step ArchivePlaces changed store store_now before now (Err (Convert (of_write_error c.in-Err-finalize.error))) (end_refused ArchivePlaces ArchivePlaces before now c.in-Err-finalize.error
    (finish_refused {A = ArchivePlaces} o so.taken before (g.M.Backend.faults c.add_marks.new.medium) now _ (Err c.in-Err-finalize.error) c.in_ok-add_marks.ensures.alive can (search rules) (c.in-Err-finalize.ensures.causes o so.taken so.writes))))

pub returns-in-Err-clause-medium_still : goal.returns-in-Err-clause-medium_still
returns-in-Err-clause-medium_still g c = written_medium _ _ c.in-Err.error c.of_writer.result c.of_writer.ensures

pub returns-in-Err-clause-store_still : goal.returns-in-Err-clause-store_still
returns-in-Err-clause-store_still g c = base_anyway {A = ArchivePlaces} _ _ (Err c.of_writer.result) refl

pub returns-in_err-reserve-clause-store_still : goal.returns-in_err-reserve-clause-store_still
returns-in_err-reserve-clause-store_still g c = base_anyway _ _ c.from_residual.result refl

pub returns-in_err-reserve-clause-medium_still : goal.returns-in_err-reserve-clause-medium_still
returns-in_err-reserve-clause-medium_still g c = medium_anyway _ _ c.from_residual.result c.in-Ok.ensures.still

pub returns-in_err-add_marks-clause-store_still : goal.returns-in_err-add_marks-clause-store_still
returns-in_err-add_marks-clause-store_still g c = same_error c.in_err-add_marks.field-0.0 _ (BaseStands (g.S.TileStore.faults c.args.store.now) (g.S.TileStore.faults c.add_marks.new.store)) c.in_err-add_marks.ensures.store_still c.from_residual-in_err-add_marks.ensures.1

pub returns-in_err-add_marks-clause-medium_still : goal.returns-in_err-add_marks-clause-medium_still
returns-in_err-add_marks-clause-medium_still g c = same_error c.in_err-add_marks.field-0.0 _ (MediumStands (g.M.Backend.faults c.args.medium.now) (g.M.Backend.faults c.add_marks.new.medium)) (medium_after {A = ArchivePlaces} _ _ _ (Err c.in_err-add_marks.field-0.0) c.in-Ok.ensures.still c.in_err-add_marks.ensures.medium_still) c.from_residual-in_err-add_marks.ensures.1

pub returns-in-Err-finalize-clause-store_still : goal.returns-in-Err-finalize-clause-store_still
returns-in-Err-finalize-clause-store_still g c = base_anyway {A = ArchivePlaces} _ _ (Err c.of_writer-in-Err-finalize.result) c.in_ok-add_marks.ensures.store_still

pub returns-in-Err-finalize-clause-medium_still : goal.returns-in-Err-finalize-clause-medium_still
returns-in-Err-finalize-clause-medium_still g c = written_medium _ _ c.in-Err-finalize.error c.of_writer-in-Err-finalize.result c.of_writer-in-Err-finalize.ensures

pub returns-in-Ok-finalize-clause-medium_still : goal.returns-in-Ok-finalize-clause-medium_still
returns-in-Ok-finalize-clause-medium_still g c = c.in-Ok-finalize.ensures.still ∙ c.in_ok-add_marks.ensures.medium_still ∙ c.in-Ok.ensures.still
