use Rattle.set_import.proofs.Common.{ap, arith, Err, ImportCauses, inl, is_unwritten, IsAnswered, IsLeft, IsLoadedFrom, load_answered, loaded_state, Ok, put_answered, put_causes}
use Rattle.set_import.proofs.Common.{MakesChanges, started, subst, sym, Tables, ◌∙◌}
use Rattle.set_import.proofs.FillingLemmas.{are_filled, are_left, free_answered, later_causes, moved_new, not_unwritten}
use Rattle.set_import.proofs.filling.fill_in.Goals as goal

pub store_set-requires-clause-new : goal.store_set-requires-clause-new
store_set-requires-clause-new g c told =
    moved_new c.args.is_new (g.S.TileStore.told c.args.store.now) (g.S.TileStore.told c.base_of.new.store) c.base_of.ensures.kept.told (c.requires.new (sym c.base_of.ensures.kept.tells ∙ told))

pub store_set-requires-clause-from : goal.store_set-requires-clause-from
store_set-requires-clause-from g c told =
    c.in-Ok-filled_set.ensures.loaded (started (g.S.TileStore.told c.base_of.new.store))
    (subst (λ (t : Tables). IsLoadedFrom (started t) c.in-Ok.base) (sym c.base_of.ensures.kept.told) (c.in-Ok.ensures.base (sym c.base_of.ensures.kept.tells ∙ told)).loaded)

pub returns-in-Err-clause-answer : goal.returns-in-Err-clause-answer
returns-in-Err-clause-answer g c =
    let told = g.B.Backend.told c.args.backend.now in
    let tells = g.S.TileStore.tells c.args.store.now in
    let made = started (g.S.TileStore.told c.args.store.now) in
    subst (λ x. IsAnswered c.args.max_tiles told tells made (Err x)) (sym c.of_store.ensures) (load_answered c.args.max_tiles told tells made c.in-Err.error c.in-Err.ensures.answer)

pub returns-in-Err-clause-causes : goal.returns-in-Err-clause-causes
returns-in-Err-clause-causes g c =
    let before = g.B.Backend.faults c.args.backend.now in
    let old = g.S.TileStore.faults c.args.store.now in
    let new = g.S.TileStore.faults c.base_of.new.store in
    subst (λ x. ImportCauses c.args.max_tiles before before old new (Err x)) (sym c.of_store.ensures) (later_causes c.args.max_tiles before before old old new c.in-Err.error (omega arith) c.in-Err.ensures.fault.rose)

pub returns-in-Err-clause-left : goal.returns-in-Err-clause-left
returns-in-Err-clause-left g c told = inl c.base_of.ensures.kept.told

pub returns-in-Err-filled_set-clause-answer : goal.returns-in-Err-filled_set-clause-answer
returns-in-Err-filled_set-clause-answer g c =
    put_answered c.args.max_tiles (g.B.Backend.told c.args.backend.now) (g.S.TileStore.tells c.args.store.now) (started (g.S.TileStore.told c.args.store.now)) c.in-Ok.base.state (Err c.in-Err-filled_set.error)
    c.in-Ok.ensures.answer c.in-Err-filled_set.ensures.answer

pub returns-in-Err-filled_set-clause-causes : goal.returns-in-Err-filled_set-clause-causes
returns-in-Err-filled_set-clause-causes g c =
    put_causes c.args.max_tiles (g.B.Backend.faults c.args.backend.now) (g.B.Backend.faults c.filled_set.new.backend) (g.S.TileStore.faults c.args.store.now) (g.S.TileStore.faults c.base_of.new.store) (Err c.in-Err-filled_set.error) c.in-Err-filled_set.ensures.causes

pub returns-in-Err-filled_set-clause-left : goal.returns-in-Err-filled_set-clause-left
returns-in-Err-filled_set-clause-left g c told = inl c.base_of.ensures.kept.told

pub returns-in-Ok-store_set-clause-answer : goal.returns-in-Ok-store_set-clause-answer
returns-in-Ok-store_set-clause-answer g c =
    put_answered c.args.max_tiles (g.B.Backend.told c.args.backend.now) (g.S.TileStore.tells c.args.store.now) (started (g.S.TileStore.told c.args.store.now)) c.in-Ok.base.state (Ok c.in-Ok-filled_set.filled.1)
    c.in-Ok.ensures.answer c.in-Ok-filled_set.ensures.answer

pub returns-in-Ok-store_set-clause-filled : goal.returns-in-Ok-store_set-clause-filled
returns-in-Ok-store_set-clause-filled g c told =
    let tells = g.S.TileStore.tells c.args.store.now in
    let store = g.S.TileStore.told c.args.store.now in
    let new = g.S.TileStore.told c.store_set.new.store in
    let late = c.base_of.ensures.kept in
    are_filled (g.B.Backend.told c.args.backend.now) c.args.document.now (started store) new c.in-Ok-filled_set.filled.1 c.in-Ok.base c.in-Ok-filled_set.filled.0
    (c.in-Ok.ensures.base told)
    c.in-Ok-filled_set.ensures.filled
    (loaded_state tells (started store) c.in-Ok.base.state c.in-Ok.ensures.answer told)
    (g.met.S.TileStore.sound c.store_set.new.store (c.store_set.ensures.kept.tells ∙ (late.tells ∙ told)))
    (subst (λ (t : Tables). MakesChanges c.in-Ok-filled_set.filled.0 (started t) new) late.told (c.in-Ok-store_set.ensures.committed (late.tells ∙ told)))

pub returns-in-Err-store_set-clause-answer : goal.returns-in-Err-store_set-clause-answer
returns-in-Err-store_set-clause-answer g c =
    let told = g.B.Backend.told c.args.backend.now in
    let tells = g.S.TileStore.tells c.args.store.now in
    let made = started (g.S.TileStore.told c.args.store.now) in
    subst (λ x. IsAnswered c.args.max_tiles told tells made (Err x)) (sym c.of_store-in-Err-store_set.ensures) (free_answered c.args.max_tiles told tells made c.in-Err-store_set.error c.in-Err-store_set.ensures.free)

pub returns-in-Err-store_set-clause-causes : goal.returns-in-Err-store_set-clause-causes
returns-in-Err-store_set-clause-causes g c =
    let before = g.B.Backend.faults c.args.backend.now in
    let now = g.B.Backend.faults c.filled_set.new.backend in
    let old = g.S.TileStore.faults c.args.store.now in
    let mid = g.S.TileStore.faults c.base_of.new.store in
    let new = g.S.TileStore.faults c.store_set.new.store in
    let next = c.base_of.ensures.kept.faults in
    subst (λ x. ImportCauses c.args.max_tiles before now old new (Err x)) (sym c.of_store-in-Err-store_set.ensures) (later_causes c.args.max_tiles before now old mid new c.in-Err-store_set.error next c.in-Err-store_set.ensures.fault.rose)

pub returns-in-Err-store_set-clause-refused : goal.returns-in-Err-store_set-clause-refused
returns-in-Err-store_set-clause-refused g c owed = not_unwritten c.in-Err-store_set.error c.in-Err-store_set.ensures.free (sym (ap is_unwritten c.of_store-in-Err-store_set.ensures) ∙ owed)

pub returns-in-Err-store_set-clause-left : goal.returns-in-Err-store_set-clause-left
returns-in-Err-store_set-clause-left g c told =
    let late = c.base_of.ensures.kept in
    subst (IsLeft (g.S.TileStore.told c.args.store.now) (g.S.TileStore.told c.store_set.new.store)) (sym c.of_store-in-Err-store_set.ensures)
    (are_left (g.S.TileStore.told c.args.store.now) (g.S.TileStore.told c.base_of.new.store) (g.S.TileStore.told c.store_set.new.store) c.in-Err-store_set.error late.told c.in-Err-store_set.ensures.free (c.in-Err-store_set.ensures.left (late.tells ∙ told)))
