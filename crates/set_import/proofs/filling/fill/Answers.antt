use Rattle.set_import.proofs.Common.{arith, Err, ImportCauses, inl, IsAnswered, IsFilled, IsLeft, Ok, started, subst, sym, Tables, ◌∙◌}
use Rattle.set_import.proofs.FillingLemmas.{either_free, free_answered, later_answer, later_causes, moved_answer, moved_new}
use Rattle.set_import.proofs.filling.fill.Goals as goal

pub fill_in-requires-clause-new : goal.fill_in-requires-clause-new
fill_in-requires-clause-new g c told =
    moved_new c.in-Ok.is_new (g.S.TileStore.told c.args.store.now) (g.S.TileStore.told c.is_empty_database.new.store) c.is_empty_database.ensures.kept.told (c.in-Ok.ensures.answer (sym c.is_empty_database.ensures.kept.tells ∙ told))

pub returns-in-Err-clause-answer : goal.returns-in-Err-clause-answer
returns-in-Err-clause-answer g c =
    let told = g.B.Backend.told c.args.backend.now in
    let tells = g.S.TileStore.tells c.args.store.now in
    let made = started (g.S.TileStore.told c.args.store.now) in
    subst (λ x. IsAnswered c.args.max_tiles told tells made (Err x)) (sym c.of_store.ensures) (free_answered c.args.max_tiles told tells made c.in-Err.error (either_free c.in-Err.error c.in-Err.ensures.errors))

pub returns-in-Err-clause-causes : goal.returns-in-Err-clause-causes
returns-in-Err-clause-causes g c =
    let before = g.B.Backend.faults c.args.backend.now in
    let old = g.S.TileStore.faults c.args.store.now in
    let new = g.S.TileStore.faults c.is_empty_database.new.store in
    subst (λ x. ImportCauses c.args.max_tiles before before old new (Err x)) (sym c.of_store.ensures) (later_causes c.args.max_tiles before before old old new c.in-Err.error (omega arith) c.in-Err.ensures.fault.rose)

pub returns-in-Err-clause-left : goal.returns-in-Err-clause-left
returns-in-Err-clause-left g c told = inl c.is_empty_database.ensures.kept.told

pub returns-in-Ok-fill_in-clause-answer : goal.returns-in-Ok-fill_in-clause-answer
returns-in-Ok-fill_in-clause-answer g c =
    let mid = c.is_empty_database.ensures.kept in
    moved_answer c.args.max_tiles (g.B.Backend.told c.args.backend.now) (g.S.TileStore.tells c.args.store.now) (g.S.TileStore.tells c.is_empty_database.new.store) (g.S.TileStore.told c.args.store.now) (g.S.TileStore.told c.is_empty_database.new.store) (Ok c.in-Ok-fill_in.count) mid.tells mid.told c.in-Ok-fill_in.ensures.answer

pub returns-in-Ok-fill_in-clause-filled : goal.returns-in-Ok-fill_in-clause-filled
returns-in-Ok-fill_in-clause-filled g c told =
    let mid = c.is_empty_database.ensures.kept in
    subst (λ (t : Tables). IsFilled (g.B.Backend.told c.args.backend.now) c.args.document.now (started t) (g.S.TileStore.told c.fill_in.new.store) c.in-Ok-fill_in.count) mid.told (c.in-Ok-fill_in.ensures.filled (mid.tells ∙ told))

pub returns-in-Err-fill_in-clause-answer : goal.returns-in-Err-fill_in-clause-answer
returns-in-Err-fill_in-clause-answer g c =
    let mid = c.is_empty_database.ensures.kept in
    moved_answer c.args.max_tiles (g.B.Backend.told c.args.backend.now) (g.S.TileStore.tells c.args.store.now) (g.S.TileStore.tells c.is_empty_database.new.store) (g.S.TileStore.told c.args.store.now) (g.S.TileStore.told c.is_empty_database.new.store) (Err c.in-Err-fill_in.error) mid.tells mid.told c.in-Err-fill_in.ensures.answer

pub returns-in-Err-fill_in-clause-causes : goal.returns-in-Err-fill_in-clause-causes
returns-in-Err-fill_in-clause-causes g c =
    later_answer c.args.max_tiles (g.B.Backend.faults c.args.backend.now) (g.B.Backend.faults c.fill_in.new.backend) (g.S.TileStore.faults c.args.store.now) (g.S.TileStore.faults c.is_empty_database.new.store) (g.S.TileStore.faults c.fill_in.new.store) (Err c.in-Err-fill_in.error)
    c.is_empty_database.ensures.kept.faults c.in-Err-fill_in.ensures.causes

pub returns-in-Err-fill_in-clause-left : goal.returns-in-Err-fill_in-clause-left
returns-in-Err-fill_in-clause-left g c told =
    let mid = c.is_empty_database.ensures.kept in
    subst (λ (t : Tables). IsLeft t (g.S.TileStore.told c.fill_in.new.store) c.in-Err-fill_in.error) mid.told (c.in-Err-fill_in.ensures.left (mid.tells ∙ told))
