use Rattle.tile_import.proofs.Common.{Err, Held, IsAnswered, Ok, subst, sym, Tables, ◌∙◌}
use Rattle.mb_edit.proofs.PutTableLemmas.{are_put}
use Rattle.mb_edit.specs.PutTables.{ArePut}
use Rattle.mb_load.specs.Committing.{MakesChanges}
use Rattle.tile_import.proofs.AnswerLemmas.{commit_answered, load_answered, loaded_state, put_answered, put_causes}
use Rattle.tile_import.proofs.importing.import.Goals as goal

pub returns-in-Err-clause-answer : goal.returns-in-Err-clause-answer
returns-in-Err-clause-answer g c =
    let told = g.B.Backend.told c.args.backend.now in
    let tells = g.S.TileStore.tells c.args.store.now in
    let store = g.S.TileStore.told c.args.store.now in
    subst (λ x. IsAnswered c.args.max_tiles told tells store (Err x)) (sym c.of_store.ensures) (load_answered c.args.max_tiles told tells store c.in-Err.error c.in-Err.ensures.answer)

pub returns-in-Err-put_archive-clause-answer : goal.returns-in-Err-put_archive-clause-answer
returns-in-Err-put_archive-clause-answer g c =
    put_answered c.args.max_tiles (g.B.Backend.told c.args.backend.now) (g.S.TileStore.tells c.args.store.now) (g.S.TileStore.told c.args.store.now) c.in-Ok.base.state (Err c.in-Err-put_archive.error) c.in-Ok.ensures.answer c.in-Err-put_archive.ensures.answer

pub returns-in-Err-put_archive-clause-causes : goal.returns-in-Err-put_archive-clause-causes
returns-in-Err-put_archive-clause-causes g c =
    put_causes c.args.max_tiles (g.B.Backend.faults c.args.backend.now) (g.B.Backend.faults c.put_archive.new.backend) (g.S.TileStore.faults c.args.store.now) (g.S.TileStore.faults c.load_base.new.store) (Err c.in-Err-put_archive.error) c.in-Err-put_archive.ensures.causes

pub returns-in-Ok-commit_set-clause-answer : goal.returns-in-Ok-commit_set-clause-answer
returns-in-Ok-commit_set-clause-answer g c =
    put_answered c.args.max_tiles (g.B.Backend.told c.args.backend.now) (g.S.TileStore.tells c.args.store.now) (g.S.TileStore.told c.args.store.now) c.in-Ok.base.state (Ok c.in-Ok-put_archive.put.1) c.in-Ok.ensures.answer c.in-Ok-put_archive.ensures.answer

pub returns-in-Ok-commit_set-clause-imported : goal.returns-in-Ok-commit_set-clause-imported
returns-in-Ok-commit_set-clause-imported g c = λ is.
    let over = c.in-Ok-put_archive.ensures.put in
    let base = c.in-Ok.ensures.base is in
    let tells = c.load_base.ensures.kept.tells ∙ is in
    record {
      tiles = over.tiles;
      are = over.are;
      count = over.count;
      base = c.in-Ok.base.state;
      loaded = loaded_state (g.S.TileStore.tells c.args.store.now) (g.S.TileStore.told c.args.store.now) c.in-Ok.base.state c.in-Ok.ensures.answer is;
      rows = are_put c.in-Ok.base over.tiles (g.S.TileStore.told c.args.store.now) (g.S.TileStore.told c.commit_set.new.store) base.clean base.loaded base.named over.on_board over.may
          (g.met.S.TileStore.sound c.commit_set.new.store (c.commit_set.ensures.kept.tells ∙ tells))
          (subst (λ (x : Held). MakesChanges x (g.S.TileStore.told c.args.store.now) (g.S.TileStore.told c.commit_set.new.store)) over.is
          (subst (λ (t : Tables). MakesChanges c.in-Ok-put_archive.put.0 t (g.S.TileStore.told c.commit_set.new.store)) c.load_base.ensures.kept.told (c.in-Ok-commit_set.ensures.committed tells)));
    }

pub returns-in-Err-commit_set-clause-answer : goal.returns-in-Err-commit_set-clause-answer
returns-in-Err-commit_set-clause-answer g c =
    let told = g.B.Backend.told c.args.backend.now in
    let tells = g.S.TileStore.tells c.args.store.now in
    let store = g.S.TileStore.told c.args.store.now in
    subst (λ x. IsAnswered c.args.max_tiles told tells store (Err x)) (sym c.of_store-in-Err-commit_set.ensures)
    (commit_answered c.args.max_tiles told tells store c.in-Ok.base.state c.in-Err-commit_set.error c.in-Ok.ensures.answer c.in-Err-commit_set.ensures.free)

pub returns-in-Ok-commit_set-clause-store_still : goal.returns-in-Ok-commit_set-clause-store_still
returns-in-Ok-commit_set-clause-store_still g c = c.in-Ok-commit_set.ensures.fault.still ∙ c.in-Ok.ensures.fault.still
