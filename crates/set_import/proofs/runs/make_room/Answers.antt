use Rattle.set_import.proofs.Common.{ap, Held, OnOk, subst, sym, ◌∙◌}
use Rattle.mb_load.specs.Committing.{MakesChanges}
use Rattle.set_import.proofs.StreamLemmas.{made_room, plain_empty}
use Rattle.set_import.specs.Batches.{IsPlain, Streams}
use Rattle.set_import.specs.declared.batch.Batch.{Batch}
use Rattle.set_import.proofs.runs.make_room.Goals as goal

pub returns-clause-streams : goal.returns-clause-streams
returns-clause-streams g c = λ made all next s.
    let tells = g.S.TileStore.tells c.args.store.now in
    let old = g.S.TileStore.told c.args.store.now in
    let new = g.S.TileStore.told c.commit_batch.new.store in
    subst (λ (h : Held). Streams tells made new h all next c.commit_batch.result) (sym (ap (λ (b : Batch). b.tiles) c.replace-full.ensures.after ∙ c.no_batch.ensures))
    (made_room tells made old new c.args.batch.now.tiles all next c.commit_batch.result s
    (λ t. subst (λ (b : Batch). OnOk c.commit_batch.result (MakesChanges b.tiles old new)) c.replace-full.ensures.value (c.commit_batch.ensures.committed t))
    c.commit_batch.ensures.refused)

pub returns-clause-plain : goal.returns-clause-plain
returns-clause-plain g c = subst IsPlain (sym (ap (λ (b : Batch). b.tiles) c.replace-full.ensures.after ∙ c.no_batch.ensures)) plain_empty
