use Rattle.mb_metadata.proofs.Common.{arith, Held, IsLoadedFrom, subst, sym, ◌∙◌}
use Rattle.mb_metadata.proofs.NameEditLemmas.{edits_committed, edits_loaded, some_edits}
use Rattle.mb_metadata.proofs.name_edits.commit_edits.Goals as goal

pub commit_loaded-requires : goal.commit_loaded-requires
commit_loaded-requires g c tells =
    subst (λ (x : Held). IsLoadedFrom (g.S.TileStore.told c.args.store.now) x) (sym c.in_ok-edited.ensures) (edits_loaded (g.S.TileStore.told c.args.store.now) c.args.set c.args.edits.items (c.requires tells).from)

pub returns-clause-committed : goal.returns-clause-committed
returns-clause-committed g c told =
    edits_committed (g.S.TileStore.told c.args.store.now) (g.S.TileStore.told c.commit_loaded.new.store) c.args.set c.in_ok-edited.edited c.args.edits.items c.in_ok-edited.ensures
    (some_edits c.args.edits.items c.args.edits.len c.is_empty.result (omega (arith, c.args.edits.ok.0)) c.is_empty.ensures c.if-is_empty.false)
    (c.requires told) (g.met.S.TileStore.sound c.commit_loaded.new.store (c.commit_loaded.ensures.kept.tells ∙ told)) (c.in_ok-commit_loaded.ensures.committed told)
