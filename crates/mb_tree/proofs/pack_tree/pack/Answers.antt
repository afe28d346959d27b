use Rattle.mb_tree.proofs.Common.{ap, err_from_is_err_and, IsLoadedFrom, made, made_if, MakesChanges, subst, sym, Tables, true, ◌∙◌, ◌≡◌}
use Rattle.mb_tree.proofs.AnswerLemmas.{all_packed, base_refused, base_told, ended}
use Rattle.mb_tree.proofs.PackLemmas.{is_packed, packs_loaded}
use Rattle.mb_tree.proofs.RefusalLemmas.{free_wanting}
use Rattle.mb_tree.proofs.pack_tree.pack.Goals as goal

pub commit_base-requires : goal.commit_base-requires
commit_base-requires g c tells =
    let told : g.S.TileStore.tells c.args.store.now ≡ true = sym c.base_of.ensures.kept.tells ∙ tells in
    subst (λ (t : Tables). IsLoadedFrom t c.in_ok-packed.packed) (sym (ap (made_if c.in_ok-base.base.is_new) c.base_of.ensures.kept.told ∙ c.in_ok-base.ensures.new told))
    (packs_loaded c.args.scheme (g.T.TileTree.tells c.args.tree.now) (g.T.TileTree.told c.args.tree.now) (made (g.S.TileStore.told c.args.store.now)) c.in_ok-base.base.set c.in_ok-packed.packed
    c.in_ok-base.ensures.flat (c.in_ok-base.ensures.loaded told) c.in_ok-packed.ensures.packed)

pub returns-in_err-base-clause-answer : goal.returns-in_err-base-clause-answer
returns-in_err-base-clause-answer g c =
    let p = err_from_is_err_and c.from_residual.result c.from_residual.ensures.1 in
    rw (p.1, p.2) (base_refused c.args.scheme (g.T.TileTree.tells c.args.tree.now) (g.T.TileTree.told c.args.tree.now) (g.S.TileStore.tells c.args.store.now) (g.S.TileStore.told c.args.store.now) _ c.in_err-base.ensures.answer)

pub returns-in_err-commit_base-clause-answer : goal.returns-in_err-commit_base-clause-answer
returns-in_err-commit_base-clause-answer g c =
    let p = err_from_is_err_and c.from_residual-in_err-commit_base.result c.from_residual-in_err-commit_base.ensures.1 in
    rw (p.1, p.2) (ended c.args.scheme (g.T.TileTree.tells c.args.tree.now) (g.T.TileTree.told c.args.tree.now) (g.S.TileStore.tells c.args.store.now) (g.S.TileStore.told c.args.store.now) c.in_ok-base.base c.in_ok-base.ensures.answer _ (free_wanting _ c.in_err-commit_base.ensures.free))

pub returns-clause-answer : goal.returns-clause-answer
returns-clause-answer g c =
    all_packed c.args.scheme (g.T.TileTree.tells c.args.tree.now) (g.T.TileTree.told c.args.tree.now) (g.S.TileStore.tells c.args.store.now) (g.S.TileStore.told c.args.store.now) c.in_ok-base.base c.in_ok-base.ensures.answer c.in_ok-packed.packed c.in_ok-packed.ensures.packed

pub returns-clause-packed : goal.returns-clause-packed
returns-clause-packed g c tells =
    is_packed c.args.scheme (g.T.TileTree.tells c.args.tree.now) (g.T.TileTree.told c.args.tree.now) (g.S.TileStore.told c.args.store.now) (g.S.TileStore.told c.commit_base.new.store) c.in_ok-base.base.set c.in_ok-packed.packed
    (base_told (g.S.TileStore.tells c.args.store.now) (g.S.TileStore.told c.args.store.now) c.in_ok-base.base c.in_ok-base.ensures.answer tells)
    c.in_ok-base.ensures.clean c.in_ok-base.ensures.flat c.in_ok-base.ensures.named (c.in_ok-base.ensures.loaded tells) c.in_ok-packed.ensures.packed
    (g.met.S.TileStore.sound c.commit_base.new.store (c.commit_base.ensures.kept.tells ∙ (c.base_of.ensures.kept.tells ∙ tells)))
    (subst (λ (t : Tables). MakesChanges c.in_ok-packed.packed t (g.S.TileStore.told c.commit_base.new.store)) (ap (made_if c.in_ok-base.base.is_new) c.base_of.ensures.kept.told ∙ c.in_ok-base.ensures.new tells)
    (c.in_ok-commit_base.ensures.committed (c.base_of.ensures.kept.tells ∙ tells)))
