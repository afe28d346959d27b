use Rattle.mb_copy.proofs.Common.{ap, counted_then, err_from_is_err_and, false≢true, sym, Tables, true, ◌∙◌, ◌≡◌}
use Rattle.mb_copy.proofs.AnswerLemmas.{left_moved, store_free}
use Rattle.mb_copy.proofs.PatchAnswerLemmas.{anew_patched, copied_moved, filled_patched, free_patched}
use Rattle.mb_copy.proofs.copying_patched.copy_patched.Goals as goal

pub copy_patched_anew-requires-clause-none : goal.copy_patched_anew-requires-clause-none
copy_patched_anew-requires-clause-none g c told =
    let tells : g.D.TileStore.tells c.args.dst.now ≡ true = sym c.is_empty_database.ensures.kept.tells ∙ told in
    ap (λ (t : Tables). t.descriptions) c.is_empty_database.ensures.kept.told ∙ (c.in_ok-is_empty.ensures.answer tells).0 c.if-is_empty.true

pub returns-in_err-is_empty-clause-answer : goal.returns-in_err-is_empty-clause-answer
returns-in_err-is_empty-clause-answer g c =
    let p = err_from_is_err_and c.from_residual.result c.from_residual.ensures.1 in
    rw (p.1, p.2) (free_patched c.args.copier.now c.args.source.state c.args.patch.now.state (g.D.TileStore.tells c.args.dst.now) (g.D.TileStore.told c.args.dst.now) _ (store_free _ c.in_err-is_empty.ensures.errors))

pub returns-then-is_empty-clause-answer : goal.returns-then-is_empty-clause-answer
returns-then-is_empty-clause-answer g c = anew_patched c.args.copier.now c.args.source.state c.args.patch.now.state (g.D.TileStore.tells c.args.dst.now) (g.D.TileStore.told c.args.dst.now) c.copy_patched_anew.result (λ t. (c.in_ok-is_empty.ensures.answer t).0 c.if-is_empty.true) c.copy_patched_anew.ensures.answer

pub returns-then-is_empty-clause-copied : goal.returns-then-is_empty-clause-copied
returns-then-is_empty-clause-copied g c told = copied_moved c.args.copier.now c.args.source.state c.args.patch.now.state c.copy_patched_anew.result (g.D.TileStore.told c.is_empty_database.new.store) (g.D.TileStore.told c.args.dst.now) (g.D.TileStore.told c.copy_patched_anew.new.dst) c.is_empty_database.ensures.kept.told (c.copy_patched_anew.ensures.copied (c.is_empty_database.ensures.kept.tells ∙ told))

pub returns-then-is_empty-clause-left : goal.returns-then-is_empty-clause-left
returns-then-is_empty-clause-left g c told = left_moved c.args.copier.now c.args.source.state c.copy_patched_anew.result (g.D.TileStore.told c.is_empty_database.new.store) (g.D.TileStore.told c.args.dst.now) (g.D.TileStore.told c.copy_patched_anew.new.dst) c.is_empty_database.ensures.kept.told (c.copy_patched_anew.ensures.left (c.is_empty_database.ensures.kept.tells ∙ told))

pub returns-clause-answer : goal.returns-clause-answer
returns-clause-answer g c = filled_patched c.args.copier.now c.args.source.state c.args.patch.now.state (g.D.TileStore.tells c.args.dst.now) (g.D.TileStore.told c.args.dst.now) (λ t none. false≢true (sym c.if-is_empty.false ∙ (c.in_ok-is_empty.ensures.answer t).1 none))

pub returns-then-is_empty-clause-fault : goal.returns-then-is_empty-clause-fault
returns-then-is_empty-clause-fault g c = counted_then _ _ _ _ _ _ c.in_ok-is_empty.ensures.fault.still c.copy_patched_anew.ensures.fault
