use Rattle.mb_copy.proofs.Common.{Answers, ap, counted_then, err_from_is_err_and, false≢true, MbtError, Option, refused_by, subst, sym, Tables, true, ◌∙◌, ◌≡◌}
use Rattle.mb_copy.proofs.AnswerLemmas.{anew_into, anew_moved, begun_moved, free_into, left_moved, mode_into, over_into, over_left, over_moved, store_free}
use Rattle.mb_copy.proofs.HashLemmas.{none_expected}
use Rattle.mb_copy.proofs.copying.copy_into.Goals as goal

pub copy_anew-requires-clause-none : goal.copy_anew-requires-clause-none
copy_anew-requires-clause-none g c told =
    let tells : g.D.TileStore.tells c.args.dst.now ≡ true = sym c.is_empty_database.ensures.kept.tells ∙ told in
    ap (λ (t : Tables). t.descriptions) c.is_empty_database.ensures.kept.told ∙ (c.in_ok-is_empty.ensures.answer tells).0 c.if-is_empty.true

pub returns-in_err-is_empty-clause-answer : goal.returns-in_err-is_empty-clause-answer
returns-in_err-is_empty-clause-answer g c =
    let p = err_from_is_err_and c.from_residual.result c.from_residual.ensures.1 in
    rw (p.1, p.2) (free_into c.args.copier.now c.args.source.state (g.D.TileStore.tells c.args.dst.now) (g.D.TileStore.told c.args.dst.now) _ (store_free _ c.in_err-is_empty.ensures.errors))

pub returns-then-is_empty-clause-answer : goal.returns-then-is_empty-clause-answer
returns-then-is_empty-clause-answer g c = anew_into c.args.copier.now c.args.source.state (g.D.TileStore.tells c.args.dst.now) (g.D.TileStore.told c.args.dst.now) c.copy_anew.result (λ t. (c.in_ok-is_empty.ensures.answer t).0 c.if-is_empty.true)
    (subst (λ (o : Option MbtError). Answers (refused_by o) c.copy_anew.result) (none_expected c.args.copier.now c.args.source.state) c.copy_anew.ensures.answer)

pub returns-then-is_empty-clause-copied : goal.returns-then-is_empty-clause-copied
returns-then-is_empty-clause-copied g c told = anew_moved c.args.copier.now c.args.source.state c.copy_anew.result (g.D.TileStore.told c.is_empty_database.new.store) (g.D.TileStore.told c.args.dst.now) (g.D.TileStore.told c.copy_anew.new.dst) c.is_empty_database.ensures.kept.told (c.copy_anew.ensures.copied (c.is_empty_database.ensures.kept.tells ∙ told))

pub returns-then-is_empty-clause-left : goal.returns-then-is_empty-clause-left
returns-then-is_empty-clause-left g c told = left_moved c.args.copier.now c.args.source.state c.copy_anew.result (g.D.TileStore.told c.is_empty_database.new.store) (g.D.TileStore.told c.args.dst.now) (g.D.TileStore.told c.copy_anew.new.dst) c.is_empty_database.ensures.kept.told (c.copy_anew.ensures.left (c.is_empty_database.ensures.kept.tells ∙ told))

pub returns-in_err-test_mode-clause-answer : goal.returns-in_err-test_mode-clause-answer
returns-in_err-test_mode-clause-answer g c =
    let p = err_from_is_err_and c.from_residual-in_err-test_mode.result c.from_residual-in_err-test_mode.ensures.1 in
    rw (p.1, p.2) (mode_into c.args.copier.now c.args.source.state (g.D.TileStore.tells c.args.dst.now) (g.D.TileStore.told c.args.dst.now) _ (λ t none. false≢true (sym c.if-is_empty.false ∙ (c.in_ok-is_empty.ensures.answer t).1 none)) c.in_err-test_mode.ensures.0)

pub returns-clause-answer : goal.returns-clause-answer
returns-clause-answer g c =
    over_into c.args.copier.now c.args.source.state (g.D.TileStore.tells c.args.dst.now) (g.D.TileStore.told c.args.dst.now) c.copy_over.result c.in_ok-test_mode.ensures
    (λ t none. false≢true (sym c.if-is_empty.false ∙ (c.in_ok-is_empty.ensures.answer t).1 none))
    (begun_moved (g.D.TileStore.tells c.is_empty_database.new.store) (g.D.TileStore.tells c.args.dst.now) (g.D.TileStore.told c.is_empty_database.new.store) (g.D.TileStore.told c.args.dst.now) c.copy_over.result c.is_empty_database.ensures.kept.tells c.is_empty_database.ensures.kept.told c.copy_over.ensures.answer)

pub returns-clause-copied : goal.returns-clause-copied
returns-clause-copied g c told =
    over_moved c.args.copier.now c.args.source.state c.copy_over.result (g.D.TileStore.told c.is_empty_database.new.store) (g.D.TileStore.told c.args.dst.now) (g.D.TileStore.told c.copy_over.new.dst) c.is_empty_database.ensures.kept.told c.in_ok-test_mode.ensures
    (λ none. false≢true (sym c.if-is_empty.false ∙ (c.in_ok-is_empty.ensures.answer told).1 none)) (c.copy_over.ensures.copied (c.is_empty_database.ensures.kept.tells ∙ told))

pub returns-clause-left : goal.returns-clause-left
returns-clause-left g c told = over_left c.args.copier.now c.args.source.state c.copy_over.result (g.D.TileStore.told c.is_empty_database.new.store) (g.D.TileStore.told c.args.dst.now) (g.D.TileStore.told c.copy_over.new.dst) c.is_empty_database.ensures.kept.told c.copy_over.ensures.refused

pub returns-then-is_empty-clause-fault : goal.returns-then-is_empty-clause-fault
returns-then-is_empty-clause-fault g c = counted_then _ _ _ _ _ _ c.in_ok-is_empty.ensures.fault.still c.copy_anew.ensures.fault

pub returns-clause-fault : goal.returns-clause-fault
returns-clause-fault g c = counted_then _ _ _ _ _ _ c.in_ok-is_empty.ensures.fault.still c.copy_over.ensures.fault
