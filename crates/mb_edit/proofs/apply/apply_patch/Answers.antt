use Rattle.mb_edit.proofs.Common.{answer_of, ap, Err, false, false≢true, is_free, IsLoadedFrom, MakesChanges, Ok, state_of, subst, sym, Tables, true, ◌∙◌, ◌≡◌}
use Rattle.std.proofs.lemmas.Result.{err_from_is_err_and}
use Rattle.mb_edit.proofs.AnswerLemmas.{base_refused, patch_refused, some_tables, step_answered}
use Rattle.mb_edit.proofs.ApplyLemmas.{next_applied, next_loaded}
use Rattle.mb_edit.proofs.apply.apply_patch.Goals as goal

pub commit_loaded-requires : goal.commit_loaded-requires
commit_loaded-requires g c tells =
    let told : g.S.TileStore.tells c.args.base.now ≡ true = sym c.load.ensures.kept.tells ∙ tells in
    subst (λ (t : Tables). IsLoadedFrom t c.in_ok-patched.patched) (sym c.load.ensures.kept.told)
    (next_loaded c.args.force c.in_ok-set.set c.in_ok-other.other.state c.in_ok-patched.patched c.in_ok-patched.ensures.value.0 c.in_ok-patched.ensures.value.1 c.in_ok-other.ensures.whole (g.S.TileStore.told c.args.base.now) (c.in_ok-set.ensures.loaded told))

pub returns-in_err-set-clause-answer : goal.returns-in_err-set-clause-answer
returns-in_err-set-clause-answer g c =
    let p = err_from_is_err_and c.from_residual.result c.from_residual.ensures.1 in
    rw (p.1, p.2) (base_refused c.args.force (g.S.TileStore.tells c.args.base.now) (g.S.TileStore.told c.args.base.now) (g.P.TileStore.tells c.args.patch.now) (g.P.TileStore.told c.args.patch.now) _
    (some_tables (g.S.TileStore.tells c.args.base.now) (g.S.TileStore.told c.args.base.now) (λ t. is_free _ ≡ false → state_of t ≡ Err _) c.in_err-set.ensures.answer c.in_err-set.ensures.own))

pub returns-in_err-other-clause-answer : goal.returns-in_err-other-clause-answer
returns-in_err-other-clause-answer g c =
    let p = err_from_is_err_and c.from_residual-in_err-other.result c.from_residual-in_err-other.ensures.1 in
    rw (p.1, p.2) (patch_refused c.args.force (g.S.TileStore.tells c.args.base.now) (g.S.TileStore.told c.args.base.now) (g.P.TileStore.tells c.args.patch.now) (g.P.TileStore.told c.args.patch.now) _ c.in_ok-set.set.state
    (some_tables (g.S.TileStore.tells c.args.base.now) (g.S.TileStore.told c.args.base.now) (λ t. state_of t ≡ Ok c.in_ok-set.set.state) (λ told. (c.in_ok-set.ensures.answer told).0) (c.in_ok-set.ensures.own.0, c.in_ok-set.ensures.own.1.0))
    (some_tables (g.P.TileStore.tells c.args.patch.now) (g.P.TileStore.told c.args.patch.now) (λ t. is_free _ ≡ false → state_of t ≡ Err _) c.in_err-other.ensures.answer c.in_err-other.ensures.own))

pub returns-in_err-patched-clause-answer : goal.returns-in_err-patched-clause-answer
returns-in_err-patched-clause-answer g c =
    let p = err_from_is_err_and c.from_residual-in_err-patched.result c.from_residual-in_err-patched.ensures.1 in
    rw (p.1, p.2) (step_answered c.args.force (g.S.TileStore.tells c.args.base.now) (g.S.TileStore.told c.args.base.now) (g.P.TileStore.tells c.args.patch.now) (g.P.TileStore.told c.args.patch.now) (Err _) c.in_ok-set.set.state c.in_ok-other.other.state
    (some_tables (g.S.TileStore.tells c.args.base.now) (g.S.TileStore.told c.args.base.now) (λ t. state_of t ≡ Ok c.in_ok-set.set.state) (λ told. (c.in_ok-set.ensures.answer told).0) (c.in_ok-set.ensures.own.0, c.in_ok-set.ensures.own.1.0))
    (some_tables (g.P.TileStore.tells c.args.patch.now) (g.P.TileStore.told c.args.patch.now) (λ t. state_of t ≡ Ok c.in_ok-other.other.state) (λ told. (c.in_ok-other.ensures.answer told).0) (c.in_ok-other.ensures.own.0, c.in_ok-other.ensures.own.1.0))
    (λ free. ap answer_of (c.in_err-patched.ensures.refused free)))

pub returns-in_err-commit_loaded-clause-answer : goal.returns-in_err-commit_loaded-clause-answer
returns-in_err-commit_loaded-clause-answer g c =
    let p = err_from_is_err_and c.from_residual-in_err-commit_loaded.result c.from_residual-in_err-commit_loaded.ensures.1 in
    rw (p.1, p.2) (step_answered c.args.force (g.S.TileStore.tells c.args.base.now) (g.S.TileStore.told c.args.base.now) (g.P.TileStore.tells c.args.patch.now) (g.P.TileStore.told c.args.patch.now) (Err _) c.in_ok-set.set.state c.in_ok-other.other.state
    (some_tables (g.S.TileStore.tells c.args.base.now) (g.S.TileStore.told c.args.base.now) (λ t. state_of t ≡ Ok c.in_ok-set.set.state) (λ told. (c.in_ok-set.ensures.answer told).0) (c.in_ok-set.ensures.own.0, c.in_ok-set.ensures.own.1.0))
    (some_tables (g.P.TileStore.tells c.args.patch.now) (g.P.TileStore.told c.args.patch.now) (λ t. state_of t ≡ Ok c.in_ok-other.other.state) (λ told. (c.in_ok-other.ensures.answer told).0) (c.in_ok-other.ensures.own.0, c.in_ok-other.ensures.own.1.0))
    (λ free. absurd (false≢true (sym free ∙ c.in_err-commit_loaded.ensures.free))))

pub returns-clause-answer : goal.returns-clause-answer
returns-clause-answer g c =
    step_answered c.args.force (g.S.TileStore.tells c.args.base.now) (g.S.TileStore.told c.args.base.now) (g.P.TileStore.tells c.args.patch.now) (g.P.TileStore.told c.args.patch.now) (Ok tt) c.in_ok-set.set.state c.in_ok-other.other.state
    (some_tables (g.S.TileStore.tells c.args.base.now) (g.S.TileStore.told c.args.base.now) (λ t. state_of t ≡ Ok c.in_ok-set.set.state) (λ told. (c.in_ok-set.ensures.answer told).0) (c.in_ok-set.ensures.own.0, c.in_ok-set.ensures.own.1.0))
    (some_tables (g.P.TileStore.tells c.args.patch.now) (g.P.TileStore.told c.args.patch.now) (λ t. state_of t ≡ Ok c.in_ok-other.other.state) (λ told. (c.in_ok-other.ensures.answer told).0) (c.in_ok-other.ensures.own.0, c.in_ok-other.ensures.own.1.0))
    (ap answer_of c.in_ok-patched.ensures.answer)

pub returns-clause-applied : goal.returns-clause-applied
returns-clause-applied g c told =
    let p = some_tables (g.P.TileStore.tells c.args.patch.now) (g.P.TileStore.told c.args.patch.now) (λ t. state_of t ≡ Ok c.in_ok-other.other.state) (λ told. (c.in_ok-other.ensures.answer told).0) (c.in_ok-other.ensures.own.0, c.in_ok-other.ensures.own.1.0) in
    record {
      patch = p.tables;
      is_told = p.is;
      applied = next_applied c.args.force c.in_ok-set.set c.in_ok-other.other.state c.in_ok-patched.patched c.in_ok-patched.ensures.value.0 c.in_ok-patched.ensures.value.1 c.in_ok-other.ensures.whole (g.S.TileStore.told c.args.base.now) p.tables (g.S.TileStore.told c.commit_loaded.new.store)
          (g.met.S.TileStore.sound c.commit_loaded.new.store (c.commit_loaded.ensures.kept.tells ∙ (c.load.ensures.kept.tells ∙ told)))
          (c.in_ok-set.ensures.answer told).1 (c.in_ok-set.ensures.answer told).0 (c.in_ok-set.ensures.loaded told) c.in_ok-set.ensures.named
          p.fact c.in_ok-other.ensures.named
          (subst (λ (t : Tables). MakesChanges c.in_ok-patched.patched t (g.S.TileStore.told c.commit_loaded.new.store)) c.load.ensures.kept.told (c.in_ok-commit_loaded.ensures.committed (c.load.ensures.kept.tells ∙ told)));
    }
