use Rattle.mb_copy.proofs.Common.{err_from_is_err_and, inl, inr, refl, still_anyway}
use Rattle.mb_copy.proofs.AnswerLemmas.{all_left}
use Rattle.mb_copy.proofs.PatchAnswerLemmas.{patch_refused, patch_untaken, patched_answered, patched_copied, source_refused, source_untaken}
use Rattle.mb_copy.proofs.PutLemmas.{is_source}
use Rattle.mb_copy.proofs.copier.MbtilesCopier.run_with_patch.Goals as goal

pub copy_patched-requires-clause-source : goal.copy_patched-requires-clause-source
copy_patched-requires-clause-source g c = is_source c.in_ok-source.source.state c.in_ok-source.ensures.whole

pub copy_patched-requires-clause-patch : goal.copy_patched-requires-clause-patch
copy_patched-requires-clause-patch g c = c.in_ok-other.ensures.whole.on_board

pub returns-in_err-other-clause-answer : goal.returns-in_err-other-clause-answer
returns-in_err-other-clause-answer g c =
    let p = err_from_is_err_and c.from_residual.result c.from_residual.ensures.1 in
    rw (p.1, p.2) (patch_refused c.args.self.now (g.P.TileStore.tells c.args.patch.now) (g.P.TileStore.told c.args.patch.now) (g.S.TileStore.tells c.args.src.now) (g.S.TileStore.told c.args.src.now) (g.D.TileStore.tells c.args.dst.now) (g.D.TileStore.told c.args.dst.now) _ c.in_err-other.ensures.answer c.in_err-other.ensures.own)

pub returns-in_err-other-clause-left : goal.returns-in_err-other-clause-left
returns-in_err-other-clause-left g c told =
    let p = err_from_is_err_and c.from_residual.result c.from_residual.ensures.1 in
    rw (p.1, p.2) (inl refl)

pub returns-in_err-test_patch-clause-answer : goal.returns-in_err-test_patch-clause-answer
returns-in_err-test_patch-clause-answer g c =
    let p = err_from_is_err_and c.from_residual-in_err-test_patch.result c.from_residual-in_err-test_patch.ensures.1 in
    rw (p.1, p.2) (patch_untaken c.args.self.now (g.P.TileStore.tells c.args.patch.now) (g.P.TileStore.told c.args.patch.now) (g.S.TileStore.tells c.args.src.now) (g.S.TileStore.told c.args.src.now) (g.D.TileStore.tells c.args.dst.now) (g.D.TileStore.told c.args.dst.now) c.in_ok-other.other c.in_ok-other.ensures.answer c.in_ok-other.ensures.own _ c.in_err-test_patch.ensures.0)

pub returns-in_err-test_patch-clause-left : goal.returns-in_err-test_patch-clause-left
returns-in_err-test_patch-clause-left g c told =
    let p = err_from_is_err_and c.from_residual-in_err-test_patch.result c.from_residual-in_err-test_patch.ensures.1 in
    rw (p.1, p.2) (inl refl)

pub returns-in_err-source-clause-answer : goal.returns-in_err-source-clause-answer
returns-in_err-source-clause-answer g c =
    let p = err_from_is_err_and c.from_residual-in_err-source.result c.from_residual-in_err-source.ensures.1 in
    rw (p.1, p.2) (source_refused c.args.self.now (g.P.TileStore.tells c.args.patch.now) (g.P.TileStore.told c.args.patch.now) (g.S.TileStore.tells c.args.src.now) (g.S.TileStore.told c.args.src.now) (g.D.TileStore.tells c.args.dst.now) (g.D.TileStore.told c.args.dst.now) c.in_ok-other.other c.in_ok-other.ensures.answer c.in_ok-other.ensures.own _ c.in_ok-test_patch.ensures c.in_err-source.ensures.answer c.in_err-source.ensures.own)

pub returns-in_err-source-clause-left : goal.returns-in_err-source-clause-left
returns-in_err-source-clause-left g c told =
    let p = err_from_is_err_and c.from_residual-in_err-source.result c.from_residual-in_err-source.ensures.1 in
    rw (p.1, p.2) (inl refl)

pub returns-in_err-test_source-clause-answer : goal.returns-in_err-test_source-clause-answer
returns-in_err-test_source-clause-answer g c =
    let p = err_from_is_err_and c.from_residual-in_err-test_source.result c.from_residual-in_err-test_source.ensures.1 in
    rw (p.1, p.2) (source_untaken c.args.self.now (g.P.TileStore.tells c.args.patch.now) (g.P.TileStore.told c.args.patch.now) (g.S.TileStore.tells c.args.src.now) (g.S.TileStore.told c.args.src.now) (g.D.TileStore.tells c.args.dst.now) (g.D.TileStore.told c.args.dst.now) c.in_ok-other.other c.in_ok-other.ensures.answer c.in_ok-other.ensures.own c.in_ok-source.source c.in_ok-source.ensures.answer c.in_ok-source.ensures.own _ c.in_ok-test_patch.ensures c.in_err-test_source.ensures.0)

pub returns-in_err-test_source-clause-left : goal.returns-in_err-test_source-clause-left
returns-in_err-test_source-clause-left g c told =
    let p = err_from_is_err_and c.from_residual-in_err-test_source.result c.from_residual-in_err-test_source.ensures.1 in
    rw (p.1, p.2) (inl refl)

pub returns-clause-answer : goal.returns-clause-answer
returns-clause-answer g c =
    patched_answered c.args.self.now (g.P.TileStore.tells c.args.patch.now) (g.P.TileStore.told c.args.patch.now) (g.S.TileStore.tells c.args.src.now) (g.S.TileStore.told c.args.src.now) (g.D.TileStore.tells c.args.dst.now) (g.D.TileStore.told c.args.dst.now) c.in_ok-other.other c.in_ok-other.ensures.answer c.in_ok-other.ensures.own c.in_ok-source.source c.in_ok-source.ensures.answer c.in_ok-source.ensures.own c.copy_patched.result c.in_ok-test_patch.ensures c.in_ok-test_source.ensures c.copy_patched.ensures.answer

pub returns-clause-copied : goal.returns-clause-copied
returns-clause-copied g c told =
    patched_copied c.args.self.now (g.P.TileStore.tells c.args.patch.now) (g.P.TileStore.told c.args.patch.now) (g.S.TileStore.tells c.args.src.now) (g.S.TileStore.told c.args.src.now) (g.D.TileStore.tells c.args.dst.now) (g.D.TileStore.told c.args.dst.now) c.in_ok-other.other c.in_ok-other.ensures.answer c.in_ok-other.ensures.own c.in_ok-source.source c.in_ok-source.ensures.answer c.in_ok-source.ensures.own c.copy_patched.result (g.D.TileStore.told c.copy_patched.new.dst) c.in_ok-test_patch.ensures c.in_ok-test_source.ensures (c.copy_patched.ensures.copied told)

pub returns-clause-left : goal.returns-clause-left
returns-clause-left g c told =
    all_left c.args.self.now (g.S.TileStore.tells c.args.src.now) (g.S.TileStore.told c.args.src.now) (g.D.TileStore.told c.args.dst.now) (g.D.TileStore.told c.copy_patched.new.dst) c.in_ok-source.source c.in_ok-source.ensures.answer c.in_ok-source.ensures.own c.copy_patched.result (c.copy_patched.ensures.left told)

pub returns-clause-fault : goal.returns-clause-fault
returns-clause-fault g c is = inr (inl (c.copy_patched.ensures.fault.rose is))

pub returns-clause-source_still : goal.returns-clause-source_still
returns-clause-source_still g c = still_anyway c.copy_patched.result c.in_ok-source.ensures.fault.still

pub returns-clause-patch_still : goal.returns-clause-patch_still
returns-clause-patch_still g c = still_anyway c.copy_patched.result c.in_ok-other.ensures.fault.still
