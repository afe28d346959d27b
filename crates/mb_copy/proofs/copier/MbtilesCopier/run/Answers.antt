use Rattle.mb_copy.proofs.Common.{err_from_is_err_and, inl, inr, refl, still_anyway}
use Rattle.mb_copy.proofs.AnswerLemmas.{all_copied, all_left, hash_refused, put_answered, source_refused}
use Rattle.mb_copy.proofs.PutLemmas.{is_source}
use Rattle.mb_copy.proofs.copier.MbtilesCopier.run.Goals as goal

pub copy_into-requires : goal.copy_into-requires
copy_into-requires g c = is_source c.in_ok-source.source.state c.in_ok-source.ensures.whole

pub returns-in_err-source-clause-answer : goal.returns-in_err-source-clause-answer
returns-in_err-source-clause-answer g c =
    let p = err_from_is_err_and c.from_residual.result c.from_residual.ensures.1 in
    rw (p.1, p.2) (source_refused c.args.self.now (g.S.TileStore.tells c.args.src.now) (g.S.TileStore.told c.args.src.now) (g.D.TileStore.tells c.args.dst.now) (g.D.TileStore.told c.args.dst.now) _ c.in_err-source.ensures.answer c.in_err-source.ensures.own)

pub returns-in_err-source-clause-left : goal.returns-in_err-source-clause-left
returns-in_err-source-clause-left g c told =
    let p = err_from_is_err_and c.from_residual.result c.from_residual.ensures.1 in
    rw (p.1, p.2) (inl refl)

pub returns-in_err-test_valid-clause-answer : goal.returns-in_err-test_valid-clause-answer
returns-in_err-test_valid-clause-answer g c =
    let p = err_from_is_err_and c.from_residual-in_err-test_valid.result c.from_residual-in_err-test_valid.ensures.1 in
    rw (p.1, p.2) (hash_refused c.args.self.now (g.S.TileStore.tells c.args.src.now) (g.S.TileStore.told c.args.src.now) (g.D.TileStore.tells c.args.dst.now) (g.D.TileStore.told c.args.dst.now) c.in_ok-source.source _ c.in_ok-source.ensures.answer c.in_ok-source.ensures.own c.in_err-test_valid.ensures.0)

pub returns-in_err-test_valid-clause-left : goal.returns-in_err-test_valid-clause-left
returns-in_err-test_valid-clause-left g c told =
    let p = err_from_is_err_and c.from_residual-in_err-test_valid.result c.from_residual-in_err-test_valid.ensures.1 in
    rw (p.1, p.2) (inl refl)

pub returns-clause-answer : goal.returns-clause-answer
returns-clause-answer g c =
    put_answered c.args.self.now (g.S.TileStore.tells c.args.src.now) (g.S.TileStore.told c.args.src.now) (g.D.TileStore.tells c.args.dst.now) (g.D.TileStore.told c.args.dst.now) c.in_ok-source.source c.copy_into.result c.in_ok-source.ensures.answer c.in_ok-source.ensures.own c.in_ok-test_valid.ensures c.copy_into.ensures.answer

pub returns-clause-copied : goal.returns-clause-copied
returns-clause-copied g c told =
    all_copied c.args.self.now (g.S.TileStore.tells c.args.src.now) (g.S.TileStore.told c.args.src.now) (g.D.TileStore.told c.args.dst.now) (g.D.TileStore.told c.copy_into.new.dst) c.in_ok-source.source c.in_ok-source.ensures.answer c.in_ok-source.ensures.own c.copy_into.result c.in_ok-test_valid.ensures (c.copy_into.ensures.copied told)

pub returns-clause-left : goal.returns-clause-left
returns-clause-left g c told =
    all_left c.args.self.now (g.S.TileStore.tells c.args.src.now) (g.S.TileStore.told c.args.src.now) (g.D.TileStore.told c.args.dst.now) (g.D.TileStore.told c.copy_into.new.dst) c.in_ok-source.source c.in_ok-source.ensures.answer c.in_ok-source.ensures.own c.copy_into.result (c.copy_into.ensures.left told)

pub returns-clause-fault : goal.returns-clause-fault
returns-clause-fault g c is = inr (c.copy_into.ensures.fault.rose is)

pub returns-clause-source_still : goal.returns-clause-source_still
returns-clause-source_still g c = still_anyway c.copy_into.result c.in_ok-source.ensures.fault.still
