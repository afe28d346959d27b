use Rattle.mb_check.proofs.Common.{ap, begun_err, begun_ok, err_from_is_err_and, Ok, sym, validated, ◌∙◌}
use Rattle.mb_check.specs.declared.validation.AggHashType.TheVariants.{Off}
use Rattle.mb_check.proofs.validation.load_alone.Goals as goal

pub returns-in_err-_set-clause-answer : goal.returns-in_err-_set-clause-answer
returns-in_err-_set-clause-answer g c =
    let p = err_from_is_err_and c.from_residual.result c.from_residual.ensures.1 in
    rw (p.1, p.2) (begun_err (validated Off) (g.S.TileStore.tells c.args.store.now) (g.S.TileStore.told c.args.store.now) _ c.in_err-_set.ensures.answer c.in_err-_set.ensures.own)

pub returns-clause-answer : goal.returns-clause-answer
returns-clause-answer g c = begun_ok (validated Off) (g.S.TileStore.tells c.args.store.now) (g.S.TileStore.told c.args.store.now) c.in_ok-_set._set (Ok c.new-2.result) c.in_ok-_set.ensures.answer c.in_ok-_set.ensures.own (ap Ok (sym (c.new-2.ensures ∙ c.new.ensures.bytes)))
