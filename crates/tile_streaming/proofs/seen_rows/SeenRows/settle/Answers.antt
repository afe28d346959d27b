use Rattle.tile_streaming.proofs.Common.{ap, Err, err_from_is_err_and, IfErr, MbtError, names_refused, refl, Result, StoreFault, subst, sym, ◌∙◌, ◌≢◌}
use Rattle.tile_streaming.proofs.FaultLemmas.{settled_no}
use Rattle.tile_streaming.proofs.SeenLemmas.{marked_due, refused_due, twice_due}
use Rattle.tile_streaming.specs.declared.mark.MarkedSet.{MarkedSet}
use Rattle.tile_streaming.proofs.seen_rows.SeenRows.settle.Goals as goal

pub returns-in_err-settled-clause-marked : goal.returns-in_err-settled-clause-marked
returns-in_err-settled-clause-marked c =
    let p = err_from_is_err_and c.from_residual.result c.from_residual.ensures.1 in
    λ metadata contents rows a apart sees tests said same. refused_due c.args.layout metadata contents rows apart a c.args.self sees c.args.named tests said same c.from_residual.result p.0 p.1 (sym c.settle.ensures ∙ (c.in_err-settled.was ∙ ap Err (sym p.2)))

pub returns-in_err-settled-clause-unfaulted : goal.returns-in_err-settled-clause-unfaulted
returns-in_err-settled-clause-unfaulted c =
    let p = err_from_is_err_and c.from_residual.result c.from_residual.ensures.1 in
    λ metadata contents rows a sees tests. subst (λ (x : Result MarkedSet MbtError). IfErr x (λ e. e ≢ StoreFault)) (sym p.1) (settled_no c.args.layout a contents rows c.args.self.findings (names_refused metadata) c.args.named sees.findings tests p.0 (sym c.settle.ensures ∙ (c.in_err-settled.was ∙ ap Err (sym p.2))))

pub returns-in-Some-clause-marked : goal.returns-in-Some-clause-marked
returns-in-Some-clause-marked c = λ metadata contents rows a apart sees tests said same.
    marked_due c.args.layout metadata contents rows apart a c.args.self sees c.args.named tests said same c.in_ok-settled.settled _ (sym c.settle.ensures ∙ c.in_ok-settled.was) refl refl refl (sym c.in-Some.ensures.apart) c.in-Some.ensures.same c.in-Some.ensures.rising

pub returns-in-None-clause-marked : goal.returns-in-None-clause-marked
returns-in-None-clause-marked c = λ metadata contents rows a apart sees tests said same.
    twice_due c.args.layout metadata contents rows apart a c.args.self sees c.args.named tests said same c.in_ok-settled.settled (sym c.settle.ensures ∙ c.in_ok-settled.was) (sym c.in-None.ensures.apart)
