use Rattle.pm_format.proofs.Common.{ap, arith, Parts, scan, subst, suc, sym, ◌-◌, ◌∙◌, ◌≡◌}
use Rattle.pm_format.proofs.SearchLemmas.{scan_none, scan_at}
use Rattle.pm_format.proofs.directory.Directory.find_tile_id_counted.Goals as goal

pub returns-then-begun-eq0-clause-found : goal.returns-then-begun-eq0-clause-found
returns-then-begun-eq0-clause-found g c =
    sym (scan_none _ _ (subst (Parts c.entries-entries.result.now c.value-id.result) c.if-begun-eq0.true c.count_begun-begun.ensures.parts))
    ∙ (ap (λ es. scan es c.value-id.result) c.entries-entries.ensures.value ∙ ap (scan c.args.self.now) c.value-id.ensures.value)

pub returns-clause-found : goal.returns-clause-found
returns-clause-found g c =
    let n : c.count_begun-begun.result ≡ suc (c.count_begun-begun.result - 1) = omega arith in
    c.covering.ensures
    ∙ (sym (scan_at _ _ _ _ (omega (arith, c.count_begun-begun.ensures.parts.within, n)) (subst (Parts c.entries-entries.result.now c.value-id.result) n c.count_begun-begun.ensures.parts))
    ∙ (ap (λ es. scan es c.value-id.result) c.entries-entries.ensures.value ∙ ap (scan c.args.self.now) c.value-id.ensures.value))
