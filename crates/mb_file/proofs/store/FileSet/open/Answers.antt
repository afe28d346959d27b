use Rattle.std.proofs.Common.{subst, sym}
use Rattle.mb_file.proofs.StandingLemmas.{opened_stands}
use Rattle.mb_file.specs.FilePages.{IsTrusted, pages_of}
use Rattle.mb_file.specs.Opened.{AreOf}
use Rattle.mb_file.specs.Recovered.{image_of}
use Rattle.mb_file.proofs.store.FileSet.open.Goals as goal

pub of_parts-requires-clause-stand : goal.of_parts-requires-clause-stand
of_parts-requires-clause-stand g c = opened_stands c.in_ok-source.source c.in_ok-source.parts c.in_ok-source.ensures.opened

pub returns-clause-found : goal.returns-clause-found
returns-clause-found g c = λ trusted.
    let same = c.of_parts.ensures.source in
    subst (λ s. AreOf (image_of g.D.Disk c.args.files) s.pages.usable (pages_of s.pages)) (sym same)
    (c.in_ok-source.ensures.found (subst (λ s. IsTrusted s.pages) same trusted))

pub returns-clause-holds : goal.returns-clause-holds
returns-clause-holds g c = λ trusted may.
    let clean = subst (λ s. IsTrusted s.pages) c.of_parts.ensures.source trusted in
    c.of_parts.ensures.holds (image_of g.D.Disk c.args.files) clean (c.in_ok-source.ensures.found clean) (c.in_ok-source.ensures.holds clean) may
