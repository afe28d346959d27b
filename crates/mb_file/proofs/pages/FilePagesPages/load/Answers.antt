use Rattle.std.proofs.Common.{IsSome, refl, sym, ◌∙◌}
use Rattle.sqlite_pages.proofs.Doubt.{clean_of, only_falls}
use Rattle.sqlite_pager.specs.Pager.{visible}
use Rattle.sqlite_pool.specs.StoredLaws.{trimmed_some, trimmed_there}
use Rattle.mb_file.proofs.PageLemmas.{excused_by, honest_by, shown, there_is}
use Rattle.mb_file.proofs.pages.FilePagesPages.load.Goals as goal

pub returns-in-Ok-clause-ok : goal.returns-in-Ok-clause-ok
returns-in-Ok-clause-ok g c undoubted = shown _ _ (trimmed_some c.args.self.now.usable _ c.args.page _ (c.in-Ok.ensures.ok (clean_of _ undoubted)))

pub returns-in-Ok-clause-steps : goal.returns-in-Ok-clause-steps
returns-in-Ok-clause-steps g c = record { same_size = refl; more_faults = c.load.ensures.keeps.stays.faults; clean = only_falls _ _ c.load.ensures.keeps.stays.clean; in_order = tt }

pub returns-in-Err-clause-err : goal.returns-in-Err-clause-err
returns-in-Err-clause-err g c undoubted there =
    let some : IsSome (visible c.args.self.now.pager c.args.page) = sym (trimmed_there c.args.self.now.usable _ c.args.page) ∙ there in
    excused_by _ _ _ _ _ _ _ c.report.ensures (c.in-Err.ensures.cause.0 (clean_of _ undoubted)) (λ closed. c.load.ensures.open ∙ closed) (λ none. there_is _ some none)

pub returns-in-Err-clause-honest : goal.returns-in-Err-clause-honest
returns-in-Err-clause-honest g c undoubted = honest_by _ _ _ _ _ _ _ c.report.ensures (c.in-Err.ensures.cause.0 (clean_of _ undoubted)) (λ closed. c.load.ensures.open ∙ closed)

pub returns-in-Err-clause-steps : goal.returns-in-Err-clause-steps
returns-in-Err-clause-steps g c = record { same_size = refl; more_faults = c.load.ensures.keeps.stays.faults; clean = only_falls _ _ c.load.ensures.keeps.stays.clean; in_order = tt }
