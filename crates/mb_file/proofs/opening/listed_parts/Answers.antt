use Rattle.std.proofs.Common.{ap, arith, IfOk, map, sym, ℕ, ◌∙◌}
use Rattle.sqlite_pages.specs.PageMap.{PageMap}
use Rattle.mb_reading.specs.Master.{first_layout}
use Rattle.mb_file.proofs.OpeningLemmas.{opened_after}
use Rattle.mb_file.proofs.PartsLemmas.{parts_listed}
use Rattle.mb_file.specs.Catalog.{entry_of}
use Rattle.mb_file.specs.FilePages.{IsTrusted, pages_of}
use Rattle.mb_file.specs.Opening.{AreOpened}
use Rattle.mb_file.proofs.opening.listed_parts.Goals as goal

pub returns-clause-opened : goal.returns-clause-opened
returns-clause-opened g c = λ trusted free.
    opened_after c.args.source.now.pages c.names.new.source.pages c.args.source.now.taken.items c.names.new.source.taken.items (λ (u : ℕ) (p : PageMap). IfOk c.tables.result (AreOpened u p))
    c.names.ensures.kept c.names.ensures.pages c.names.ensures.marks free (λ still. c.tables.ensures.opened trusted still)

pub returns-clause-marks : goal.returns-clause-marks
returns-clause-marks g c = λ n was. c.tables.ensures.marks n (c.names.ensures.marks n was)

pub returns-clause-holds : goal.returns-clause-holds
returns-clause-holds g c = λ trusted free.
    let clean : IsTrusted c.names.new.source.pages = omega (arith, trusted, c.tables.ensures.kept.clean) in
    let first = ap first_layout (sym c.as_slice.ensures.value) ∙ sym c.in_ok-layout.ensures ∙ c.in-Some.is in
    parts_listed c.args.source.now.pages.usable (pages_of c.args.source.now.pages) c.args.catalog.now.master.items (map entry_of c.args.catalog.now.tables.items) c.in-Some.layout c.in_ok-names.names
    c.tables.result first (c.in_ok-names.ensures.holds clean free) c.tables.ensures.layout c.tables.ensures.found c.tables.ensures.beside c.tables.ensures.names
