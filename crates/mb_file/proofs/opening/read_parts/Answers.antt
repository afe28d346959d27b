use Rattle.std.proofs.Common.{arith, IfOk, map, subst₂, ℕ, ◌∙◌}
use Rattle.sqlite_btree.specs.Stored.{IsLaidIn, IsTable}
use Rattle.sqlite_pages.specs.PageMap.{PageMap}
use Rattle.mb_file.proofs.OpeningLemmas.{goes_trans, opened_after}
use Rattle.mb_file.proofs.PartsLemmas.{parts_held}
use Rattle.mb_file.specs.Catalog.{entry_of, IsCatalog, records}
use Rattle.mb_file.specs.FilePages.{IsTrusted, pages_of}
use Rattle.mb_file.specs.Opening.{AreOpened}
use Rattle.mb_file.specs.Parts.{AreParts}
use Rattle.mb_file.proofs.opening.read_parts.Goals as goal

pub returns-clause-opened : goal.returns-clause-opened
returns-clause-opened g c = λ trusted free.
    opened_after c.args.source.now.pages c.read_catalog.new.pages c.args.source.now.taken.items c.test_tree.new.source.taken.items (λ (u : ℕ) (p : PageMap). IfOk c.listed_parts.result (AreOpened u p))
    (goes_trans c.args.source.now.pages c.test_tree.new.source.pages c.read_catalog.new.pages c.test_tree.ensures.kept c.read_catalog.ensures.kept) (c.read_catalog.ensures.pages ∙ c.test_tree.ensures.pages)
    c.test_tree.ensures.keeps free (λ still. c.listed_parts.ensures.opened trusted still)

pub returns-clause-marks : goal.returns-clause-marks
returns-clause-marks g c = λ n was. c.listed_parts.ensures.marks n (c.test_tree.ensures.keeps n was)

pub returns-clause-holds : goal.returns-clause-holds
returns-clause-holds g c = λ trusted free.
    let read : IsTrusted c.read_catalog.new.pages = omega (arith, trusted, c.listed_parts.ensures.kept.clean) in
    let clean : IsTrusted c.test_tree.new.source.pages = omega (arith, read, c.read_catalog.ensures.kept.clean) in
    let checked = c.in_ok-test_tree.ensures.sound clean free in
    let lists = subst₂ (λ (u : ℕ) (p : PageMap). IsLaidIn checked.layout p → IsTable u checked.layout 1 checked.fact.0 → IsCatalog c.saturating_sub-pages.result (records checked.fact.0) c.in_ok-catalog.catalog)
    c.test_tree.ensures.kept.same_size c.test_tree.ensures.pages (c.in_ok-catalog.ensures.read read checked.layout checked.fact.0) checked.laid checked.fact.1 in
    let are =
    opened_after c.args.source.now.pages c.read_catalog.new.pages c.args.source.now.taken.items c.test_tree.new.source.taken.items
    (λ (u : ℕ) (p : PageMap). IfOk c.listed_parts.result (AreParts u p c.in_ok-catalog.catalog.master.items (map entry_of c.in_ok-catalog.catalog.tables.items)))
    (goes_trans c.args.source.now.pages c.test_tree.new.source.pages c.read_catalog.new.pages c.test_tree.ensures.kept c.read_catalog.ensures.kept) (c.read_catalog.ensures.pages ∙ c.test_tree.ensures.pages)
    c.test_tree.ensures.keeps free (λ still. c.listed_parts.ensures.holds trusted still) in
    parts_held c.args.source.now.pages.usable (pages_of c.args.source.now.pages) c.args.source.now.taken.items c.test_tree.new.source.taken.items c.saturating_sub-pages.result c.in_ok-catalog.catalog
    c.listed_parts.result checked lists are
