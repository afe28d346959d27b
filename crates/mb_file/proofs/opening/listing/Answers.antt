use Rattle.std.proofs.Common.{ap, map, None, refl, subst, sym, ◌∙◌, ◌≡◌}
use Rattle.std.specs.Option.{option_copied}
use Rattle.mb_file.specs.Catalog.{entry_of}
use Rattle.mb_file.specs.Columns.{AreColumnsBy}
use Rattle.mb_file.proofs.OpeningLemmas.{tested}
use Rattle.mb_file.proofs.PartsLemmas.{found_in, table_at}
use Rattle.mb_file.specs.declared.set_table.SetTable.{SetTable}
use Rattle.mb_file.proofs.opening.listing.Goals as goal

pub returns-clause-opened : goal.returns-clause-opened
returns-clause-opened g c = λ trusted free none.
    let of : SetTable = record { root = c.in-Some.listed.now.root; columns = c.in_ok-columns.columns } in
    let rowids : c.in_ok-columns.columns.key ≡ None = ap (λ (o : SetTable). o.columns.key) (sym c.new.ensures.of) ∙ none in
    tested c.args.source.now.pages.usable _ c.args.source.now.taken.items c.test_table.new.source.taken.items c.args.table of c.new.result
    (c.in_ok-test_table.ensures.sound rowids trusted free) c.new.ensures.table c.new.ensures.of (c.new.ensures.listed rowids)

pub returns-clause-found : goal.returns-clause-found
returns-clause-found g c =
    let of : SetTable = record { root = c.in-Some.listed.now.root; columns = c.in_ok-columns.columns } in
    table_at (map entry_of c.args.catalog.now.tables.items) c.args.table c.in-Some.listed.now of c.new.result
    (found_in (map entry_of c.args.catalog.now.tables.items) c.args.table (option_copied c.table.result) c.in-Some.listed.now c.table.ensures (ap option_copied c.in-Some.is)) refl c.new.ensures.table c.new.ensures.of
    (λ rowids. subst (λ t. AreColumnsBy c.args.table t c.in_ok-columns.columns) c.as_slice.ensures.value (c.in_ok-columns.ensures.columns rowids))
