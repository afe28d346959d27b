use Rattle.std.proofs.Common.{ap, arith, OnOk, subst, sym, true, ◌≡◌}
use Rattle.std.specs.Option.{option_copied}
use Rattle.sqlite_btree.specs.Check.{is_marked}
use Rattle.mb_tables.specs.declared.table.TableName.TheVariants.{Metadata}
use Rattle.mb_file.specs.Columns.{AreColumnsBy, HasRowids}
use Rattle.mb_file.specs.FilePages.{IsTrusted, pages_of}
use Rattle.mb_file.specs.Metadata.{AreNames, held_in}
use Rattle.mb_file.proofs.MetadataLemmas.{names_read}
use Rattle.mb_file.proofs.metadata.read_names.Goals as goal

pub returns-clause-read : goal.returns-clause-read
returns-clause-read g c = λ trusted free.
    let clean : IsTrusted c.test_table.new.source.pages = omega (arith, trusted, c.fill.ensures.kept.clean) in
    subst (λ o. OnOk c.fill.result (AreNames c.args.source.now.pages.usable (pages_of c.args.source.now.pages) (option_copied o) (held_in c.args.names.now c.args.source.now.left_out)
    (held_in c.fill.new.names c.fill.new.source.left_out))) (sym c.in-Some.is)
    (names_read c.args.source.now.pages c.test_table.new.source.pages c.fill.new.source.pages c.test_table.ensures.kept c.test_table.ensures.pages c.in-Some.listed.now c.in_ok-columns.columns
    c.args.source.now.taken.items c.test_table.new.source.taken.items (held_in c.args.names.now c.test_table.new.source.left_out) (held_in c.args.names.now c.args.source.now.left_out)
    (held_in c.fill.new.names c.fill.new.source.left_out) c.fill.result
    (λ rowids. subst (λ t. AreColumnsBy Metadata t c.in_ok-columns.columns) c.as_slice.ensures.value (c.in_ok-columns.ensures.columns rowids))
    (λ own. c.in_ok-columns.ensures.rowids (subst HasRowids (sym c.as_slice.ensures.value) own)) (λ rowids. c.in_ok-test_table.ensures.sound rowids clean free)
    (ap (λ s. held_in c.args.names.now s.left_out) c.test_table.ensures.same) c.fill.ensures.read trusted)

pub returns-clause-marks : goal.returns-clause-marks
returns-clause-marks g c = λ n was. subst (λ t. is_marked t.items n ≡ true) (sym c.fill.ensures.taken) (c.in_ok-test_table.ensures.keeps n was)
