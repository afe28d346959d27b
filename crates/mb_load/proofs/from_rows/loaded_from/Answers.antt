use Rattle.mb_load.proofs.Common.{algorithm_of, ap, err_from_is_err_and, None, rows_kept, sym, ◌∙◌, ◌≡◌}
use Rattle.mb_load.proofs.Due.{due_algorithm, due_ids, due_names, due_places, due_tests, ids_due, tests_due}
use Rattle.mb_load.proofs.Final.{ArePassed, set_due, twice_due}
use Rattle.mb_load.proofs.from_rows.loaded_from.Goals as goal

pub returns-in_err-contents-clause-loads : goal.returns-in_err-contents-clause-loads
returns-in_err-contents-clause-loads c =
    let p = err_from_is_err_and c.from_residual.result c.from_residual.ensures.1 in
    rw (p.1, p.2) (λ h. due_ids c.args.layout c.args.patch_type c.args.metadata.items c.args.contents.items c.args.rows.items _ (ap (ids_due c.args.layout c.args.contents.items) (sym c.deref.ensures.value) ∙ c.in_err-contents.ensures.tests.0 h))

pub returns-in_err-names-clause-loads : goal.returns-in_err-names-clause-loads
returns-in_err-names-clause-loads c =
    let ids : ids_due c.args.layout c.args.contents.items c.args.rows.items ≡ None = ap (ids_due c.args.layout c.args.contents.items) (sym c.deref.ensures.value) ∙ c.in_ok-contents.ensures.tests in
    let p = err_from_is_err_and c.from_residual-in_err-names.result c.from_residual-in_err-names.ensures.1 in
    rw (p.1, p.2) (λ h. due_names c.args.layout c.args.patch_type c.args.metadata.items c.args.contents.items c.args.rows.items _ ids (c.in_err-names.ensures.tests.0 h))

pub returns-in_err-algorithm-clause-loads : goal.returns-in_err-algorithm-clause-loads
returns-in_err-algorithm-clause-loads c =
    let ids : ids_due c.args.layout c.args.contents.items c.args.rows.items ≡ None = ap (ids_due c.args.layout c.args.contents.items) (sym c.deref.ensures.value) ∙ c.in_ok-contents.ensures.tests in
    let p = err_from_is_err_and c.from_residual-in_err-algorithm.result c.from_residual-in_err-algorithm.ensures.1 in
    rw (p.1, p.2) (λ h. due_algorithm c.args.layout c.args.patch_type c.args.metadata.items c.args.contents.items c.args.rows.items _ ids c.in_ok-names.ensures.tests ((c.in_err-algorithm.ensures.tests c.args.metadata.items c.in_ok-names.ensures.names).0 h))

pub returns-in_err-test_rows-clause-loads : goal.returns-in_err-test_rows-clause-loads
returns-in_err-test_rows-clause-loads c =
    let ids : ids_due c.args.layout c.args.contents.items c.args.rows.items ≡ None = ap (ids_due c.args.layout c.args.contents.items) (sym c.deref.ensures.value) ∙ c.in_ok-contents.ensures.tests in
    let p = err_from_is_err_and c.from_residual-in_err-test_rows.result c.from_residual-in_err-test_rows.ensures.1 in
    let a : c.in_ok-algorithm.algorithm ≡ algorithm_of c.args.metadata.items = c.in_ok-algorithm.ensures.algorithm c.args.metadata.items c.in_ok-names.ensures.names in
    rw (p.1, p.2) (λ h. due_tests c.args.layout c.args.patch_type c.args.metadata.items c.args.contents.items c.args.rows.items c.in_ok-algorithm.algorithm (rows_kept c.in_ok-contents.contents.items.items) _ a c.in_ok-contents.ensures.kept ids c.in_ok-names.ensures.tests (c.in_ok-algorithm.ensures.tests c.args.metadata.items c.in_ok-names.ensures.names) (ap (tests_due c.args.layout c.in_ok-algorithm.algorithm (rows_kept c.in_ok-contents.contents.items.items)) (sym c.deref-2.ensures.value) ∙ c.in_err-test_rows.ensures.0 h))

pub returns-in-Some-clause-loads : goal.returns-in-Some-clause-loads
returns-in-Some-clause-loads c =
    let ids : ids_due c.args.layout c.args.contents.items c.args.rows.items ≡ None = ap (ids_due c.args.layout c.args.contents.items) (sym c.deref.ensures.value) ∙ c.in_ok-contents.ensures.tests in
    let tests : tests_due c.args.layout c.in_ok-algorithm.algorithm (rows_kept c.in_ok-contents.contents.items.items) c.args.rows.items ≡ None = ap (tests_due c.args.layout c.in_ok-algorithm.algorithm (rows_kept c.in_ok-contents.contents.items.items)) (sym c.deref-2.ensures.value) ∙ c.in_ok-test_rows.ensures in
    let a : c.in_ok-algorithm.algorithm ≡ algorithm_of c.args.metadata.items = c.in_ok-algorithm.ensures.algorithm c.args.metadata.items c.in_ok-names.ensures.names in
    let passed : ArePassed c.args.layout c.args.patch_type c.args.metadata.items c.args.contents.items c.args.rows.items c.in_ok-algorithm.algorithm (rows_kept c.in_ok-contents.contents.items.items) c.in_ok-tiles.tiles.contents.items.items c.in_ok-tiles.tiles.contents.order.items c.in_ok-tiles.tiles.tiles.items c.in_ok-names.names.items.items = record {
      due = due_places c.args.layout c.args.patch_type c.args.metadata.items c.args.contents.items c.args.rows.items c.in_ok-algorithm.algorithm (rows_kept c.in_ok-contents.contents.items.items) a c.in_ok-contents.ensures.kept ids c.in_ok-names.ensures.tests (c.in_ok-algorithm.ensures.tests c.args.metadata.items c.in_ok-names.ensures.names) tests;
      same = c.in_ok-contents.ensures.kept;
      algorithm_is = a;
      tiles_are = c.in_ok-tiles.ensures.tiles;
      contents_are = c.in_ok-tiles.ensures.held;
      names_are = c.in_ok-names.ensures.names;
      contents_kept = c.in_ok-tiles.ensures.fresh;
      names_kept = c.in_ok-names.ensures.kept;
    } in
    set_due c.args.layout c.args.patch_type c.args.metadata.items c.args.contents.items c.args.rows.items c.in_ok-algorithm.algorithm (rows_kept c.in_ok-contents.contents.items.items) c.in_ok-tiles.tiles.contents.items.items c.in_ok-tiles.tiles.contents.order.items c.in_ok-tiles.tiles.tiles.items c.in_ok-names.names.items.items passed c.in-Some.ensures.apart c.in-Some.set c.in-Some.ensures.held

pub returns-in-None-clause-loads : goal.returns-in-None-clause-loads
returns-in-None-clause-loads c =
    let ids : ids_due c.args.layout c.args.contents.items c.args.rows.items ≡ None = ap (ids_due c.args.layout c.args.contents.items) (sym c.deref.ensures.value) ∙ c.in_ok-contents.ensures.tests in
    let tests : tests_due c.args.layout c.in_ok-algorithm.algorithm (rows_kept c.in_ok-contents.contents.items.items) c.args.rows.items ≡ None = ap (tests_due c.args.layout c.in_ok-algorithm.algorithm (rows_kept c.in_ok-contents.contents.items.items)) (sym c.deref-2.ensures.value) ∙ c.in_ok-test_rows.ensures in
    let a : c.in_ok-algorithm.algorithm ≡ algorithm_of c.args.metadata.items = c.in_ok-algorithm.ensures.algorithm c.args.metadata.items c.in_ok-names.ensures.names in
    let passed : ArePassed c.args.layout c.args.patch_type c.args.metadata.items c.args.contents.items c.args.rows.items c.in_ok-algorithm.algorithm (rows_kept c.in_ok-contents.contents.items.items) c.in_ok-tiles.tiles.contents.items.items c.in_ok-tiles.tiles.contents.order.items c.in_ok-tiles.tiles.tiles.items c.in_ok-names.names.items.items = record {
      due = due_places c.args.layout c.args.patch_type c.args.metadata.items c.args.contents.items c.args.rows.items c.in_ok-algorithm.algorithm (rows_kept c.in_ok-contents.contents.items.items) a c.in_ok-contents.ensures.kept ids c.in_ok-names.ensures.tests (c.in_ok-algorithm.ensures.tests c.args.metadata.items c.in_ok-names.ensures.names) tests;
      same = c.in_ok-contents.ensures.kept;
      algorithm_is = a;
      tiles_are = c.in_ok-tiles.ensures.tiles;
      contents_are = c.in_ok-tiles.ensures.held;
      names_are = c.in_ok-names.ensures.names;
      contents_kept = c.in_ok-tiles.ensures.fresh;
      names_kept = c.in_ok-names.ensures.kept;
    } in
    λ h. twice_due c.args.layout c.args.patch_type c.args.metadata.items c.args.contents.items c.args.rows.items c.in_ok-algorithm.algorithm (rows_kept c.in_ok-contents.contents.items.items) c.in_ok-tiles.tiles.contents.items.items c.in_ok-tiles.tiles.contents.order.items c.in_ok-tiles.tiles.tiles.items c.in_ok-names.names.items.items passed c.in-None.ensures.twice
