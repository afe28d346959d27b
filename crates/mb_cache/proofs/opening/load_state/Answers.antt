use Rattle.mb_cache.proofs.Common.{ap, Cache, described_answer, err_from_is_err_and, made, Metadata, no_fault, Ok, refl, StoreFault, sym, Tables, tile_kind_wrong, TileCache, [], ◌∙◌, ◌≡◌}
use Rattle.mb_store.proofs.FaultLemmas.{unasked}
use Rattle.mb_cache.proofs.OpenLemmas.{described_refused, rows_refused}
use Rattle.mb_cache.proofs.OwnLemmas.{described_no_fault, due_agrees, due_rows, no_tables, opens_err, opens_store, own_described, own_kind}
use Rattle.mb_cache.proofs.RowOrder.{kinds_first}
use Rattle.mb_cache.proofs.opening.load_state.Goals as goal

pub returns-in_err-tables-clause-own : goal.returns-in_err-tables-clause-own
returns-in_err-tables-clause-own g c =
    let p = err_from_is_err_and c.from_residual.result c.from_residual.ensures.1 in
    (no_tables, opens_store _ p.0 _ p.1 p.2 no_tables)

pub returns-in_err-test_described-clause-own : goal.returns-in_err-test_described-clause-own
returns-in_err-test_described-clause-own g c =
    let p = err_from_is_err_and c.from_residual-in_err-test_described.result c.from_residual-in_err-test_described.ensures.1 in
    own_described c.deref.result.now _ p.0 _ p.1 p.2 (sym c.in_err-test_described.ensures)

pub returns-in_err-test_described-clause-answer : goal.returns-in_err-test_described-clause-answer
returns-in_err-test_described-clause-answer g c t layout =
    let p = err_from_is_err_and c.from_residual-in_err-test_described.result c.from_residual-in_err-test_described.ensures.1 in
    let told = g.S.TileStore.told c.args.store.now in
    opens_err _ p.0 _ p.1 p.2 told (λ free. described_refused told layout _ (ap described_answer (sym (c.deref.ensures.value ∙ c.in_ok-tables.ensures.answer t)) ∙ sym c.in_err-test_described.ensures))

pub returns-in_err-test_described-clause-fault : goal.returns-in_err-test_described-clause-fault
returns-in_err-test_described-clause-fault g c =
    let p = err_from_is_err_and c.from_residual-in_err-test_described.result c.from_residual-in_err-test_described.ensures.1 in
    unasked g.S.TileStore.faults c.args.store.now c.args.store.now c.describe.new.self c.from_residual-in_err-test_described.result StoreFault c.in_ok-tables.ensures.fault.still
    (λ h. no_fault c.from_residual-in_err-test_described.result p.0 _ p.1 p.2 (described_no_fault c.deref.result.now _ (sym c.in_err-test_described.ensures)) h)

pub returns-in_err-seen-clause-own : goal.returns-in_err-seen-clause-own
returns-in_err-seen-clause-own g c =
    let p = err_from_is_err_and c.from_residual-in_err-seen.result c.from_residual-in_err-seen.ensures.1 in
    own_kind c.deref.result.now _ p.0 _ p.1 p.2 (sym c.in_ok-test_described.ensures) c.in_err-seen.ensures.kind

pub returns-in_err-seen-clause-answer : goal.returns-in_err-seen-clause-answer
returns-in_err-seen-clause-answer g c t layout =
    let p = err_from_is_err_and c.from_residual-in_err-seen.result c.from_residual-in_err-seen.ensures.1 in
    let told = g.S.TileStore.told c.args.store.now in
    let kept = c.in_ok-tables.ensures.kept in
    let described : described_answer told.descriptions ≡ Ok tt = ap described_answer (sym (c.deref.ensures.value ∙ c.in_ok-tables.ensures.answer t)) ∙ sym c.in_ok-test_described.ensures in
    opens_err _ p.0 _ p.1 p.2 told (λ free. rows_refused told described _ (kinds_first (told.rows Metadata) (told.rows TileCache) _ (ap (λ (x : Tables). tile_kind_wrong Cache (x.rows TileCache)) (sym kept.told) ∙ c.in_err-seen.ensures.refused (kept.tells ∙ t) free)))

pub returns-in_err-metadata-clause-own : goal.returns-in_err-metadata-clause-own
returns-in_err-metadata-clause-own g c =
    let p = err_from_is_err_and c.from_residual-in_err-metadata.result c.from_residual-in_err-metadata.ensures.1 in
    (no_tables, opens_store _ p.0 _ p.1 p.2 no_tables)

pub returns-in_err-entries-clause-own : goal.returns-in_err-entries-clause-own
returns-in_err-entries-clause-own g c =
    let p = err_from_is_err_and c.from_residual-in_err-entries.result c.from_residual-in_err-entries.ensures.1 in
    let seen = c.in_ok-seen.ensures.own in
    let t = made c.deref.result.now Cache c.in_ok-metadata.metadata.items [] seen.0 in
    (t, opens_err _ p.0 _ p.1 p.2 t (λ free. due_rows t c.in_ok-metadata.metadata.items seen.0 (sym c.in_ok-test_described.ensures) refl refl _ ((c.in_err-entries.ensures.tests seen.0 seen.1).0 free)))

pub returns-in_err-entries-clause-answer : goal.returns-in_err-entries-clause-answer
returns-in_err-entries-clause-answer g c t layout =
    let p = err_from_is_err_and c.from_residual-in_err-entries.result c.from_residual-in_err-entries.ensures.1 in
    let told = g.S.TileStore.told c.args.store.now in
    let first = c.in_ok-tables.ensures.kept in
    let next = c.in_ok-seen.ensures.kept in
    let described : described_answer told.descriptions ≡ Ok tt = ap described_answer (sym (c.deref.ensures.value ∙ c.in_ok-tables.ensures.answer t)) ∙ sym c.in_ok-test_described.ensures in
    let rows = (g.S.TileStore.told c.describe.new.self).rows TileCache in
    opens_err _ p.0 _ p.1 p.2 told (λ free. due_rows told c.in_ok-metadata.metadata.items rows described
    (c.in_ok-metadata.ensures.answer (next.tells ∙ (first.tells ∙ t)) ∙ ap (λ (x : Tables). x.rows Metadata) (next.told ∙ first.told)) (ap (λ (x : Tables). x.rows TileCache) first.told) _
    ((c.in_err-entries.ensures.tests rows (c.in_ok-seen.ensures.seen (first.tells ∙ t))).0 free))

pub returns-in_err-entries-clause-fault : goal.returns-in_err-entries-clause-fault
returns-in_err-entries-clause-fault g c =
    let p = err_from_is_err_and c.from_residual-in_err-entries.result c.from_residual-in_err-entries.ensures.1 in
    let seen = c.in_ok-seen.ensures.own in
    unasked g.S.TileStore.faults c.args.store.now c.args.store.now c.read_metadata.new.store c.from_residual-in_err-entries.result StoreFault
    (c.in_ok-metadata.ensures.fault.still ∙ (c.in_ok-seen.ensures.fault.still ∙ c.in_ok-tables.ensures.fault.still))
    (λ h. no_fault c.from_residual-in_err-entries.result p.0 _ p.1 p.2 (c.in_err-entries.ensures.tests seen.0 seen.1).1 h)

pub returns-clause-own : goal.returns-clause-own
returns-clause-own g c =
    let seen = c.in_ok-seen.ensures.own in
    let t = made c.deref.result.now Cache c.in_ok-metadata.metadata.items [] seen.0 in
    (t, due_agrees t c.in_ok-metadata.metadata.items seen.0 (sym c.in_ok-test_described.ensures) refl refl c.in_ok-entries.entries.keys (c.in_ok-entries.ensures.tests seen.0 seen.1) (c.in_ok-entries.ensures.entries seen.0 seen.1))

pub returns-clause-answer : goal.returns-clause-answer
returns-clause-answer g c t layout =
    let told = g.S.TileStore.told c.args.store.now in
    let first = c.in_ok-tables.ensures.kept in
    let next = c.in_ok-seen.ensures.kept in
    let described : described_answer told.descriptions ≡ Ok tt = ap described_answer (sym (c.deref.ensures.value ∙ c.in_ok-tables.ensures.answer t)) ∙ sym c.in_ok-test_described.ensures in
    let rows = (g.S.TileStore.told c.describe.new.self).rows TileCache in
    let sees = c.in_ok-seen.ensures.seen (first.tells ∙ t) in
    due_agrees told c.in_ok-metadata.metadata.items rows described
    (c.in_ok-metadata.ensures.answer (next.tells ∙ (first.tells ∙ t)) ∙ ap (λ (x : Tables). x.rows Metadata) (next.told ∙ first.told)) (ap (λ (x : Tables). x.rows TileCache) first.told)
    c.in_ok-entries.entries.keys (c.in_ok-entries.ensures.tests rows sees) (c.in_ok-entries.ensures.entries rows sees)
