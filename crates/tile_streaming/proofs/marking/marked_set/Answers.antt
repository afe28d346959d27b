use Rattle.tile_streaming.proofs.Common.{ap, err_from_is_err_and, is_free, Some, store_free, sym, Tables, tile_table, ◌∙◌}
use Rattle.mb_load.proofs.StateLemmas.{no_fault}
use Rattle.mb_store.proofs.FaultLemmas.{unasked}
use Rattle.tile_streaming.proofs.KnownLemmas.{present_of}
use Rattle.tile_streaming.proofs.MarkedLemmas.{free_from, never_faulted, twice_from}
use Rattle.tile_streaming.proofs.TableLemmas.{contents_moved}
use Rattle.tile_streaming.proofs.marking.marked_set.Goals as goal

pub in_order-requires : goal.in_order-requires
in_order-requires g c =
    let h = c.in_ok-seen.ensures.seen in
    present_of c.in_ok-seen.seen.items.items h.contents h.sees.items

pub returns-in_err-metadata-clause-marked : goal.returns-in_err-metadata-clause-marked
returns-in_err-metadata-clause-marked g c =
    let p = err_from_is_err_and c.from_residual.result c.from_residual.ensures.1 in
    free_from c.args.layout _ _ c.from_residual.result p.0 p.1 (ap is_free p.2 ∙ store_free _)

pub returns-in_err-seen-clause-marked : goal.returns-in_err-seen-clause-marked
returns-in_err-seen-clause-marked g c =
    let p = err_from_is_err_and c.from_residual-in_err-seen.result c.from_residual-in_err-seen.ensures.1 in
    free_from c.args.layout _ _ c.from_residual-in_err-seen.result p.0 p.1 (ap is_free p.2 ∙ c.in_err-seen.ensures.free)

pub returns-in_err-findings-clause-marked : goal.returns-in_err-findings-clause-marked
returns-in_err-findings-clause-marked g c =
    let p = err_from_is_err_and c.from_residual-in_err-findings.result c.from_residual-in_err-findings.ensures.1 in
    let h = c.in_ok-seen.ensures.seen in
    let kept = c.in_ok-metadata.ensures.kept in
    let tests = c.in_err-findings.ensures.tests c.args.layout c.algorithm_or-algorithm.result h.contents h.sees in
    twice_from c.args.layout _ _ h.contents c.from_residual-in_err-findings.result p.0 (contents_moved c.args.layout _ _ _ _ h.contents kept.tells kept.told h.are) p.1 (λ free. tests.0 (ap is_free (sym p.2) ∙ free) ∙ ap Some (sym p.2))

pub returns-in_err-findings-clause-fault : goal.returns-in_err-findings-clause-fault
returns-in_err-findings-clause-fault g c =
    let p = err_from_is_err_and c.from_residual-in_err-findings.result c.from_residual-in_err-findings.ensures.1 in
    let h = c.in_ok-seen.ensures.seen in
    unasked _ _ c.args.store.now _ _ _ (c.in_ok-seen.ensures.fault.still ∙ c.in_ok-metadata.ensures.fault.still)
    (λ fault. no_fault c.from_residual-in_err-findings.result p.0 _ p.1 p.2 (c.in_err-findings.ensures.tests c.args.layout c.algorithm_or-algorithm.result h.contents h.sees).1 fault)

pub returns-in_err-rows-clause-marked : goal.returns-in_err-rows-clause-marked
returns-in_err-rows-clause-marked g c =
    let p = err_from_is_err_and c.from_residual-in_err-rows.result c.from_residual-in_err-rows.ensures.1 in
    free_from c.args.layout _ _ c.from_residual-in_err-rows.result p.0 p.1 (ap is_free p.2 ∙ c.in_err-rows.ensures.free)

pub returns-clause-marked : goal.returns-clause-marked
returns-clause-marked g c =
    let layout = c.args.layout in
    let a = c.algorithm_or-algorithm.result in
    let h = c.in_ok-seen.ensures.seen in
    let first = c.in_ok-metadata.ensures.kept in
    let second = c.in_ok-seen.ensures.kept in
    let s = c.in_ok-rows.ensures.seen h.contents (c.in_ok-findings.ensures.known layout a h.contents h.sees) (c.in_ok-findings.ensures.findings layout a h.contents h.sees) in
    record {
      metadata = c.in_ok-metadata.metadata.items;
      contents = h.contents;
      rows = s.rows;
      contents_are = contents_moved layout _ _ _ _ h.contents first.tells first.told h.are;
      names_told = c.in_ok-metadata.ensures.answer;
      rows_told = λ t. s.are_told (second.tells ∙ (first.tells ∙ t)) ∙ ap (λ (x : Tables). x.rows (tile_table layout)) (second.told ∙ first.told);
      due = c.settle.ensures.marked c.in_ok-metadata.metadata.items h.contents s.rows a (c.in_ok-findings.ensures.tests layout a h.contents h.sees) s.sees c.named_in-named.ensures.tests c.named_in-named.ensures.named c.algorithm_or-algorithm.ensures;
    }

pub returns-clause-fault : goal.returns-clause-fault
returns-clause-fault g c =
    let layout = c.args.layout in
    let a = c.algorithm_or-algorithm.result in
    let h = c.in_ok-seen.ensures.seen in
    let s = c.in_ok-rows.ensures.seen h.contents (c.in_ok-findings.ensures.known layout a h.contents h.sees) (c.in_ok-findings.ensures.findings layout a h.contents h.sees) in
    unasked _ _ c.args.store.now _ _ _ (c.in_ok-rows.ensures.fault.still ∙ c.in_ok-seen.ensures.fault.still ∙ c.in_ok-metadata.ensures.fault.still)
    (λ fault. never_faulted c.settle.result (c.settle.ensures.unfaulted c.in_ok-metadata.metadata.items h.contents s.rows a s.sees c.named_in-named.ensures.tests) fault)
