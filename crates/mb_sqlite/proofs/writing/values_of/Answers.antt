use Rattle.mb_sqlite.proofs.Common.{AllZip, ap, bound, bound_value, IsWrittenAs, map-append, owned, Row, subst, sym, take, [], ◌++◌, ◌+◌, ◌∙◌, ◌∷◌, ◌≡◌}
use Rattle.mb_sqlite.proofs.ReadingLemmas.{AllZip-next}
use Rattle.mb_sqlite.proofs.WritingLemmas.{written_bound}
use Rattle.mb_sqlite.proofs.writing.values_of.Goals as goal

pub loop-cell-preserved : goal.loop-cell-preserved
loop-cell-preserved c =
    let value = bound_value (owned c.in-Some.value) in
    let pushed : bound c.push.new.self.items ≡ bound c.loop-cell.values.items ++ value ∷ [] = ap bound c.in_ok-push.ensures.items ∙ map-append (λ v. bound_value (owned v)) c.loop-cell.values.items (c.in-Some.value ∷ []) in
    subst (λ (vs : Row). AllZip IsWrittenAs (take (c.loop-cell.cell-index + 1) c.args.cells.now) vs) (sym pushed)
    (AllZip-next IsWrittenAs c.args.cells.now (bound c.loop-cell.values.items) c.loop-cell.cell-index value c.cell-item.result c.loop-cell-test.true c.loop-cell.invariant
    (subst (λ cell. IsWrittenAs cell value) c.cell-item.is (written_bound c.cell-item.result (owned c.in-Some.value) c.in-Some.ensures.value)))
