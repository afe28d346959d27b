use Rattle.mb_sqlite.proofs.Common.{AllZip, ap, arith, Cell, IsReadAs, length, length-append, List, subst, sym, take, [], ◌++◌, ◌+◌, ◌∙◌, ◌∷◌, ◌≡◌}
use Rattle.sqlite_value.specs.declared.value.Value.TheVariants as sql
use Rattle.mb_sqlite.proofs.ReadingLemmas.{AllZip-next}
use Rattle.mb_sqlite.proofs.rows.row_of.Goals as goal

pub loop-at-preserved : goal.loop-at-preserved
loop-at-preserved c =
    let cells : List Cell = c.loop-at.cells.items in
    let pushed : c.push.new.self.items ≡ cells ++ c.in_ok-cell_of.field-0 ∷ [] = c.in_ok-push.ensures.items in
    let long : length c.push.new.self.items ≡ length cells + 1 = ap length pushed ∙ length-append cells (c.in_ok-cell_of.field-0 ∷ []) in (
      omega (arith, long, c.loop-at.invariant.0),
      subst (λ (cs : List Cell). AllZip IsReadAs (take (c.loop-at.at + 1) c.args.row.now) cs) (sym pushed)
          (AllZip-next IsReadAs c.args.row.now cells c.loop-at.at c.in_ok-cell_of.field-0 sql.Null c.in_ok-value.ensures.ok.0 c.loop-at.invariant.1 (subst (λ v. IsReadAs v c.in_ok-cell_of.field-0) c.in_ok-value.ensures.ok.1 c.in_ok-cell_of.ensures)),
    )
