use Rattle.std.proofs.Common.{ap, append_assoc, arith, drop, IfSome, length, length-append, List, Option, rules, subst, sym, take, [], ◌++◌, ◌+◌, ◌∙◌, ◌∷◌, ◌≡◌}
use Rattle.std.specs.Prelude.{All}
use Rattle.std.proofs.lemmas.List.Elements.{All-push}
use Rattle.mb_tables.specs.Table.{width}
use Rattle.mb_tables.specs.declared.cell.Cell.{Cell}
use Rattle.mb_file.specs.Scan.{Goes}
use Rattle.mb_file.proofs.NotedLemmas.{still_after}
use Rattle.mb_file.proofs.ScanLemmas.{all_gathered, ends_gathered, notes_then, scans_then}
use Rattle.mb_file.proofs.scan.Scan.gather.Goals as goal

pub rows-preserved : goal.rows-preserved
rows-preserved g c =
    let rows : List (List Cell) = c.rows.rows.items in
    let row : List Cell = c.in-Some.row in
    let pushed : c.push.new.self.items ≡ rows ++ row ∷ [] = c.in_ok-push.ensures.items in
    let long : length c.push.new.self.items ≡ length rows + 1 = ap length pushed ∙ length-append rows (row ∷ []) in
    let wide : length row ≡ width c.args.table = subst (λ (o : Option (List Cell)). IfSome o (λ r. length r ≡ width c.args.table)) c.in-Some.is c.in_ok-row.ensures.wide in
    record {
      count = omega (arith, long, c.rows.invariant.count);
      kind = search rules;
      secret = search rules;
      still = still_after c.args.self.now c.rows.self c.next_row.new.self c.rows.invariant.still c.next_row.ensures.still;
      notes =
          notes_then c.args.source.now.pages c.rows.source.pages c.next_row.new.source.pages c.args.of.now.root c.args.table c.args.of.now.columns c.rows.invariant.kept c.rows.invariant.pages
          c.args.source.now.secret c.rows.source.secret c.rows.invariant.secret c.args.self.now c.rows.self c.next_row.new.self (λ all. drop c.args.self.now.position all ≡ c.rows.rows.items ++ drop c.rows.self.position all) c.next_row.ensures.kept c.rows.invariant.stands c.rows.invariant.notes c.next_row.ensures.notes;
      pages = search rules;
      kept = search rules;
      stands =
          scans_then c.args.source.now.pages c.rows.source.pages c.next_row.new.source.pages c.args.of.now.root c.args.table c.args.of.now.columns c.rows.invariant.kept c.rows.invariant.pages
          c.args.self.now c.rows.self (λ all. drop c.args.self.now.position all ≡ rows ++ drop c.rows.self.position all)
          (λ Stands all. Stands c.next_row.new.self × Goes all c.rows.self.position c.next_row.new.self.position c.in_ok-row.field-0)
          (λ Stands all. Stands c.next_row.new.self × (drop c.args.self.now.position all ≡ c.push.new.self.items ++ drop c.next_row.new.self.position all)) c.next_row.ensures.kept c.rows.invariant.stands c.in_ok-row.ensures.stands
          (λ Stands all parts h.
          let goes = subst (λ (o : Option (List Cell)). Goes all c.rows.self.position c.next_row.new.self.position o) c.in-Some.is h.1 in
          (h.0, parts ∙ ap (λ ys. rows ++ ys) goes.0 ∙ sym (append_assoc rows (row ∷ []) _) ∙ ap (λ (xs : List (List Cell)). xs ++ drop c.next_row.new.self.position all) (sym pushed)));
      limit = omega (arith, long, c.if-len-limit.false, c.len.ensures);
      widths = subst (λ (rs : List (List Cell)). All (λ row. length row ≡ width c.args.table) rs) (sym pushed) (All-push (λ row. length row ≡ width c.args.table) rows row c.rows.invariant.widths wide);
    }

pub returns-then-len-limit-clause-stands : goal.returns-then-len-limit-clause-stands
returns-then-len-limit-clause-stands g c = λ trusted layout rows laid stored scan.
    let stand = c.rows.invariant.stands trusted layout rows laid stored scan in
    (stand.0, all_gathered c.args.limit c.rows.rows.items _ _ stand.1 (omega (arith, c.rows.invariant.limit, c.len.ensures, c.if-len-limit.true)))

pub returns-in_default-clause-stands : goal.returns-in_default-clause-stands
returns-in_default-clause-stands g c =
    scans_then c.args.source.now.pages c.rows.source.pages c.next_row.new.source.pages c.args.of.now.root c.args.table c.args.of.now.columns c.rows.invariant.kept c.rows.invariant.pages
    c.args.self.now c.rows.self (λ all. drop c.args.self.now.position all ≡ c.rows.rows.items ++ drop c.rows.self.position all)
    (λ Stands all. Stands c.next_row.new.self × Goes all c.rows.self.position c.next_row.new.self.position c.in_ok-row.field-0)
    (λ Stands all. Stands c.next_row.new.self × (c.rows.rows.items ≡ take c.args.limit (drop c.args.self.now.position all))) c.next_row.ensures.kept c.rows.invariant.stands c.in_ok-row.ensures.stands
    (λ Stands all parts h.
    let goes = subst (λ (o : Option (List Cell)). Goes all c.rows.self.position c.next_row.new.self.position o) c.in_default.is h.1 in
    (h.0, ends_gathered c.args.limit c.rows.rows.items _ _ parts goes.0 c.rows.invariant.limit))

pub returns-in_err-row-clause-notes : goal.returns-in_err-row-clause-notes
returns-in_err-row-clause-notes g c =
    notes_then c.args.source.now.pages c.rows.source.pages c.next_row.new.source.pages c.args.of.now.root c.args.table c.args.of.now.columns c.rows.invariant.kept c.rows.invariant.pages
    c.args.source.now.secret c.rows.source.secret c.rows.invariant.secret c.args.self.now c.rows.self c.next_row.new.self (λ all. drop c.args.self.now.position all ≡ c.rows.rows.items ++ drop c.rows.self.position all) c.next_row.ensures.kept c.rows.invariant.stands c.rows.invariant.notes c.next_row.ensures.notes

pub returns-in_default-clause-notes : goal.returns-in_default-clause-notes
returns-in_default-clause-notes g c =
    notes_then c.args.source.now.pages c.rows.source.pages c.next_row.new.source.pages c.args.of.now.root c.args.table c.args.of.now.columns c.rows.invariant.kept c.rows.invariant.pages
    c.args.source.now.secret c.rows.source.secret c.rows.invariant.secret c.args.self.now c.rows.self c.next_row.new.self (λ all. drop c.args.self.now.position all ≡ c.rows.rows.items ++ drop c.rows.self.position all) c.next_row.ensures.kept c.rows.invariant.stands c.rows.invariant.notes c.next_row.ensures.notes

pub returns-in_err-push-clause-notes : goal.returns-in_err-push-clause-notes
returns-in_err-push-clause-notes g c =
    notes_then c.args.source.now.pages c.rows.source.pages c.next_row.new.source.pages c.args.of.now.root c.args.table c.args.of.now.columns c.rows.invariant.kept c.rows.invariant.pages
    c.args.source.now.secret c.rows.source.secret c.rows.invariant.secret c.args.self.now c.rows.self c.next_row.new.self (λ all. drop c.args.self.now.position all ≡ c.rows.rows.items ++ drop c.rows.self.position all) c.next_row.ensures.kept c.rows.invariant.stands c.rows.invariant.notes c.next_row.ensures.notes

pub returns-in_err-row-clause-still : goal.returns-in_err-row-clause-still
returns-in_err-row-clause-still g c =
    still_after c.args.self.now c.rows.self c.next_row.new.self c.rows.invariant.still c.next_row.ensures.still

pub returns-in_default-clause-still : goal.returns-in_default-clause-still
returns-in_default-clause-still g c =
    still_after c.args.self.now c.rows.self c.next_row.new.self c.rows.invariant.still c.next_row.ensures.still

pub returns-in_err-push-clause-still : goal.returns-in_err-push-clause-still
returns-in_err-push-clause-still g c =
    still_after c.args.self.now c.rows.self c.next_row.new.self c.rows.invariant.still c.next_row.ensures.still
