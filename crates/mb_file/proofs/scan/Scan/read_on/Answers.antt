use Rattle.std.proofs.Common.{rules}
use Rattle.std.specs.Prelude.{⊤}
use Rattle.mb_file.specs.Scan.{Goes}
use Rattle.mb_file.proofs.NotedLemmas.{still_after}
use Rattle.mb_file.proofs.ScanLemmas.{notes_then, scans_then}
use Rattle.mb_file.proofs.scan.Scan.read_on.Goals as goal

pub returns-then-is_none-2-clause-stands : goal.returns-then-is_none-2-clause-stands
returns-then-is_none-2-clause-stands g c =
    scans_then c.args.source.now.pages c.rows.source.pages c.next_row.new.source.pages c.args.of.now.root c.args.table c.args.of.now.columns c.rows.invariant.kept c.rows.invariant.pages
    c.args.self.now c.rows.self (λ all. ⊤) (λ Stands all. Stands c.next_row.new.self × Goes all c.rows.self.position c.next_row.new.self.position c.in_ok-next_row.field-0)
    (λ Stands all. Stands c.next_row.new.self) c.next_row.ensures.kept (λ trusted layout rows laid stored scan. (c.rows.invariant.stands trusted layout rows laid stored scan, tt)) c.in_ok-next_row.ensures.stands
    (λ Stands all _ h. h.0)

pub rows-preserved : goal.rows-preserved
rows-preserved g c = record {
  kind = search rules;
  secret = search rules;
  still = still_after c.args.self.now c.rows.self c.next_row.new.self c.rows.invariant.still c.next_row.ensures.still;
  notes =
      notes_then c.args.source.now.pages c.rows.source.pages c.next_row.new.source.pages c.args.of.now.root c.args.table c.args.of.now.columns c.rows.invariant.kept c.rows.invariant.pages
      c.args.source.now.secret c.rows.source.secret c.rows.invariant.secret c.args.self.now c.rows.self c.next_row.new.self (λ all. ⊤) c.next_row.ensures.kept (λ trusted layout rows laid stored scan. (c.rows.invariant.stands trusted layout rows laid stored scan, tt)) c.rows.invariant.notes c.next_row.ensures.notes;
  pages = search rules;
  kept = search rules;
  stands =
      scans_then c.args.source.now.pages c.rows.source.pages c.next_row.new.source.pages c.args.of.now.root c.args.table c.args.of.now.columns c.rows.invariant.kept c.rows.invariant.pages
      c.args.self.now c.rows.self (λ all. ⊤) (λ Stands all. Stands c.next_row.new.self × Goes all c.rows.self.position c.next_row.new.self.position c.in_ok-next_row.field-0)
      (λ Stands all. Stands c.next_row.new.self) c.next_row.ensures.kept (λ trusted layout rows laid stored scan. (c.rows.invariant.stands trusted layout rows laid stored scan, tt)) c.in_ok-next_row.ensures.stands
      (λ Stands all _ h. h.0);
}

pub returns-in_err-next_row-clause-notes : goal.returns-in_err-next_row-clause-notes
returns-in_err-next_row-clause-notes g c =
    notes_then c.args.source.now.pages c.rows.source.pages c.next_row.new.source.pages c.args.of.now.root c.args.table c.args.of.now.columns c.rows.invariant.kept c.rows.invariant.pages
    c.args.source.now.secret c.rows.source.secret c.rows.invariant.secret c.args.self.now c.rows.self c.next_row.new.self (λ all. ⊤) c.next_row.ensures.kept (λ trusted layout rows laid stored scan. (c.rows.invariant.stands trusted layout rows laid stored scan, tt)) c.rows.invariant.notes c.next_row.ensures.notes

pub returns-then-is_none-2-clause-notes : goal.returns-then-is_none-2-clause-notes
returns-then-is_none-2-clause-notes g c =
    notes_then c.args.source.now.pages c.rows.source.pages c.next_row.new.source.pages c.args.of.now.root c.args.table c.args.of.now.columns c.rows.invariant.kept c.rows.invariant.pages
    c.args.source.now.secret c.rows.source.secret c.rows.invariant.secret c.args.self.now c.rows.self c.next_row.new.self (λ all. ⊤) c.next_row.ensures.kept (λ trusted layout rows laid stored scan. (c.rows.invariant.stands trusted layout rows laid stored scan, tt)) c.rows.invariant.notes c.next_row.ensures.notes

pub returns-in_err-next_row-clause-still : goal.returns-in_err-next_row-clause-still
returns-in_err-next_row-clause-still g c =
    still_after c.args.self.now c.rows.self c.next_row.new.self c.rows.invariant.still c.next_row.ensures.still

pub returns-then-is_none-2-clause-still : goal.returns-then-is_none-2-clause-still
returns-then-is_none-2-clause-still g c =
    still_after c.args.self.now c.rows.self c.next_row.new.self c.rows.invariant.still c.next_row.ensures.still
