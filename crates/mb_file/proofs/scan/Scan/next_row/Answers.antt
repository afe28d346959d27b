use Rattle.std.proofs.Common.{ap, List, Option, refl, rules, subst, sym, ℕ, ◌∙◌, ◌≡◌, ℤ}
use Rattle.mb_tables.specs.declared.cell.Cell.{Cell}
use Rattle.mb_file.specs.Course.{row_in}
use Rattle.mb_file.specs.FilePages.{GoesOn, IsTrusted}
use Rattle.mb_file.specs.Noted.{Notes}
use Rattle.mb_file.specs.Scan.{behind, is_unseen}
use Rattle.mb_file.specs.SetTable.{set_row}
use Rattle.mb_file.proofs.NotedLemmas.{still_after, still_ended}
use Rattle.mb_file.proofs.ScanLemmas.{ends_scan, leaves_row, notes_all, notes_row, notes_same, Steps, takes_row}
use Rattle.mb_file.specs.declared.scan.Scan.{Scan}
use Rattle.mb_file.proofs.scan.Scan.next_row.Goals as goal

pub returns-in_err-advance-clause-notes : goal.returns-in_err-advance-clause-notes
returns-in_err-advance-clause-notes g c =
    notes_same c.args.source.now.pages c.rows.source.pages c.advance.new.pages c.args.of.now.root c.args.table c.args.of.now.columns c.rows.invariant.kept c.rows.invariant.pages
    c.args.self.now c.rows.self (record c.rows.self { course = c.advance.new.self }) c.advance.new.self c.advance.ensures.kept c.rows.invariant.stands c.args.source.now.secret c.rows.invariant.notes
    (record { numbers = refl; count = refl; size = refl; unseen = refl })

pub returns-in_err-end-clause-notes : goal.returns-in_err-end-clause-notes
returns-in_err-end-clause-notes g c =
    let same = c.in_err-end.ensures.failed in
    notes_same c.args.source.now.pages c.rows.source.pages c.advance.new.pages c.args.of.now.root c.args.table c.args.of.now.columns c.rows.invariant.kept c.rows.invariant.pages
    c.args.self.now c.rows.self c.end.new.self c.advance.new.self c.advance.ensures.kept c.rows.invariant.stands c.args.source.now.secret c.rows.invariant.notes
    (record { numbers = ap (λ (s : Scan). s.numbered.items) same; count = ap (λ (s : Scan). s.count) same; size = ap (λ (s : Scan). s.size) same; unseen = ap (λ (s : Scan). s.unseen) same })

pub returns-in_err-row-clause-notes : goal.returns-in_err-row-clause-notes
returns-in_err-row-clause-notes g c =
    let goes = subst (λ p. GoesOn c.rows.source.pages p) (sym c.take.ensures.pages) c.advance.ensures.kept in
    let same = c.in_err-row.ensures.failed in
    notes_same c.args.source.now.pages c.rows.source.pages c.take.new.source.pages c.args.of.now.root c.args.table c.args.of.now.columns c.rows.invariant.kept c.rows.invariant.pages
    c.args.self.now c.rows.self c.take.new.self c.advance.new.self goes c.rows.invariant.stands c.args.source.now.secret c.rows.invariant.notes
    (record { numbers = same.numbers; count = same.count; size = same.size; unseen = same.unseen })

pub returns-then-not-branch-clause-stands : goal.returns-then-not-branch-clause-stands
returns-then-not-branch-clause-stands g c =
    let ended = c.in_ok-end.ensures.ended in
    let steps = subst (Steps c.args.source.now.pages c.rows.source.pages c.advance.new.pages c.args.of.now.root c.args.table c.args.of.now.columns c.rows.invariant.kept c.rows.invariant.pages
    c.args.self.now c.rows.self c.end.new.self c.advance.new.self c.advance.ensures.kept c.rows.invariant.stands) c.if-not-branch.true c.in_ok-advance.ensures.taken in
    ends_scan c.args.source.now.pages c.rows.source.pages c.advance.new.pages c.args.of.now.root c.args.table c.args.of.now.columns c.rows.invariant.kept c.rows.invariant.pages
    c.args.self.now c.rows.self c.end.new.self c.advance.new.self c.advance.ensures.kept c.rows.invariant.stands steps (ap (λ (s : Scan). s.course) ended) (ap (λ (s : Scan). s.position) ended) (ap (λ (s : Scan). s.unseen) ended)

pub returns-then-not-branch-clause-notes : goal.returns-then-not-branch-clause-notes
returns-then-not-branch-clause-notes g c =
    let ended = c.in_ok-end.ensures.ended in
    let steps = subst (Steps c.args.source.now.pages c.rows.source.pages c.advance.new.pages c.args.of.now.root c.args.table c.args.of.now.columns c.rows.invariant.kept c.rows.invariant.pages
    c.args.self.now c.rows.self c.end.new.self c.advance.new.self c.advance.ensures.kept c.rows.invariant.stands) c.if-not-branch.true c.in_ok-advance.ensures.taken in
    notes_all c.args.source.now.pages c.rows.source.pages c.advance.new.pages c.args.of.now.root c.args.table c.args.of.now.columns c.rows.invariant.kept c.rows.invariant.pages
    c.args.self.now c.rows.self c.end.new.self c.advance.new.self c.advance.ensures.kept c.rows.invariant.stands c.args.source.now.secret c.rows.invariant.notes steps
    (ap (λ (s : Scan). s.unseen) ended) (ap (λ (s : Scan). s.numbered.items) ended) (ap (λ (s : Scan). s.count) ended) (ap (λ (s : Scan). s.size) ended)

pub returns-in-Some-clause-stands : goal.returns-in-Some-clause-stands
returns-in-Some-clause-stands g c =
    let goes = subst (λ p. GoesOn c.rows.source.pages p) (sym c.take.ensures.pages) c.advance.ensures.kept in
    let steps = subst (Steps c.args.source.now.pages c.rows.source.pages c.take.new.source.pages c.args.of.now.root c.args.table c.args.of.now.columns c.rows.invariant.kept c.rows.invariant.pages
    c.args.self.now c.rows.self c.take.new.self c.advance.new.self goes c.rows.invariant.stands) c.if-not-branch.false (λ trusted. c.in_ok-advance.ensures.taken (subst (λ p. IsTrusted p) c.take.ensures.pages trusted)) in
    takes_row c.args.source.now.pages c.rows.source.pages c.take.new.source.pages c.args.of.now.root c.args.table c.args.of.now.columns c.rows.invariant.kept c.rows.invariant.pages
    c.args.self.now c.rows.self c.take.new.self c.advance.new.self goes c.rows.invariant.stands steps c.take.ensures.course c.in_ok-row.ensures.unseen c.in-Some.row
    (sym c.in-Some.is ∙ c.in_ok-row.ensures.row) (subst (λ (o : Option (List Cell)). c.take.new.self.position ≡ behind c.rows.self.position o) c.in-Some.is c.in_ok-row.ensures.place)

pub returns-in-Some-clause-notes : goal.returns-in-Some-clause-notes
returns-in-Some-clause-notes g c =
    let goes = subst (λ p. GoesOn c.rows.source.pages p) (sym c.take.ensures.pages) c.advance.ensures.kept in
    let steps = subst (Steps c.args.source.now.pages c.rows.source.pages c.take.new.source.pages c.args.of.now.root c.args.table c.args.of.now.columns c.rows.invariant.kept c.rows.invariant.pages
    c.args.self.now c.rows.self c.take.new.self c.advance.new.self goes c.rows.invariant.stands) c.if-not-branch.false (λ trusted. c.in_ok-advance.ensures.taken (subst (λ p. IsTrusted p) c.take.ensures.pages trusted)) in
    notes_row c.args.source.now.pages c.rows.source.pages c.take.new.source.pages c.args.of.now.root c.args.table c.args.of.now.columns c.rows.invariant.kept c.rows.invariant.pages
    c.args.self.now c.rows.self c.take.new.self c.advance.new.self goes c.rows.invariant.stands c.args.source.now.secret c.rows.invariant.notes steps c.in_ok-row.ensures.unseen
    (λ unseen rowids.
    let one = c.in_ok-row.ensures.notes unseen rowids in
    let own : Notes c.rows.source.secret (row_in c.advance.new.self).0 (set_row c.args.table c.args.of.now.columns (row_in c.advance.new.self)) c.rows.self c.take.new.self =
    record { numbers = one.numbers; count = one.count; size = one.size } in
    subst (λ (secret : ℕ). Notes secret (row_in c.advance.new.self).0 (set_row c.args.table c.args.of.now.columns (row_in c.advance.new.self)) c.rows.self c.take.new.self) c.rows.invariant.secret own)
    (λ seen. let same = c.take.ensures.same seen in record { numbers = same.numbers; count = same.count; size = same.size; unseen = same.unseen })

pub rows-preserved : goal.rows-preserved
rows-preserved g c =
    let goes = subst (λ p. GoesOn c.rows.source.pages p) (sym c.take.ensures.pages) c.advance.ensures.kept in
    let steps = subst (Steps c.args.source.now.pages c.rows.source.pages c.take.new.source.pages c.args.of.now.root c.args.table c.args.of.now.columns c.rows.invariant.kept c.rows.invariant.pages
    c.args.self.now c.rows.self c.take.new.self c.advance.new.self goes c.rows.invariant.stands) c.if-not-branch.false (λ trusted. c.in_ok-advance.ensures.taken (subst (λ p. IsTrusted p) c.take.ensures.pages trusted)) in
    record {
      kind = search rules;
      secret = search rules;
      still = still_after c.args.self.now c.rows.self c.take.new.self c.rows.invariant.still (λ ended.
          let same = c.take.ensures.same (ap (λ (o : Option ℤ). is_unseen o (row_in c.advance.new.self).0) ended) in
          record { numbers = same.numbers; count = same.count; size = same.size; unseen = same.unseen });
      pages = search rules;
      kept = search rules;
      stands = leaves_row c.args.source.now.pages c.rows.source.pages c.take.new.source.pages c.args.of.now.root c.args.table c.args.of.now.columns c.rows.invariant.kept c.rows.invariant.pages
          c.args.self.now c.rows.self c.take.new.self c.advance.new.self goes c.rows.invariant.stands steps c.take.ensures.course c.in_ok-row.ensures.unseen
          (sym c.in_default.is ∙ c.in_ok-row.ensures.row) (subst (λ (o : Option (List Cell)). c.take.new.self.position ≡ behind c.rows.self.position o) c.in_default.is c.in_ok-row.ensures.place);
      notes = notes_row c.args.source.now.pages c.rows.source.pages c.take.new.source.pages c.args.of.now.root c.args.table c.args.of.now.columns c.rows.invariant.kept c.rows.invariant.pages
          c.args.self.now c.rows.self c.take.new.self c.advance.new.self goes c.rows.invariant.stands c.args.source.now.secret c.rows.invariant.notes steps c.in_ok-row.ensures.unseen
          (λ unseen rowids.
          let one = c.in_ok-row.ensures.notes unseen rowids in
          let own : Notes c.rows.source.secret (row_in c.advance.new.self).0 (set_row c.args.table c.args.of.now.columns (row_in c.advance.new.self)) c.rows.self c.take.new.self =
          record { numbers = one.numbers; count = one.count; size = one.size } in
          subst (λ (secret : ℕ). Notes secret (row_in c.advance.new.self).0 (set_row c.args.table c.args.of.now.columns (row_in c.advance.new.self)) c.rows.self c.take.new.self) c.rows.invariant.secret own)
          (λ seen. let same = c.take.ensures.same seen in record { numbers = same.numbers; count = same.count; size = same.size; unseen = same.unseen });
    }

pub returns-in_err-advance-clause-still : goal.returns-in_err-advance-clause-still
returns-in_err-advance-clause-still g c =
    still_after c.args.self.now c.rows.self (record c.rows.self { course = c.advance.new.self }) c.rows.invariant.still (λ ended. record { numbers = refl; count = refl; size = refl; unseen = refl })

pub returns-in_err-end-clause-still : goal.returns-in_err-end-clause-still
returns-in_err-end-clause-still g c =
    still_after c.args.self.now c.rows.self c.end.new.self c.rows.invariant.still (λ ended.
    let same = c.in_err-end.ensures.failed in
    record { numbers = ap (λ (s : Scan). s.numbered.items) same; count = ap (λ (s : Scan). s.count) same; size = ap (λ (s : Scan). s.size) same; unseen = ap (λ (s : Scan). s.unseen) same })

pub returns-then-not-branch-clause-still : goal.returns-then-not-branch-clause-still
returns-then-not-branch-clause-still g c =
    still_after c.args.self.now c.rows.self c.end.new.self c.rows.invariant.still
    (let same = c.in_ok-end.ensures.ended in
    still_ended c.rows.self c.end.new.self (ap (λ (s : Scan). s.numbered.items) same) (ap (λ (s : Scan). s.count) same) (ap (λ (s : Scan). s.size) same) (ap (λ (s : Scan). s.unseen) same))

pub returns-in_err-row-clause-still : goal.returns-in_err-row-clause-still
returns-in_err-row-clause-still g c =
    still_after c.args.self.now c.rows.self c.take.new.self c.rows.invariant.still (λ ended.
    let same = c.in_err-row.ensures.failed in
    record { numbers = same.numbers; count = same.count; size = same.size; unseen = same.unseen })

pub returns-in-Some-clause-still : goal.returns-in-Some-clause-still
returns-in-Some-clause-still g c =
    still_after c.args.self.now c.rows.self c.take.new.self c.rows.invariant.still (λ ended.
    let same = c.take.ensures.same (ap (λ (o : Option ℤ). is_unseen o (row_in c.advance.new.self).0) ended) in
    record { numbers = same.numbers; count = same.count; size = same.size; unseen = same.unseen })
