use Rattle.std.proofs.Common.{ap, arith, drop, rules, [], ◌+◌, ◌∙◌, ◌≡◌}
use Rattle.mb_file.specs.Scan.{Goes}
use Rattle.mb_file.proofs.NotedLemmas.{as_noted, still_after}
use Rattle.mb_file.proofs.ScanLemmas.{goes_none, goes_some, none_from, notes_then, scans_then}
use Rattle.mb_file.proofs.scan.Scan.pass.Goals as goal

pub loop-init : goal.loop-init
loop-init g c = record {
  kind = search rules;
  secret = search rules;
  still = λ ended. c.go_back.ensures.same;
  pages = search rules;
  kept = search rules;
  stands = λ trusted layout rows laid stored scan. (c.go_back.ensures.stands layout _ _ _ _ _ rows stored scan, search rules);
  notes = λ trusted layout rows laid stored scan notes. as_noted c.args.source.now.secret c.args.table c.args.of.now.columns rows _ _ c.go_back.ensures.same notes;
}

pub returns-then-is_none-clause-stands : goal.returns-then-is_none-clause-stands
returns-then-is_none-clause-stands g c =
    scans_then c.args.source.now.pages c.loop.source.pages c.next_row.new.source.pages c.args.of.now.root c.args.table c.args.of.now.columns c.loop.invariant.kept c.loop.invariant.pages
    c.args.self.now c.loop.self (λ all. c.loop.self.position ≡ c.loop.counter) (λ Stands all. Stands c.next_row.new.self × Goes all c.loop.self.position c.next_row.new.self.position c.in_ok-next_row.field-0)
    (λ Stands all. Stands c.next_row.new.self × (drop c.args.to all ≡ [])) c.next_row.ensures.kept c.loop.invariant.stands c.in_ok-next_row.ensures.stands
    (λ Stands all at h. (h.0, none_from c.loop.self.position c.args.to all (goes_none all _ _ _ h.1 (search rules)).0 (omega (arith, at, c.loop-test.true))))

pub loop-preserved : goal.loop-preserved
loop-preserved g c = record {
  kind = search rules;
  secret = search rules;
  still = still_after c.args.self.now c.loop.self c.next_row.new.self c.loop.invariant.still c.next_row.ensures.still;
  pages = search rules;
  kept = search rules;
  stands =
      scans_then c.args.source.now.pages c.loop.source.pages c.next_row.new.source.pages c.args.of.now.root c.args.table c.args.of.now.columns c.loop.invariant.kept c.loop.invariant.pages
      c.args.self.now c.loop.self (λ all. c.loop.self.position ≡ c.loop.counter) (λ Stands all. Stands c.next_row.new.self × Goes all c.loop.self.position c.next_row.new.self.position c.in_ok-next_row.field-0)
      (λ Stands all. Stands c.next_row.new.self × (c.next_row.new.self.position ≡ c.loop.counter + 1)) c.next_row.ensures.kept c.loop.invariant.stands c.in_ok-next_row.ensures.stands
      (λ Stands all at h. (h.0, goes_some all _ _ _ h.1 (search rules) ∙ ap (λ n. n + 1) at));
  notes =
      notes_then c.args.source.now.pages c.loop.source.pages c.next_row.new.source.pages c.args.of.now.root c.args.table c.args.of.now.columns c.loop.invariant.kept c.loop.invariant.pages
      c.args.source.now.secret c.loop.source.secret c.loop.invariant.secret c.args.self.now c.loop.self c.next_row.new.self (λ all. c.loop.self.position ≡ c.loop.counter) c.next_row.ensures.kept c.loop.invariant.stands c.loop.invariant.notes c.next_row.ensures.notes;
}

pub returns-clause-stands : goal.returns-clause-stands
returns-clause-stands g c = λ trusted layout rows laid stored scan.
    let stand = c.loop.invariant.stands trusted layout rows laid stored scan in
    (stand.0, omega (arith, stand.1, c.loop-test.false, c.loop.auto.counter-end, c.go_back.ensures.place))

pub returns-in_err-next_row-clause-notes : goal.returns-in_err-next_row-clause-notes
returns-in_err-next_row-clause-notes g c =
    notes_then c.args.source.now.pages c.loop.source.pages c.next_row.new.source.pages c.args.of.now.root c.args.table c.args.of.now.columns c.loop.invariant.kept c.loop.invariant.pages
    c.args.source.now.secret c.loop.source.secret c.loop.invariant.secret c.args.self.now c.loop.self c.next_row.new.self (λ all. c.loop.self.position ≡ c.loop.counter) c.next_row.ensures.kept c.loop.invariant.stands c.loop.invariant.notes c.next_row.ensures.notes

pub returns-then-is_none-clause-notes : goal.returns-then-is_none-clause-notes
returns-then-is_none-clause-notes g c =
    notes_then c.args.source.now.pages c.loop.source.pages c.next_row.new.source.pages c.args.of.now.root c.args.table c.args.of.now.columns c.loop.invariant.kept c.loop.invariant.pages
    c.args.source.now.secret c.loop.source.secret c.loop.invariant.secret c.args.self.now c.loop.self c.next_row.new.self (λ all. c.loop.self.position ≡ c.loop.counter) c.next_row.ensures.kept c.loop.invariant.stands c.loop.invariant.notes c.next_row.ensures.notes

pub returns-in_err-next_row-clause-still : goal.returns-in_err-next_row-clause-still
returns-in_err-next_row-clause-still g c =
    still_after c.args.self.now c.loop.self c.next_row.new.self c.loop.invariant.still c.next_row.ensures.still

pub returns-then-is_none-clause-still : goal.returns-then-is_none-clause-still
returns-then-is_none-clause-still g c =
    still_after c.args.self.now c.loop.self c.next_row.new.self c.loop.invariant.still c.next_row.ensures.still
