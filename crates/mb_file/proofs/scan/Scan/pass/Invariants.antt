use Rattle.std.proofs.Common.{None, ◌≡◌}
use Rattle.mb_file.specs.Course.{has_key}
use Rattle.mb_file.specs.FilePages.{GoesOn, pages_of}
use Rattle.mb_file.specs.Noted.{IsNotedAs, KeepsNotes}
use Rattle.mb_file.specs.Scan.{Scans}
use Rattle.mb_file.proofs.scan.Scan.pass.Given as goal

abbrev pub invariant-loop : goal.invariant-loop
invariant-loop g l = record {
  kind : has_key l.self.course ≡ has_key l.fn.self.course;
  secret : l.source.secret ≡ l.fn.source.secret;
  pages : pages_of l.source.pages ≡ pages_of l.fn.source.pages;
  kept : GoesOn l.fn.source.pages l.source.pages;
  stands : Scans l.fn.source.pages l.source.pages l.of.root l.table l.of.columns l.fn.self (λ Stands all. Stands l.self × (l.self.position ≡ l.counter));
  still : l.fn.self.unseen ≡ None → IsNotedAs l.fn.self l.self;
  notes : KeepsNotes l.fn.source.pages l.source.pages l.of.root l.fn.source.secret l.table l.of.columns l.fn.self l.self;
}
