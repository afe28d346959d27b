use Rattle.std.proofs.Common.{◌≡◌}
use Rattle.mb_file.specs.FilePages.{GoesOn, pages_of}
use Rattle.mb_file.proofs.SearchLemmas.{Passes}
use Rattle.mb_file.proofs.listing.Listing.look_up.Given as goal

abbrev pub invariant-loop-at : goal.invariant-loop-at
invariant-loop-at g l = record {
  secret : l.source.secret ≡ l.fn.source.secret;
  pages : pages_of l.source.pages ≡ pages_of l.fn.source.pages;
  kept : GoesOn l.fn.source.pages l.source.pages;
  passed : Passes l.fn.source.pages l.source.pages l.fn.source.secret l.table l.self l.key l.first l.at;
}
