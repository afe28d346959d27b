use Rattle.std.proofs.Common.{arith, ℕ}
use Rattle.sqlite_pages.specs.PageMap.{PageMap}
use Rattle.mb_file.proofs.OpeningLemmas.{opened_after}
use Rattle.mb_file.specs.FilePages.{IsTrusted}
use Rattle.mb_file.specs.Opening.{IsOpened}
use Rattle.mb_file.proofs.opening.tables.Goals as goal

pub returns-clause-opened : goal.returns-clause-opened
returns-clause-opened g c = λ trusted free.
    let clean : IsTrusted c.contents.new.source.pages = omega (arith, trusted, c.listing.ensures.kept.clean) in
    record {
      contents = c.in_ok-contents.ensures.opened clean free;
      tiles =
          opened_after c.args.source.now.pages c.contents.new.source.pages c.args.source.now.taken.items c.contents.new.source.taken.items (λ (u : ℕ) (p : PageMap). IsOpened u p c.in_ok-tiles.tiles)
          c.contents.ensures.kept c.contents.ensures.pages c.contents.ensures.marks free (λ still. c.in_ok-tiles.ensures.opened trusted still);
    }

pub returns-in_err-tiles-clause-marks : goal.returns-in_err-tiles-clause-marks
returns-in_err-tiles-clause-marks g c = λ n was. c.listing.ensures.marks n (c.contents.ensures.marks n was)

pub returns-clause-marks : goal.returns-clause-marks
returns-clause-marks g c = λ n was. c.listing.ensures.marks n (c.contents.ensures.marks n was)
