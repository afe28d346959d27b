use Rattle.std.proofs.Common.{arith, subst, subst₂, sym, ℕ}
use Rattle.sqlite_btree.specs.Check.{MarksFree}
use Rattle.sqlite_pages.specs.PageMap.{PageMap}
use Rattle.mb_file.specs.FilePages.{IsTrusted, pages_of}
use Rattle.mb_file.specs.Opened.{AreOf}
use Rattle.mb_file.specs.Opening.{AreOpened}
use Rattle.mb_file.specs.Parts.{HoldsParts}
use Rattle.mb_file.specs.Recovered.{image_of}
use Rattle.mb_file.proofs.opening.open_parts.Goals as goal

pub returns-in-Ok : goal.returns-in-Ok
returns-in-Ok g c =
    let same = c.in_ok-source.ensures.pages in
    let clean = λ (trusted : IsTrusted c.read_parts.new.source.pages).
    let before : IsTrusted c.in_ok-source.source.pages = omega (arith, trusted, c.read_parts.ensures.kept.clean) in
    subst (λ p. IsTrusted p) same before in
    let free = λ (trusted : IsTrusted c.read_parts.new.source.pages).
    subst (λ p. MarksFree c.in_ok-source.source.taken.items (pages_of p)) (sym same) (c.in_ok-source.ensures.live c.in_ok-pages.ensures.ready (clean trusted)) in
    record {
      opened = λ trusted.
          subst₂ (λ (u : ℕ) (p : PageMap). AreOpened u p c.in-Ok.parts) (sym c.read_parts.ensures.kept.same_size) (sym c.read_parts.ensures.pages) (c.in-Ok.ensures.opened trusted (free trusted));
      found = λ trusted.
          subst₂ (λ (u : ℕ) (p : PageMap). AreOf (image_of g.D.Disk c.args.files) u p) (sym c.read_parts.ensures.kept.same_size) (sym c.read_parts.ensures.pages)
          (subst (λ p. AreOf (image_of g.D.Disk c.args.files) p.usable (pages_of p)) (sym same) (c.in_ok-pages.ensures.found (clean trusted)));
      holds = λ trusted.
          subst₂ (λ (u : ℕ) (p : PageMap). HoldsParts u p c.in-Ok.parts) (sym c.read_parts.ensures.kept.same_size) (sym c.read_parts.ensures.pages) (c.in-Ok.ensures.holds trusted (free trusted));
      placed = c.in-Ok.ensures.placed;
      metadata = c.in-Ok.ensures.metadata;
    }
