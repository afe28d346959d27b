use Rattle.std.proofs.Common.{arith, refl}
use Rattle.mb_file.proofs.TellsLemmas.{sized_by}
use Rattle.mb_file.specs.FilePages.{IsTrusted}
use Rattle.mb_file.proofs.store.FileSet.sized.Goals as goal

pub returns-clause-shown : goal.returns-clause-shown
returns-clause-shown g c = λ trusted may.
    let clean : IsTrusted c.places_sized.new.self.source.pages = omega (arith, trusted, c.contents_sized.ensures.kept.clean) in
    let all = sized_by c.args.self.now _ _ c.in_ok-names.names c.in_ok-places.places c.in_ok-contents.contents
    (record { layout = refl; usable = refl; pages = refl; names = c.in_ok-names.ensures.kept.told; tiles = refl; contents = refl }) c.in_ok-places.ensures.same
    c.in_ok-names.ensures.answer (c.in_ok-places.ensures.share clean) (c.in_ok-contents.ensures.share trusted) may in
    omega (arith, c.saturating_add.ensures, c.saturating_add-2.ensures, all)
