use Rattle.std.proofs.Common.{ap, IfOk, IfSome, List, min, Option, refl, subst, sum_by, sym, ◌-◌, ◌^◌, ◌≡◌}
use Rattle.mb_store.specs.Sizes.{row_size}
use Rattle.mb_tables.specs.declared.cell.Cell.{Cell}
use Rattle.mb_file.proofs.StandingLemmas.{contents_called}
use Rattle.mb_file.proofs.TellsLemmas.{others_called}
use Rattle.mb_file.proofs.ToldLemmas.{answer_by, asked, counts_decided}
use Rattle.mb_file.specs.Standing.{IsShown, Stands}
use Rattle.mb_file.specs.Told.{contents_shown, contents_size, size_in, size_of}
use Rattle.mb_file.specs.declared.listing.Listing.{Listing}
use Rattle.mb_file.proofs.store.FileSet.contents_sized.Goals as goal

pub invariant_of-self : goal.invariant_of-self
invariant_of-self g c = record {
  stands =
      contents_called c.args.self.now.source c.size.new.source c.size.ensures.kept c.size.ensures.pages c.size.ensures.secret c.args.self.now.tiles c.in-Some.contents c.size.new.self c.args.self.now.contents c.in-Some.contents.table c.in-Some.is refl (ap (λ (l : Listing). l.of) c.size.ensures.same) (ap (λ (l : Listing). l.table) c.size.ensures.same)
      (λ trusted layout rows laid stored listed. (c.size.ensures.lists trusted layout rows laid stored listed).0) c.args.self.now.stands;
  placed = others_called c.args.self.now.layout c.args.self.now.tiles c.in-Some.contents c.size.new.self c.args.self.now.contents c.in-Some.is (ap (λ (l : Listing). l.table) c.size.ensures.same) c.args.self.now.placed;
  named = c.args.self.now.named;
}

pub returns-in-Some-clause-share : goal.returns-in-Some-clause-share
unfolding contents_size
returns-in-Some-clause-share g c = λ trusted may.
    subst (λ (o : Option Listing). IfOk c.size.result (λ size. size ≡ size_in c.args.self.now.source o)) (sym c.in-Some.is)
    (answer_by c.size.result (λ size. size) (size_of c.args.self.now.source c.in-Some.contents) (λ n. counts_decided n (size_of c.args.self.now.source c.in-Some.contents)) c.args.self.now.stands
    (λ all. asked c.args.self.now.source c.size.new.source c.size.ensures.kept (λ (all : List (List Cell)). IfOk c.size.result (λ size. size ≡ min (sum_by row_size all) (2 ^ 64 - 1))) c.in-Some.contents c.size.new.self c.in-Some.contents.table refl c.size.ensures.lists trusted
    (subst (λ (o : Option Listing). IfSome o (IsShown c.args.self.now.source)) c.in-Some.is (contents_shown c.args.self.now may)) (subst (λ (o : Option Listing). IfSome o (Stands c.args.self.now.source)) c.in-Some.is all.of_contents)))

pub returns-in-None-clause-share : goal.returns-in-None-clause-share
unfolding contents_size
returns-in-None-clause-share g c = λ trusted may. sym (ap (size_in c.args.self.now.source) c.in-None.is)
