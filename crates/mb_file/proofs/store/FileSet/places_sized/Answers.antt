use Rattle.std.proofs.Common.{ap, IfOk, List, min, refl, sum_by, ◌-◌, ◌^◌, ◌≡◌}
use Rattle.mb_store.specs.Sizes.{row_size}
use Rattle.mb_tables.specs.declared.cell.Cell.{Cell}
use Rattle.mb_file.proofs.StandingLemmas.{tiles_called}
use Rattle.mb_file.proofs.TellsLemmas.{places_called}
use Rattle.mb_file.proofs.ToldLemmas.{answer_by, asked, counts_decided}
use Rattle.mb_file.specs.Told.{tiles_shown, tiles_size}
use Rattle.mb_file.specs.declared.listing.Listing.{Listing}
use Rattle.mb_file.proofs.store.FileSet.places_sized.Goals as goal

pub invariant_of-self : goal.invariant_of-self
invariant_of-self g c = record {
  stands =
      tiles_called c.args.self.now.source c.size.new.source c.size.ensures.kept c.size.ensures.pages c.size.ensures.secret c.args.self.now.tiles c.size.new.self c.args.self.now.contents c.args.self.now.tiles.table refl (ap (λ (l : Listing). l.of) c.size.ensures.same) (ap (λ (l : Listing). l.table) c.size.ensures.same)
      (λ trusted layout rows laid stored listed. (c.size.ensures.lists trusted layout rows laid stored listed).0) c.args.self.now.stands;
  placed = places_called c.args.self.now.layout c.args.self.now.tiles c.size.new.self c.args.self.now.contents (ap (λ (l : Listing). l.table) c.size.ensures.same) c.args.self.now.placed;
  named = c.args.self.now.named;
}

pub returns-clause-share : goal.returns-clause-share
unfolding tiles_size
returns-clause-share g c = λ trusted may.
    answer_by c.size.result (λ size. size) (tiles_size c.args.self.now) (λ n. counts_decided n (tiles_size c.args.self.now)) c.args.self.now.stands
    (λ all. asked c.args.self.now.source c.size.new.source c.size.ensures.kept (λ (all : List (List Cell)). IfOk c.size.result (λ size. size ≡ min (sum_by row_size all) (2 ^ 64 - 1))) c.args.self.now.tiles c.size.new.self c.args.self.now.tiles.table refl c.size.ensures.lists trusted (tiles_shown c.args.self.now may) all.of_tiles)
