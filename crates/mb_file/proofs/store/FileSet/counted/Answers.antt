use Rattle.std.proofs.Common.{IfOk, IfSome, length, List, Option, subst, [], ◌∙◌, rules, sym, ap, refl, ◌≡◌}
use Rattle.mb_file.proofs.StandingLemmas.{contents_called, tiles_called}
use Rattle.mb_file.proofs.TellsLemmas.{others_called, places_called}
use Rattle.mb_file.specs.declared.listing.Listing.{Listing}
use Rattle.mb_tables.specs.Table.{table_eq}
use Rattle.mb_tables.specs.declared.cell.Cell.{Cell}
use Rattle.mb_tables.specs.declared.table.TableName.TheVariants.{Metadata}
use Rattle.mb_file.proofs.ToldLemmas.{answer_by, asked, first_of, counts_decided, second_of}
use Rattle.mb_file.specs.FilePages.{pages_of}
use Rattle.mb_file.specs.Standing.{contents_told, IsShown, rows_told, shown, Stands}
use Rattle.mb_file.proofs.store.FileSet.counted.Goals as goal

pub invariant_of-self-then-is_of : goal.invariant_of-self-then-is_of
invariant_of-self-then-is_of g c = record {
  stands =
      tiles_called c.args.self.now.source c.count.new.source c.count.ensures.kept c.count.ensures.pages c.count.ensures.secret c.args.self.now.tiles c.count.new.self c.args.self.now.contents c.args.self.now.tiles.table refl (ap (λ (l : Listing). l.of) c.count.ensures.same) (ap (λ (l : Listing). l.table) c.count.ensures.same)
      (λ trusted layout rows laid stored listed. (c.count.ensures.lists trusted layout rows laid stored listed).0) c.args.self.now.stands;
  placed = places_called c.args.self.now.layout c.args.self.now.tiles c.count.new.self c.args.self.now.contents (ap (λ (l : Listing). l.table) c.count.ensures.same) c.args.self.now.placed;
  named = c.args.self.now.named;
}

pub invariant_of-self-then-is_of-2 : goal.invariant_of-self-then-is_of-2
invariant_of-self-then-is_of-2 g c = record {
  stands =
      contents_called c.args.self.now.source c.count-then-is_of-2.new.source c.count-then-is_of-2.ensures.kept c.count-then-is_of-2.ensures.pages c.count-then-is_of-2.ensures.secret c.args.self.now.tiles c.in-Some.contents c.count-then-is_of-2.new.self c.args.self.now.contents c.in-Some.contents.table c.in-Some.is refl (ap (λ (l : Listing). l.of) c.count-then-is_of-2.ensures.same) (ap (λ (l : Listing). l.table) c.count-then-is_of-2.ensures.same)
      (λ trusted layout rows laid stored listed. (c.count-then-is_of-2.ensures.lists trusted layout rows laid stored listed).0) c.args.self.now.stands;
  placed = others_called c.args.self.now.layout c.args.self.now.tiles c.in-Some.contents c.count-then-is_of-2.new.self c.args.self.now.contents c.in-Some.is (ap (λ (l : Listing). l.table) c.count-then-is_of-2.ensures.same) c.args.self.now.placed;
  named = c.args.self.now.named;
}

pub returns-then-is_of-clause-shown : goal.returns-then-is_of-clause-shown
returns-then-is_of-clause-shown g c = λ trusted tiles contents.
    let told : rows_told c.args.self.now.source c.args.self.now.names c.args.self.now.tiles c.args.self.now.contents c.args.table ≡ shown c.args.self.now.source.pages.usable (pages_of c.args.self.now.source.pages) c.args.self.now.tiles = second_of (table_eq c.args.table Metadata) _ _ (search rules) ∙ first_of (table_eq c.args.self.now.tiles.table c.args.table) _ _ (search rules) in
    subst (λ (all : List (List Cell)). IfOk c.count.result (λ count. count ≡ length all)) (sym told)
    (answer_by c.count.result (λ count. count) (length (shown c.args.self.now.source.pages.usable (pages_of c.args.self.now.source.pages) c.args.self.now.tiles)) (λ n. counts_decided n (length (shown c.args.self.now.source.pages.usable (pages_of c.args.self.now.source.pages) c.args.self.now.tiles))) c.args.self.now.stands
    (λ all. asked c.args.self.now.source c.count.new.source c.count.ensures.kept (λ (all : List (List Cell)). IfOk c.count.result (λ count. count ≡ length all)) c.args.self.now.tiles c.count.new.self c.args.self.now.tiles.table refl c.count.ensures.lists trusted tiles all.of_tiles))

pub returns-then-is_of-2-clause-shown : goal.returns-then-is_of-2-clause-shown
returns-then-is_of-2-clause-shown g c = λ trusted tiles contents.
    let told : rows_told c.args.self.now.source c.args.self.now.names c.args.self.now.tiles c.args.self.now.contents c.args.table ≡ shown c.args.self.now.source.pages.usable (pages_of c.args.self.now.source.pages) c.in-Some.contents =
    second_of (table_eq c.args.table Metadata) _ _ (search rules) ∙ second_of (table_eq c.args.self.now.tiles.table c.args.table) _ _ (search rules) ∙ ap (λ (o : Option Listing). contents_told c.args.self.now.source o c.args.table) c.in-Some.is ∙ first_of (table_eq c.in-Some.contents.table c.args.table) _ _ (search rules) in
    subst (λ (all : List (List Cell)). IfOk c.count-then-is_of-2.result (λ count. count ≡ length all)) (sym told)
    (answer_by c.count-then-is_of-2.result (λ count. count) (length (shown c.args.self.now.source.pages.usable (pages_of c.args.self.now.source.pages) c.in-Some.contents)) (λ n. counts_decided n (length (shown c.args.self.now.source.pages.usable (pages_of c.args.self.now.source.pages) c.in-Some.contents))) c.args.self.now.stands
    (λ all. asked c.args.self.now.source c.count-then-is_of-2.new.source c.count-then-is_of-2.ensures.kept (λ (all : List (List Cell)). IfOk c.count-then-is_of-2.result (λ count. count ≡ length all)) c.in-Some.contents c.count-then-is_of-2.new.self c.in-Some.contents.table refl c.count-then-is_of-2.ensures.lists trusted (subst (λ (o : Option Listing). IfSome o (IsShown c.args.self.now.source)) c.in-Some.is contents) (subst (λ (o : Option Listing). IfSome o (Stands c.args.self.now.source)) c.in-Some.is all.of_contents)))

pub returns-else-is_of-2-clause-shown : goal.returns-else-is_of-2-clause-shown
returns-else-is_of-2-clause-shown g c = λ trusted tiles contents.
    let told : rows_told c.args.self.now.source c.args.self.now.names c.args.self.now.tiles c.args.self.now.contents c.args.table ≡ [] = second_of (table_eq c.args.table Metadata) _ _ (search rules) ∙ second_of (table_eq c.args.self.now.tiles.table c.args.table) _ _ (search rules) ∙ ap (λ (o : Option Listing). contents_told c.args.self.now.source o c.args.table) c.in-Some.is ∙ second_of (table_eq c.in-Some.contents.table c.args.table) _ _ (search rules) in
    sym (ap (λ (all : List (List Cell)). length all) told)

pub returns-in-None-clause-shown : goal.returns-in-None-clause-shown
returns-in-None-clause-shown g c = λ trusted tiles contents.
    let told : rows_told c.args.self.now.source c.args.self.now.names c.args.self.now.tiles c.args.self.now.contents c.args.table ≡ [] = second_of (table_eq c.args.table Metadata) _ _ (search rules) ∙ second_of (table_eq c.args.self.now.tiles.table c.args.table) _ _ (search rules) ∙ ap (λ (o : Option Listing). contents_told c.args.self.now.source o c.args.table) c.in-None.is in
    sym (ap (λ (all : List (List Cell)). length all) told)
