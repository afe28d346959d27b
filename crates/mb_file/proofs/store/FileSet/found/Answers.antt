use Rattle.std.proofs.Common.{ap, IfOk, List, Option, [], ◌∙◌, IfSome, rules, subst, sym, true, ◌≡◌}
use Rattle.std.specs.Prelude.{find}
use Rattle.mb_tables.specs.Key.{has_key}
use Rattle.mb_file.proofs.StandingLemmas.{contents_called, tiles_called}
use Rattle.mb_file.proofs.TellsLemmas.{others_called, places_called}
use Rattle.mb_file.proofs.FindLemmas.{found_has}
use Rattle.mb_tables.specs.Table.{table_eq}
use Rattle.mb_tables.specs.declared.cell.Cell.{Cell}
use Rattle.mb_tables.specs.declared.table.TableName.TheVariants.{Metadata}
use Rattle.mb_file.proofs.ToldLemmas.{answer_by, asked, first_of, row_decided, second_of}
use Rattle.mb_file.specs.FilePages.{pages_of}
use Rattle.mb_file.specs.Standing.{contents_told, IsShown, rows_told, shown, Stands}
use Rattle.mb_file.specs.Listing.{AreApart}
use Rattle.mb_file.specs.declared.listing.Listing.{Listing}
use Rattle.mb_file.proofs.store.FileSet.found.Goals as goal

pub returns-then-eq-clause-keyed : goal.returns-then-eq-clause-keyed
returns-then-eq-clause-keyed g c = subst (λ o. IfSome o (λ row. has_key c.args.table c.args.key.now row ≡ true)) (sym c.in_ok-find.ensures.answer) (found_has (has_key c.args.table c.args.key.now) _)

pub invariant_of-self-then-is_of : goal.invariant_of-self-then-is_of
invariant_of-self-then-is_of g c = record {
  stands =
      tiles_called c.args.self.now.source c.find-then-is_of.new.source c.find-then-is_of.ensures.kept c.find-then-is_of.ensures.pages c.find-then-is_of.ensures.secret c.args.self.now.tiles c.find-then-is_of.new.self c.args.self.now.contents c.args.table (search rules) c.find-then-is_of.ensures.of c.find-then-is_of.ensures.table
      (λ trusted layout rows laid stored listed. (c.find-then-is_of.ensures.lists trusted layout rows laid stored listed).0) c.args.self.now.stands;
  placed = places_called c.args.self.now.layout c.args.self.now.tiles c.find-then-is_of.new.self c.args.self.now.contents c.find-then-is_of.ensures.table c.args.self.now.placed;
  named = c.args.self.now.named;
}

pub invariant_of-self-then-is_of-2 : goal.invariant_of-self-then-is_of-2
invariant_of-self-then-is_of-2 g c = record {
  stands =
      contents_called c.args.self.now.source c.find-then-is_of-2.new.source c.find-then-is_of-2.ensures.kept c.find-then-is_of-2.ensures.pages c.find-then-is_of-2.ensures.secret c.args.self.now.tiles c.in-Some.contents c.find-then-is_of-2.new.self c.args.self.now.contents c.args.table c.in-Some.is (search rules) c.find-then-is_of-2.ensures.of c.find-then-is_of-2.ensures.table
      (λ trusted layout rows laid stored listed. (c.find-then-is_of-2.ensures.lists trusted layout rows laid stored listed).0) c.args.self.now.stands;
  placed = others_called c.args.self.now.layout c.args.self.now.tiles c.in-Some.contents c.find-then-is_of-2.new.self c.args.self.now.contents c.in-Some.is c.find-then-is_of-2.ensures.table c.args.self.now.placed;
  named = c.args.self.now.named;
}

pub returns-then-is_of-clause-shown : goal.returns-then-is_of-clause-shown
returns-then-is_of-clause-shown g c = λ trusted tiles contents apart.
    let told : rows_told c.args.self.now.source c.args.self.now.names c.args.self.now.tiles c.args.self.now.contents c.args.table ≡ shown c.args.self.now.source.pages.usable (pages_of c.args.self.now.source.pages) c.args.self.now.tiles = second_of (table_eq c.args.table Metadata) _ _ (search rules) ∙ first_of (table_eq c.args.self.now.tiles.table c.args.table) _ _ (search rules) in
    subst (λ (all : List (List Cell)). AreApart c.args.table all → IfOk c.find-then-is_of.result (λ row. row ≡ find (has_key c.args.table c.args.key.now) all)) (sym told)
    (λ own. answer_by c.find-then-is_of.result (λ row. row) (find (has_key c.args.table c.args.key.now) (shown c.args.self.now.source.pages.usable (pages_of c.args.self.now.source.pages) c.args.self.now.tiles)) (λ o. row_decided o (find (has_key c.args.table c.args.key.now) (shown c.args.self.now.source.pages.usable (pages_of c.args.self.now.source.pages) c.args.self.now.tiles))) c.args.self.now.stands
    (λ all. asked c.args.self.now.source c.find-then-is_of.new.source c.find-then-is_of.ensures.kept (λ (all : List (List Cell)). AreApart c.args.table all → IfOk c.find-then-is_of.result (λ row. row ≡ find (has_key c.args.table c.args.key.now) all)) c.args.self.now.tiles c.find-then-is_of.new.self c.args.table (search rules) c.find-then-is_of.ensures.lists trusted tiles all.of_tiles own)) apart

pub returns-then-is_of-2-clause-shown : goal.returns-then-is_of-2-clause-shown
returns-then-is_of-2-clause-shown g c = λ trusted tiles contents apart.
    let told : rows_told c.args.self.now.source c.args.self.now.names c.args.self.now.tiles c.args.self.now.contents c.args.table ≡ shown c.args.self.now.source.pages.usable (pages_of c.args.self.now.source.pages) c.in-Some.contents =
    second_of (table_eq c.args.table Metadata) _ _ (search rules) ∙ second_of (table_eq c.args.self.now.tiles.table c.args.table) _ _ (search rules) ∙ ap (λ (o : Option Listing). contents_told c.args.self.now.source o c.args.table) c.in-Some.is ∙ first_of (table_eq c.in-Some.contents.table c.args.table) _ _ (search rules) in
    subst (λ (all : List (List Cell)). AreApart c.args.table all → IfOk c.find-then-is_of-2.result (λ row. row ≡ find (has_key c.args.table c.args.key.now) all)) (sym told)
    (λ own. answer_by c.find-then-is_of-2.result (λ row. row) (find (has_key c.args.table c.args.key.now) (shown c.args.self.now.source.pages.usable (pages_of c.args.self.now.source.pages) c.in-Some.contents)) (λ o. row_decided o (find (has_key c.args.table c.args.key.now) (shown c.args.self.now.source.pages.usable (pages_of c.args.self.now.source.pages) c.in-Some.contents))) c.args.self.now.stands
    (λ all. asked c.args.self.now.source c.find-then-is_of-2.new.source c.find-then-is_of-2.ensures.kept (λ (all : List (List Cell)). AreApart c.args.table all → IfOk c.find-then-is_of-2.result (λ row. row ≡ find (has_key c.args.table c.args.key.now) all)) c.in-Some.contents c.find-then-is_of-2.new.self c.args.table (search rules) c.find-then-is_of-2.ensures.lists trusted (subst (λ (o : Option Listing). IfSome o (IsShown c.args.self.now.source)) c.in-Some.is contents) (subst (λ (o : Option Listing). IfSome o (Stands c.args.self.now.source)) c.in-Some.is all.of_contents) own)) apart

pub returns-else-is_of-2-clause-shown : goal.returns-else-is_of-2-clause-shown
returns-else-is_of-2-clause-shown g c = λ trusted tiles contents apart.
    let told : rows_told c.args.self.now.source c.args.self.now.names c.args.self.now.tiles c.args.self.now.contents c.args.table ≡ [] = second_of (table_eq c.args.table Metadata) _ _ (search rules) ∙ second_of (table_eq c.args.self.now.tiles.table c.args.table) _ _ (search rules) ∙ ap (λ (o : Option Listing). contents_told c.args.self.now.source o c.args.table) c.in-Some.is ∙ second_of (table_eq c.in-Some.contents.table c.args.table) _ _ (search rules) in
    sym (ap (λ (all : List (List Cell)). find (has_key c.args.table c.args.key.now) all) told)

pub returns-in-None-clause-shown : goal.returns-in-None-clause-shown
returns-in-None-clause-shown g c = λ trusted tiles contents apart.
    let told : rows_told c.args.self.now.source c.args.self.now.names c.args.self.now.tiles c.args.self.now.contents c.args.table ≡ [] = second_of (table_eq c.args.table Metadata) _ _ (search rules) ∙ second_of (table_eq c.args.self.now.tiles.table c.args.table) _ _ (search rules) ∙ ap (λ (o : Option Listing). contents_told c.args.self.now.source o c.args.table) c.in-None.is in
    sym (ap (λ (all : List (List Cell)). find (has_key c.args.table c.args.key.now) all) told)
