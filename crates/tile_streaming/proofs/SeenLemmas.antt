-- What is due of rows by what is known of them.
use Rattle.tile_streaming.proofs.Common.{ap, are_distinct, AreMarked, Cell, entries, Err, false, filter_map, from_entries, HashAlgorithm, id_twice, IfOk, IsNamedBy, IsNonDecreasingBy}
use Rattle.tile_streaming.proofs.Common.{IsPermutation, IsPermutation-map, IsPermutation-sym, IsPermutation-trans, List, map, mark_of, MbtError, MbtType, Named, names_refused, nat_cmp, None, NoUniquenessConstraint, Ok}
use Rattle.tile_streaming.proofs.Common.{place_cmp, places_total, Result, SeenRows, SeesRows, settled, subst, sym, Tests, tile_in, true, unless, ◌∙◌, ◌≡◌}
use Rattle.tile_streaming.proofs.RowRefusalLemmas.{settled_err, settled_ok}
use Rattle.tile_streaming.proofs.EntryLemmas.{entries_permuted}
use Rattle.tile_streaming.proofs.PlaceLemmas.{marks_apart, marks_given, Tile}
use Rattle.tile_streaming.specs.declared.mark.Mark.{Mark}
use Rattle.tile_streaming.specs.declared.mark.MarkedSet.{MarkedSet}

module _ (layout : MbtType) (metadata contents rows : List (List Cell)) (apart : id_twice contents ≡ None) (a : HashAlgorithm) (seen : SeenRows) (sees : SeesRows layout a contents rows seen) (named : Result Named MbtError) (tests : Tests (names_refused metadata) named) (said : IfOk named (IsNamedBy metadata)) (same : IfOk named (λ x. a ≡ x.algorithm)) where
  -- a refusal that was found
  pub refused_due : (r : Result MarkedSet MbtError) (e : MbtError) → r ≡ Err e → settled seen.findings named ≡ Err e → AreMarked layout metadata contents rows r
  refused_due r e is found = subst (AreMarked layout metadata contents rows) (sym is) (λ free. settled_err layout metadata contents rows apart a seen.findings sees.findings named tests said same e found free)

  abbrev tiles : List Tile
  tiles = filter_map (tile_in layout contents) rows

  apart_is : are_distinct nat_cmp (map (λ m. m.id) seen.marks.items) ≡ are_distinct place_cmp (map (λ e. e.0) tiles)
  apart_is = marks_apart layout contents rows seen.marks.items sees.marks

  -- a place that stands twice
  pub twice_due : (x : Named) → settled seen.findings named ≡ Ok x → are_distinct nat_cmp (map (λ m. m.id) seen.marks.items) ≡ false → AreMarked layout metadata contents rows (Err NoUniquenessConstraint)
  twice_due x found twice = λ free. (settled_ok layout metadata contents rows apart a seen.findings sees.findings named tests said same x found).1 ∙ ap (λ b. unless b NoUniquenessConstraint) (sym apart_is ∙ twice)

  -- the marks
  marks_are : (ms : List Mark) → are_distinct nat_cmp (map (λ m. m.id) seen.marks.items) ≡ true → IsPermutation seen.marks.items ms → IsPermutation (map mark_of (entries (from_entries {R = place_cmp} tiles))) ms
  marks_are ms differ moved =
      let es : List Tile = entries (from_entries {R = place_cmp} tiles) in
      let listed : IsPermutation es tiles = IsPermutation-sym tiles es (entries_permuted places_total tiles (sym apart_is ∙ differ)) in
      IsPermutation-trans (map mark_of es) (map mark_of tiles) ms (IsPermutation-map mark_of es tiles listed)
      (subst (λ l. IsPermutation l ms) (sees.marks ∙ marks_given layout contents rows) moved)

  pub marked_due : (x : Named) (m : MarkedSet) → settled seen.findings named ≡ Ok x → m.layout ≡ layout → m.algorithm ≡ x.algorithm → m.names ≡ x.names → are_distinct nat_cmp (map (λ m. m.id) seen.marks.items) ≡ true → IsPermutation seen.marks.items m.marks.items → IsNonDecreasingBy (λ m. m.id) m.marks.items → AreMarked layout metadata contents rows (Ok m)
  marked_due x m found l al names differ moved rises =
      let due = settled_ok layout metadata contents rows apart a seen.findings sees.findings named tests said same x found in
      record {
        pass = due.1 ∙ ap (λ b. unless b NoUniquenessConstraint) (sym apart_is ∙ differ);
        layout = l;
        algorithm = al ∙ due.0.algorithm;
        names = names ∙ due.0.names;
        marks = record { same = marks_are m.marks.items differ moved; rising = rises };
      }
