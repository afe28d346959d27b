-- The tiles of the part that is extracted, by the parts of the tile entries that are met.
use Rattle.tile_extract.proofs.Common.{and_parts, ap, archive_map, archive_tile, AreApart, AreOrdered, arith, Bool, clip_all, clips_inside, clips_none, TilePart, covering, covering_behind, covers_here}
use Rattle.tile_extract.proofs.Common.{covers_later, cut, empty_held, Entry, Err, false, filled, has_id, Header, held, if◌then◌else◌, in_intervals, inl, inr, IsPartOf, List}
use Rattle.tile_extract.proofs.Common.{MAX_TILE_ID, met_of, nat_eq, nat_le, nat_lt, nat_tests, None, none_below, none_past, Ok, Opened, opened, Option, parts, parts_none, parts_of, parts_ordered}
use Rattle.tile_extract.proofs.Common.{parts_outside, PmtError, range_of, refl, Result, Some, sym, true, Within, ℕ, [], ◌++◌, ◌+◌, ◌<◌, ◌∙◌, ◌∷◌, ◌≡◌}
use Rattle.pm_format.specs.declared.error.PmtError.TheVariants as errors
use Rattle.pm_format.specs.declared.error.ReadCause.TheVariants as causes
use Rattle.pm_walk.proofs.OrderLemmas.{walked_ordered}
use Rattle.pm_format.proofs.SearchLemmas.{le_or}
use Rattle.pm_walk.proofs.WholeLemmas.{tile_found}

-- a part of an entry leads to the same bytes
part_held : (h : Header) (b : List ℕ) (e p : Entry) → IsPartOf e p → held h b (Some p) ≡ held h b (Some e)
part_held h b e p is =
    ap (λ n. filled (elim (range_of b (h.data_offset + n) p.length) as (λ _. Result (Option (List ℕ)) PmtError) [ None ↦ Err (errors.Reading causes.PastEnd) | Some bytes ↦ Ok (Some bytes) ])) is.offset
    ∙ ap (λ n. filled (elim (range_of b (h.data_offset + e.offset) n) as (λ _. Result (Option (List ℕ)) PmtError) [ None ↦ Err (errors.Reading causes.PastEnd) | Some bytes ↦ Ok (Some bytes) ])) is.length

-- in the intervals, the parts lead to what the entries do
pub parts_held : (h : Header) (b : List ℕ) (t : ℕ) (is : List (ℕ × ℕ)) (low : ℕ) (es : List Entry) (end : Option ℕ) → AreOrdered low es end → in_intervals t is ≡ true → held h b (covering t (parts is es)) ≡ held h b (covering t es)
parts_held h b t is low [] end o lies = refl
parts_held h b t is low (e ∷ es) end o lies = by_test (has_id t e) refl (nat_eq e.length 0) refl (parts_held h b t is (e.tile_id + e.run_length) es end o.3 lies)
  where
    none_of : (y : Bool) → has_id t e ≡ false → covering t (if y then [] else clip_all e is) ≡ None
    none_of true not_in = refl
    none_of false not_in = clips_none t e is o.1 not_in

    by_test : (x : Bool) → has_id t e ≡ x → (y : Bool) → nat_eq e.length 0 ≡ y → held h b (covering t (parts is es)) ≡ held h b (covering t es) → held h b (covering t (parts_of is e ++ parts is es)) ≡ held h b (covering t (e ∷ es))
    by_test true has true empty rest =
        let ids = and_parts (nat_le e.tile_id t) (nat_lt t (e.tile_id + e.run_length)) has in
        let less : t < e.tile_id + e.run_length = grind (arith, nat_tests) in
        let none : e.length ≡ 0 = grind (arith, nat_tests) in
        ap (λ y. held h b (covering t ((if y then [] else clip_all e is) ++ parts is es))) empty
        ∙ ap (held h b) (parts_none t is (e.tile_id + e.run_length) es end o.3 (none_below t (e.tile_id + e.run_length) es end o.3 less))
        ∙ sym (ap (held h b) (covers_here t e es has) ∙ empty_held h b e none)
    by_test true has false some rest =
        let one = clips_inside t e is (parts is es) o.1 has lies in
        ap (λ y. held h b (covering t ((if y then [] else clip_all e is) ++ parts is es))) some
        ∙ ap (held h b) one.1 ∙ part_held h b e one.0 one.2 ∙ sym (ap (held h b) (covers_here t e es has))
    by_test false has y empty rest =
        ap (held h b) (covering_behind t (parts_of is e) (parts is es) (none_of (nat_eq e.length 0) has)) ∙ rest ∙ sym (ap (held h b) (covers_later t e es has))

-- the part that is cut out of an archive is what the parts lead to
pub cut_held : (b : List ℕ) (o : Opened) (part : TilePart) (t : ℕ) → opened b ≡ Ok o → (met_of b o part).refusal ≡ None
    → cut (archive_map b) part t ≡ held o.0 b (covering t (parts part.intervals (met_of b o part).entries))
cut_held b o part t opens fine = by_test (in_intervals t part.intervals) refl
  where
    by_test : (x : Bool) → in_intervals t part.intervals ≡ x → (if x then archive_map b t else None) ≡ held o.0 b (covering t (parts part.intervals (met_of b o part).entries))
    by_test false lies = sym (ap (held o.0 b) (parts_outside t part.intervals 0 (met_of b o part).entries None (walked_ordered Within 6 o.0 b part.intervals 0 None o.1 fine refl) lies))
    by_test true lies =
        elim (le_or t MAX_TILE_ID) [
          | inl le ↦
              let test : nat_le t MAX_TILE_ID ≡ true = grind (arith, nat_tests) in
              ap (λ y. if y then filled (archive_tile b t) else None) test ∙ tile_found Within part.intervals b o t opens fine lies
              ∙ sym (parts_held o.0 b t part.intervals 0 (met_of b o part).entries None (walked_ordered Within 6 o.0 b part.intervals 0 None o.1 fine refl) lies)
          | inr past ↦
              let test : nat_le t MAX_TILE_ID ≡ false = grind (arith, nat_tests) in
              ap (λ y. if y then filled (archive_tile b t) else None) test
              ∙ sym (parts_held o.0 b t part.intervals 0 (met_of b o part).entries None (walked_ordered Within 6 o.0 b part.intervals 0 None o.1 fine refl) lies
              ∙ ap (held o.0 b) (none_past t 0 (met_of b o part).entries None (walked_ordered Within 6 o.0 b part.intervals 0 None o.1 fine refl) past))
        ]

-- the parts that are met are in order
pub parts_in_order : (b : List ℕ) (o : Opened) (part : TilePart) → AreApart 0 part.intervals → (met_of b o part).refusal ≡ None → AreOrdered 0 (parts part.intervals (met_of b o part).entries) None
parts_in_order b o part order fine = parts_ordered part.intervals 0 (met_of b o part).entries None order (walked_ordered Within 6 o.0 b part.intervals 0 None o.1 fine refl)
