-- The tiles that are read are those of the archive.
use Rattle.tile_import.proofs.Common.{address, all_walked, AllShallow, and_parts, ap, AreOnBoard, arith, Bool, contents_of, covering, drop, empty, Entry, Err, false, false≢true, FIRST_TOO_DEEP, full}
use Rattle.tile_import.proofs.Common.{get-empty, has_id, HasTilesOf, Header, if◌then◌else◌, InRange, is_some, IsOnBoard, IsSome, length, length-drop, length-take-le, List, map, nat_le, nat_lt}
use Rattle.tile_import.proofs.Common.{nat_tests, None, none-some, Ok, Opened, opened, Option, option_map, Place, place_cmp, PmtError, refl, Result, Some, sym, take, true, with_entries, ℕ, [], ◌&&◌}
use Rattle.tile_import.proofs.Common.{◌+◌, ◌<◌, ◌^◌, ◌∙◌, ◌∷◌, ◌≡◌, ◌≢◌, ◌≤◌}
use Rattle.std.specs.Prelude.{unwrap_or}
use Rattle.pm_format.specs.declared.error.PmtError.TheVariants as errors
use Rattle.pm_format.specs.declared.error.ReadCause.TheVariants as causes
use Rattle.pm_format.specs.LookUp.{filled, range_of}
use Rattle.pm_walk.proofs.WholeLemmas.{held, whole_map}
use Rattle.tile_import.proofs.EntryLemmas.{contents_on_board, found_at, get_entries}
use Rattle.pm_walk.proofs.PassedLemmas.{AllThere, all_ordered, all_shallow, all_there, contents_at}

in_range : (p : Place) → IsOnBoard p → InRange p
in_range p on = let zoom : p.zoom < 31 = on.zoom in record { zoom = omega arith; column = on.column; row = on.row }

-- a range has as many bytes as were asked for
range_length : (b : List ℕ) (at n : ℕ) (bytes : List ℕ) → range_of b at n ≡ Some bytes → length bytes ≡ n
range_length b at n bytes is = by_test (nat_le (at + n) (length b) && nat_lt (at + n) (2 ^ 64)) refl is
  where
    by_test : (t : Bool) → (nat_le (at + n) (length b) && nat_lt (at + n) (2 ^ 64)) ≡ t → (if t then Some (take n (drop at b)) else None) ≡ Some bytes → length bytes ≡ n
    by_test false fits is = absurd (none-some bytes is)
    by_test true fits is =
        let within : nat_le (at + n) (length b) ≡ true = (and_parts (nat_le (at + n) (length b)) (nat_lt (at + n) (2 ^ 64)) fits).0 in
        let le : at + n ≤ length b = grind (arith, nat_tests) in
        let same : take n (drop at b) ≡ bytes = cc in
        let left = length-drop at b in
        ap length (sym same) ∙ length-take-le n (drop at b) (omega (arith, le, left))

some_filled : (bytes : List ℕ) → length bytes ≢ 0 → filled (Ok (Some bytes)) ≡ Some bytes
some_filled [] some = absurd (some refl)
some_filled (byte ∷ bytes) some = refl

-- an entry that has bytes leads to its contents
entry_held : (h : Header) (b : List ℕ) (e : Entry) → IsSome (contents_at h b e) → e.length ≢ 0 → held h b (Some e) ≡ Some (contents_of h b e)
entry_held h b e there some = by_range (contents_at h b e) refl there
  where
    by_range : (r : Option (List ℕ)) → contents_at h b e ≡ r → IsSome r → filled (elim r as (λ _. Result (Option (List ℕ)) PmtError) [ None ↦ Err (errors.Reading causes.PastEnd) | Some bytes ↦ Ok (Some bytes) ]) ≡ Some (unwrap_or r [])
    by_range None is there = absurd (false≢true there)
    by_range (Some bytes) is there = some_filled bytes (λ none. some (sym (range_length b (h.data_offset + e.offset) e.length bytes is) ∙ none))

-- what is found leads to the same
found_held : (h : Header) (b : List ℕ) (t : ℕ) (es : List Entry) → AllThere h b es → found_at h b (covering t es) None ≡ option_map (λ bytes. Some bytes) (held h b (covering t es))
found_held h b t [] there = refl
found_held h b t (e ∷ es) there = by_test (has_id t e) (found_held h b t es there.2)
  where
    by_test : (x : Bool) → found_at h b (covering t es) None ≡ option_map (λ bytes. Some bytes) (held h b (covering t es))
        → found_at h b (if x then Some e else covering t es) None ≡ option_map (λ bytes. Some bytes) (held h b (if x then Some e else covering t es))
    by_test true rest = ap (option_map (λ bytes. Some bytes)) (sym (entry_held h b e there.0 there.1))
    by_test false rest = rest

-- an id that is found is of zoom 0 to 30
found_shallow : (h : Header) (b : List ℕ) (t : ℕ) (es : List Entry) (bytes : List ℕ) → AllShallow es → held h b (covering t es) ≡ Some bytes → t < FIRST_TOO_DEEP
found_shallow h b t [] bytes shallow is = absurd (none-some bytes is)
found_shallow h b t (e ∷ es) bytes shallow is = by_test (has_id t e) refl (found_shallow h b t es bytes shallow.1) is
  where
    by_test : (x : Bool) → has_id t e ≡ x → (held h b (covering t es) ≡ Some bytes → t < FIRST_TOO_DEEP) → held h b (if x then Some e else covering t es) ≡ Some bytes → t < FIRST_TOO_DEEP
    by_test true has rest is =
        let ids = and_parts (nat_le e.tile_id t) (nat_lt t (e.tile_id + e.run_length)) has in
        let less : t < e.tile_id + e.run_length = grind (arith, nat_tests) in
        omega (arith, less, shallow.0)
    by_test false has rest is = rest is

pub none_on_board : AreOnBoard empty
none_on_board p has = absurd (false≢true (sym (ap is_some (get-empty place_cmp p)) ∙ has))

-- of an archive that isn't refused
pub tiles_are : (b : List ℕ) (o : Opened) → opened b ≡ Ok o → (all_walked b o).refusal ≡ None → HasTilesOf b (with_entries o.0 b empty (full (all_walked b o).entries))
tiles_are b o opens fine = record {
  at = λ p on.
      get_entries o.0 b empty p 0 es None (in_range p on) (all_ordered b o fine)
      ∙ (ap (found_at o.0 b (covering (address p) es)) (get-empty place_cmp p)
      ∙ (found_held o.0 b (address p) es (all_there b o fine)
      ∙ ap (option_map (λ bytes. Some bytes)) (sym (whole_map b o (address p) opens fine))));
  within = contents_on_board empty es (map (contents_of o.0 b) es) (all_shallow b o fine) none_on_board;
  shallow = λ t bytes is. found_shallow o.0 b t es bytes (all_shallow b o fine) (sym (whole_map b o t opens fine) ∙ is);
}
  where
    es : List Entry
    es = full (all_walked b o).entries
