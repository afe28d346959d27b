-- The hash of a marked set.
use Rattle.tile_streaming.proofs.Common.{address, aggregate, ap, arith, Bool, bytes_of, entries, eq_by_cmp, eq_by_cmp_equiv, Has, has_back, HashAlgorithm, IsMarkedAs, IsPermutation-map, IsPermutation-refl, is_sorted, length, length-map, length_permutation, List, map, Mark, MarkedSet, mark_of, MAX_TILE_ID, nat_cmp, nat_cmp_total, nat_eq, nat_tests}
use Rattle.tile_streaming.proofs.Common.{Option, Place, place_cmp, refl, Some, State, subst, suc, sym, T, true, false, ℕ, [], ◌++◌, ◌∙◌, ◌∷◌, ◌≡◌, ◌≢◌, ◌≤◌}
use Rattle.std.proofs.Common.{flat_map}
use Rattle.std.proofs.lemmas.Map.Keys.{IsDistinct-IsPermutation}
use Rattle.std.specs.Fmt.{decimal}
use Rattle.std.specs.FinMap.{entries-from_sorted, from_sorted}
use Rattle.tile_hash.specs.Digest.{digest}
use Rattle.tile_hash.specs.declared.hash_stream.HashStream.{HashStream}
use Rattle.tile_streaming.proofs.MarkLemmas.{AllRanged, marks_differ, marks_low, Pairs, ranged_all}
use Rattle.tile_streaming.proofs.OutlineLemmas.{plain, places_rise, read_alike, read_plain}
use Rattle.tile_streaming.proofs.SpotLemmas.{all_marks, ranks_rise}
use Rattle.tile_streaming.proofs.StoredLemmas.{bytes_there}
use Rattle.tile_streaming.specs.Common.{hash_of, in_hexadecimal, tile_text}
use Rattle.tile_streaming.specs.Hashing.{AreHashed, AreReadAgain, HasHash, outline, tiles_with}
use Rattle.tile_streaming.specs.Spots.{AreSpots, marks_at}
use Rattle.tile_streaming.specs.declared.spots.Spot.{Spot}
use Rattle.tile_streaming.specs.Stored.{HasBytes, Stored}

-- tiles of the same places and bytes have one hash
abbrev plain_text : Place × List ℕ → List ℕ
plain_text p = decimal p.0.zoom ++ (decimal p.0.column ++ (decimal p.0.row ++ p.1))

texts_plain : (es : Pairs) → flat_map tile_text es ≡ flat_map plain_text (map plain es)
texts_plain [] = refl
texts_plain (e ∷ es) = ap (λ l. tile_text e ++ l) (texts_plain es)

same_hash : (a : HashAlgorithm) (es fs : Pairs) → map plain es ≡ map plain fs → hash_of a es ≡ hash_of a fs
same_hash a [] [] h = refl
same_hash a [] (f ∷ fs) h = absurd (cc)
same_hash a (e ∷ es) [] h = absurd (cc)
same_hash a (e ∷ es) (f ∷ fs) h = ap (digest (in_hexadecimal a)) (texts_plain (e ∷ es) ∙ ap (flat_map plain_text) h ∙ sym (texts_plain (f ∷ fs)))

-- the hash of tiles that are like those of a state
hash_from : (tells : Bool) (s : State) (fs : Pairs) → is_sorted place_cmp fs ≡ true → map outline fs ≡ map outline (entries s.tiles) → (tells ≡ true → map plain fs ≡ map plain (entries s.tiles)) → (hash : List ℕ) → hash ≡ hash_of s.algorithm fs → HasHash tells s hash
unfolding aggregate
hash_from tells s fs sorted alike same hash is =
    let made : entries (from_sorted {R = place_cmp} fs) ≡ fs = entries-from_sorted place_cmp fs (subst T (sym sorted) tt) in
    record {
      tiles = from_sorted {R = place_cmp} fs;
      alike = ap (map outline) made ∙ alike;
      is = is ∙ ap (hash_of s.algorithm) (sym made);
      told = λ t. is ∙ same_hash s.algorithm fs (entries s.tiles) (same t);
    }

-- whether there are tiles
pub is_none : (n : ℕ) (b : Bool) → b ≡ nat_eq n 0 → b ≡ true → n ≡ 0
is_none n b is h = grind (arith, nat_tests)

pub are_some : (n : ℕ) (b : Bool) → b ≡ nat_eq n 0 → b ≡ false → n ≢ 0
are_some n b is h = grind (arith, nat_tests)

no_tiles : (es : Pairs) → length es ≡ 0 → es ≡ []
no_tiles [] h = refl
no_tiles (e ∷ es) h = absurd (omega (arith, h))

tiles_long : (tells : Bool) (t : Stored) (ms : List Mark) (cs : List (List ℕ)) → AreReadAgain tells t ms cs → length (tiles_with ms cs) ≡ length ms
tiles_long tells t [] [] r = refl
tiles_long tells t [] (c ∷ cs) r = absurd r
tiles_long tells t (m ∷ ms) [] r = absurd r
tiles_long tells t (m ∷ ms) (c ∷ cs) r = ap suc (tiles_long tells t ms cs r.1)

full_hash : (a : HashAlgorithm) (fs : Pairs) → length fs ≢ 0 → hash_of a fs ≡ digest (in_hexadecimal a) (flat_map tile_text fs)
full_hash a [] some = absurd (some refl)
full_hash a (f ∷ fs) some = refl

-- of a state of which the set is held
module _ (tells : Bool) (t : Stored) (m : MarkedSet) (s : State) (held : IsMarkedAs s m) (has : tells ≡ true → HasBytes t s.tiles) where
  abbrev marks : List Mark
  marks = m.marks.items

  abbrev es : Pairs
  es = entries s.tiles

  ranged : AllRanged es
  ranged = ranged_all es held.ranged

  stored : tells ≡ true → (e : Place × Option (List ℕ)) → Has e es → t (address e.0) ≡ Some (bytes_of e.1)
  stored u e h = bytes_there t s.tiles (has u) e h

  -- without tiles
  pub none_hashed : length marks ≡ 0 → (text : List ℕ) → text ≡ digest m.algorithm [] → HasHash tells s text
  none_hashed none text is =
      let empty : es ≡ [] = no_tiles es (sym (length-map es mark_of) ∙ sym (length_permutation (map mark_of es) marks held.marks.same) ∙ none) in
      hash_from tells s [] refl (sym (ap (map outline) empty)) (λ u. sym (ap (map plain) empty)) text (is ∙ ap (λ a. digest a []) held.algorithm)

  -- with tiles
  pub some_hashed : length marks ≢ 0 → (spots : List Spot) → AreSpots marks spots → (h : HashStream) (all : AreHashed tells t (in_hexadecimal m.algorithm) (marks_at marks spots) h) → (text : List ℕ)
      → text ≡ digest (in_hexadecimal m.algorithm) (flat_map tile_text (tiles_with (marks_at marks spots) all.contents)) → HasHash tells s text
  some_hashed some spots are h all text is =
      let ms = marks_at marks spots in
      let fs : Pairs = tiles_with ms all.contents in
      let same = all_marks marks spots are in
      let sorted = places_rise ms all.contents low (ranks_rise marks spots are) (IsDistinct-IsPermutation (eq_by_cmp nat_cmp) (eq_by_cmp_equiv nat_cmp_total).symm (map (λ (k : Mark). k.id) marks) (map (λ (k : Mark). k.id) ms) (IsPermutation-map (λ (k : Mark). k.id) marks ms same) (marks_differ s.tiles marks held.marks ranged)) in
      let long : length fs ≡ length marks = tiles_long tells t ms all.contents all.read ∙ length_permutation marks ms same in
      hash_from tells s fs sorted (read_alike tells t s.tiles marks held.marks ranged ms same all.contents all.read fs (IsPermutation-refl fs) sorted)
      (λ u. read_plain tells t s.tiles marks held.marks ranged ms same all.contents all.read fs (IsPermutation-refl fs) sorted u (stored u)) text
      (is ∙ sym (full_hash m.algorithm fs (λ z. some (sym long ∙ z))) ∙ ap (λ a. hash_of a fs) held.algorithm)
    where
      low : (k : Mark) → Has k (marks_at marks spots) → k.id ≤ MAX_TILE_ID
      low k h = marks_low s.tiles marks held.marks ranged k (has_back k marks (marks_at marks spots) (all_marks marks spots are) h)
