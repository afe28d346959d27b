-- The tiles of marks and contents, and the tiles that marks are of.
use Rattle.tile_streaming.proofs.Common.{address, address_within, AllByRecursion, and_from, and_parts, ap, AreMarksOf, arith, Bool, bytes_of, entries, entries_sorted, Equal, eq_by_cmp, false, get_or, Greater, Has, has_back, inl, inr, is_lt, is_sorted, IsDistinct, IsNonDecreasingBy, IsPermutation, IsPermutation-map, IsPermutation-sym, IsPermutation-trans}
use Rattle.tile_streaming.proofs.Common.{length, Less, List, map, Mark, mark_of, MAX_TILE_ID, nat_cmp, nat_le, one_tie, Option, Ordering, Place, place_cmp, place_with, places_total, refl, same_Some, Some, sorted_true, subst, suc, sym, TileSet, true, zero, ℕ, [], ◌&&◌, ◌<◌, ◌^◌, ◌∙◌, ◌∷◌, ◌≡◌, ◌≢◌, ◌≤◌}
use Rattle.mb_store.proofs.RowsPut.{same_sorted}
use Rattle.std.proofs.Common.{Contains, ◌%◌}
use Rattle.std.proofs.lemmas.Cmp.{on_total}
use Rattle.std.proofs.lemmas.List.Elements.{All-contains_itself}
use Rattle.std.proofs.lemmas.List.Sorted.{All-permutation}
use Rattle.std.proofs.lemmas.Map.Keys.{IsDistinct-head, IsDistinct-tail}
use Rattle.std.specs.List.Sorted.{IsStrictlySortedBy}
use Rattle.std.specs.Ordering.{on}
use Rattle.tile_streaming.proofs.KeyLemmas.{place_again, place_has, place_ranged}
use Rattle.tile_streaming.proofs.MarkLemmas.{AllRanged, entry_of, marks_low, Pairs}
use Rattle.tile_streaming.proofs.RankLemmas.{place_rises}
use Rattle.tile_streaming.proofs.SizeLemmas.{small_is}
use Rattle.tile_streaming.specs.Hashing.{AreReadAgain, IsReadAgain, outline, tiles_with}
use Rattle.tile_streaming.specs.Marks.{mark_with}
use Rattle.tile_streaming.specs.Spots.{rank}
use Rattle.tile_streaming.specs.Stored.{Stored}

-- a mark by its place
abbrev placed : Mark → Place × Mark
placed m = (place_with m.id, m)

marks_placed : (es : Pairs) → AllRanged es → map placed (map mark_of es) ≡ map outline es
marks_placed [] h = refl
marks_placed (e ∷ es) h =
    let at = h e (inl refl) in
    let place : place_with (address e.0) ≡ e.0 = place_again e.0 at (address_within e.0 at) in
    let rest = marks_placed es (λ f there. h f (inr there)) in
    λ i. (place i, mark_of e) ∷ rest i

no_bytes : (bytes : List ℕ) → length bytes ≡ 0 → bytes ≡ []
no_bytes [] h = refl
no_bytes (b ∷ bytes) h = absurd (omega (arith, h))

-- marks of tiles: their ids are in range, and those of no byte are marks of none
record IsOfTile (m : Mark) : Type 0 where
  pub low : m.id ≤ MAX_TILE_ID
  pub none : m.length ≡ 0 → m.is_long ≡ false → mark_with m.id [] ≡ m

abbrev AreOfTiles : List Mark → Type 0
AreOfTiles ms = (m : Mark) → Has m ms → IsOfTile m

not_nil : (byte : ℕ) (bytes : List ℕ) → byte ∷ bytes ≢ []
not_nil byte bytes e = absurd (cc)

module _ (tells : Bool) (t : Stored) where
  mark_read : (m : Mark) (c : List ℕ) → IsReadAgain tells t m c → IsOfTile m → mark_of (place_with m.id, Some c) ≡ m
  mark_read m c r of = ap (λ i. mark_with i c) (place_has m.id of.low) ∙ by c refl
    where
      by : (d : List ℕ) → c ≡ d → mark_with m.id c ≡ m
      by [] e = let none = r.none e in ap (mark_with m.id) e ∙ of.none none.0 none.1
      by (b ∷ d) e = r.mark (λ z. not_nil b d (sym e ∙ z))

  read_placed : (ms : List Mark) (cs : List (List ℕ)) → AreReadAgain tells t ms cs → AreOfTiles ms → map outline (tiles_with ms cs) ≡ map placed ms
  read_placed [] [] r h = refl
  read_placed [] (c ∷ cs) r h = absurd r
  read_placed (m ∷ ms) [] r h = absurd r
  read_placed (m ∷ ms) (c ∷ cs) r h =
      let first = mark_read m c r.0 (h m (inl refl)) in
      let rest = read_placed ms cs r.1 (λ n there. h n (inr there)) in
      λ i. (place_with m.id, first i) ∷ rest i

  -- the mark of a tile that was read
  pub record HasRead (ms : List Mark) (f : Place × Option (List ℕ)) : Type 0 where
    pub mark : Mark
    pub bytes : List ℕ
    pub there : Has mark ms
    pub read : IsReadAgain tells t mark bytes
    pub is : (place_with mark.id, Some bytes) ≡ f

  pub has_read : (ms : List Mark) (cs : List (List ℕ)) (f : Place × Option (List ℕ)) → AreReadAgain tells t ms cs → Has f (tiles_with ms cs) → HasRead ms f
  has_read [] [] f r h = absurd h
  has_read [] (c ∷ cs) f r h = absurd r
  has_read (m ∷ ms) [] f r h = absurd r
  has_read (m ∷ ms) (c ∷ cs) f r (inl is) = record { mark = m; bytes = c; there = inl refl; read = r.0; is = is }
  has_read (m ∷ ms) (c ∷ cs) f r (inr h) = let found = has_read ms cs f r.1 h in record { mark = found.mark; bytes = found.bytes; there = inr found.there; read = found.read; is = found.is }

-- outlines of tiles by place
abbrev by_place : Place × Mark → Place × Mark → Ordering
by_place = on (λ (o : Place × Mark). o.0) place_cmp

abbrev below_all : Place → Pairs → Bool
below_all p [] = true
below_all p (e ∷ es) = is_lt (place_cmp p e.0) && below_all p es

less_from : (o : Ordering) → is_lt o ≡ true → o ≡ Less
less_from Less h = refl
less_from Equal h = absurd (cc)
less_from Greater h = absurd (cc)

outlines_above : (e : Place × Option (List ℕ)) (es : Pairs) → below_all e.0 es ≡ true → AllByRecursion (λ o. by_place (outline e) o ≡ Less) (map outline es)
outlines_above e [] h = tt
outlines_above e (f ∷ es) h =
    let parts = and_parts (is_lt (place_cmp e.0 f.0)) (below_all e.0 es) h in
    (less_from (place_cmp e.0 f.0) parts.0, outlines_above e es parts.1)

outlines_rise : (es : Pairs) → is_sorted place_cmp es ≡ true → IsStrictlySortedBy by_place (map outline es)
unfolding IsStrictlySortedBy
outlines_rise [] h = tt
outlines_rise (e ∷ es) h =
    let parts = and_parts (below_all e.0 es) (is_sorted place_cmp es) h in
    (outlines_above e es parts.0, outlines_rise es parts.1)

-- tiles by place with the same outlines, however these stand
same_outlines : (es fs : Pairs) → is_sorted place_cmp es ≡ true → is_sorted place_cmp fs ≡ true → IsPermutation (map outline es) (map outline fs) → map outline es ≡ map outline fs
same_outlines es fs s r same =
    let ys = map outline es in
    let zs = map outline fs in
    same_sorted (on_total (λ (o : Place × Mark). o.0) places_total) ys zs (outlines_rise es s) (outlines_rise fs r)
    (All-permutation (Contains zs) zs ys (IsPermutation-sym ys zs same) (All-contains_itself zs))
    (All-permutation (Contains ys) ys zs same (All-contains_itself ys))

-- places and bytes
abbrev pub plain : Place × Option (List ℕ) → Place × List ℕ
plain e = (e.0, bytes_of e.1)

abbrev AreBytes : (Place → Option (List ℕ)) → Pairs → Type 0
AreBytes at es = (e : Place × Option (List ℕ)) → Has e es → 0 < length (bytes_of e.1) → at e.0 ≡ Some (bytes_of e.1)

-- bytes of one mark are none together
empty_as : (a b : List ℕ) → length a % 2 ^ 32 ≡ length b % 2 ^ 32 → nat_le (2 ^ 32) (length a) ≡ nat_le (2 ^ 32) (length b) → length a ≡ 0 → length b ≡ 0
empty_as a b size long none =
    let short : nat_le (2 ^ 32) (length b) ≡ false = sym long ∙ ap (nat_le (2 ^ 32)) none in
    sym (small_is (length b) short) ∙ sym size ∙ ap (λ n. n % 2 ^ 32) none

same_plain : (at : Place → Option (List ℕ)) (es fs : Pairs) → map outline es ≡ map outline fs → AreBytes at es → AreBytes at fs → map plain es ≡ map plain fs
same_plain at [] [] h p q = refl
same_plain at [] (f ∷ fs) h p q = absurd (cc)
same_plain at (e ∷ es) [] h p q = absurd (cc)
same_plain at (e ∷ es) (f ∷ fs) h p q =
    let first : outline e ≡ outline f = cc in
    let rest : map outline es ≡ map outline fs = cc in
    let place : e.0 ≡ f.0 = ap (λ o. o.0) first in
    let size : length (bytes_of e.1) % 2 ^ 32 ≡ length (bytes_of f.1) % 2 ^ 32 = ap (λ o. o.1.length) first in
    let long : nat_le (2 ^ 32) (length (bytes_of e.1)) ≡ nat_le (2 ^ 32) (length (bytes_of f.1)) = ap (λ o. o.1.is_long) first in
    let more = same_plain at es fs rest (λ g there. p g (inr there)) (λ g there. q g (inr there)) in
    let bytes : bytes_of e.1 ≡ bytes_of f.1 = by (length (bytes_of e.1)) (length (bytes_of f.1)) refl refl place (empty_as (bytes_of e.1) (bytes_of f.1) size long) (empty_as (bytes_of f.1) (bytes_of e.1) (sym size) (sym long)) in
    λ i. (place i, bytes i) ∷ more i
  where
    by : (n k : ℕ) → length (bytes_of e.1) ≡ n → length (bytes_of f.1) ≡ k → e.0 ≡ f.0 → (length (bytes_of e.1) ≡ 0 → length (bytes_of f.1) ≡ 0) → (length (bytes_of f.1) ≡ 0 → length (bytes_of e.1) ≡ 0) → bytes_of e.1 ≡ bytes_of f.1
    by zero k l r place there back = no_bytes (bytes_of e.1) l ∙ sym (no_bytes (bytes_of f.1) (there l))
    by (suc n) zero l r place there back = no_bytes (bytes_of e.1) (back r) ∙ sym (no_bytes (bytes_of f.1) r)
    by (suc n) (suc k) l r place there back = same_Some (bytes_of e.1) (bytes_of f.1) (sym (p e (inl refl) (omega (arith, l))) ∙ ap at place ∙ q f (inl refl) (omega (arith, r)))

abbrev ids_of : List Mark → List ℕ
ids_of ms = map (λ (m : Mark). m.id) ms

apart_places : (x y : ℕ) → x ≤ MAX_TILE_ID → y ≤ MAX_TILE_ID → eq_by_cmp nat_cmp x y ≡ false → eq_by_cmp place_cmp (place_with x) (place_with y) ≡ false
apart_places x y lx ly h =
    sym (one_tie (place_with x) (place_with y) (place_ranged x lx) (place_ranged y ly))
    ∙ ap (λ i. eq_by_cmp nat_cmp i (address (place_with y))) (place_has x lx) ∙ ap (eq_by_cmp nat_cmp x) (place_has y ly) ∙ h

all_behind : (x : Mark) (ms : List Mark) (cs : List (List ℕ)) → x.id ≤ MAX_TILE_ID → ((m : Mark) → Has m ms → m.id ≤ MAX_TILE_ID) → ((j : ℕ) (d : Mark) → j < length ms → rank (place_with x.id) ≤ rank (place_with (get_or ms j d).id)) → AllByRecursion (λ y. eq_by_cmp nat_cmp x.id y ≡ false) (ids_of ms)
    → below_all (place_with x.id) (tiles_with ms cs) ≡ true
all_behind x [] cs lx low h n = refl
all_behind x (m ∷ ms) [] lx low h n = refl
all_behind x (m ∷ ms) (c ∷ cs) lx low h n =
    let lm = low m (inl refl) in
    and_from _ _
    (ap is_lt (place_rises (place_with x.id) (place_with m.id) (place_ranged x.id lx) (place_ranged m.id lm) (h 0 m (omega arith)) (apart_places x.id m.id lx lm n.0)))
    (all_behind x ms cs lx (λ k there. low k (inr there)) (λ j d far. h (suc j) d (omega (arith, far))) n.1)

pub places_rise : (ms : List Mark) (cs : List (List ℕ)) → ((m : Mark) → Has m ms → m.id ≤ MAX_TILE_ID) → IsNonDecreasingBy (λ m. rank (place_with m.id)) ms → IsDistinct (eq_by_cmp nat_cmp) (ids_of ms) → is_sorted place_cmp (tiles_with ms cs) ≡ true
places_rise [] cs low h n = refl
places_rise (m ∷ ms) [] low h n = refl
places_rise (m ∷ ms) (c ∷ cs) low h n =
    and_from _ _
    (all_behind m ms cs (low m (inl refl)) (λ k there. low k (inr there)) (λ j d far. h 0 (suc j) d (omega arith) (omega (arith, far))) (IsDistinct-head (eq_by_cmp nat_cmp) m.id (ids_of ms) n))
    (places_rise ms cs (λ k there. low k (inr there)) (λ i j d order far. h (suc i) (suc j) d (omega (arith, order)) (omega (arith, far))) (IsDistinct-tail (eq_by_cmp nat_cmp) m.id (ids_of ms) n))

-- what was read for the marks of tiles, in any order
module _ (tells : Bool) (t : Stored) (tiles : TileSet) (marks : List Mark) (are : AreMarksOf tiles marks) (ranged : AllRanged (entries tiles)) (ms : List Mark) (same : IsPermutation marks ms) (cs : List (List ℕ)) (read : AreReadAgain tells t ms cs) where
  abbrev es : Pairs
  es = entries tiles

  of_tiles : AreOfTiles ms
  of_tiles m h =
      let there = has_back m marks ms same h in
      let e = entry_of tiles marks are m there in
      let bytes = bytes_of e.0.1 in
      let length_is : length bytes % 2 ^ 32 ≡ m.length = ap (λ (k : Mark). k.length) e.2 in
      let long_is : nat_le (2 ^ 32) (length bytes) ≡ m.is_long = ap (λ (k : Mark). k.is_long) e.2 in
      record {
        low = marks_low tiles marks are ranged m there;
        none = λ zero short.
            let empty : bytes ≡ [] = no_bytes bytes (sym (small_is (length bytes) (long_is ∙ short)) ∙ length_is ∙ zero) in
            ap (λ i. mark_with i []) (sym (ap (λ (k : Mark). k.id) e.2)) ∙ ap (mark_with (address e.0.0)) (sym empty) ∙ e.2;
      }

  module _ (fs : Pairs) (permuted : IsPermutation (tiles_with ms cs) fs) (sorted : is_sorted place_cmp fs ≡ true) where
    outlines_same : IsPermutation (map outline fs) (map outline es)
    outlines_same =
        let ours = IsPermutation-sym (map outline (tiles_with ms cs)) (map outline fs) (IsPermutation-map outline (tiles_with ms cs) fs permuted) in
        let marked = subst (λ l. IsPermutation l (map placed marks)) (sym (read_placed tells t ms cs read of_tiles)) (IsPermutation-sym (map placed marks) (map placed ms) (IsPermutation-map placed marks ms same)) in
        let theirs = subst (λ l. IsPermutation (map placed marks) l) (marks_placed es ranged) (IsPermutation-sym (map placed (map mark_of es)) (map placed marks) (IsPermutation-map placed (map mark_of es) marks are.same)) in
        IsPermutation-trans (map outline fs) (map outline (tiles_with ms cs)) (map outline es) ours (IsPermutation-trans (map outline (tiles_with ms cs)) (map placed marks) (map outline es) marked theirs)

    -- they are like the tiles
    pub read_alike : map outline fs ≡ map outline es
    read_alike = same_outlines fs es sorted (sorted_true _ (entries_sorted tiles)) outlines_same

    -- and where the store tells, they have their bytes
    pub read_plain : tells ≡ true → ((e : Place × Option (List ℕ)) → Has e es → t (address e.0) ≡ Some (bytes_of e.1)) → map plain fs ≡ map plain es
    read_plain told stored = same_plain (λ p. t (address p)) fs es read_alike ours (λ e h some. stored e h)
      where
        ours : AreBytes (λ p. t (address p)) fs
        ours f h some =
            let r = has_read tells t ms cs f read (has_back f (tiles_with ms cs) fs permuted h) in
            let place : place_with r.mark.id ≡ f.0 = ap (λ e. e.0) r.is in
            let bytes : r.bytes ≡ bytes_of f.1 = ap (λ e. bytes_of e.1) r.is in
            let id : address f.0 ≡ r.mark.id = ap address (sym place) ∙ place_has r.mark.id (of_tiles r.mark r.there).low in
            ap t id ∙ r.read.same (λ z. absurd (omega (arith, some, ap length (sym bytes ∙ z)))) told ∙ ap Some bytes
