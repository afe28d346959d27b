-- The tiles that adds of marks are of.
use Rattle.tile_streaming.proofs.Common.{address, adds_of, ap, AreAddsOf, AreMarksOf, AreRead, arith, Bool, bytes_of, cond, content_at, entries, entries_sorted, false, find_has, get, get-entries, Has, has_find, InRange, inl, inr, is_eq, is_lt, is_solid, is_sorted, IsPermutation, IsRead, length, List, map, Mark, mark_of}
use Rattle.tile_streaming.proofs.Common.{nat_cmp, nat_cmp-IsAntisymmetric, nat_cmp_total, nat_le, None, Option, overflow_of, Place, place_cmp, refl, same_place, solid, Some, sorted_true, subst, sym, T, TileSet, true, ℕ, [], ◌%◌, ◌&&◌, ◌<◌, ◌^◌, ◌∙◌, ◌∷◌, ◌≡◌, ◌≢◌}
use Rattle.mb_tables.proofs.TileLemmas.{places_total, get-solid}
use Rattle.std.specs.FinMap.{entries-from_sorted, find, from_sorted}
use Rattle.std.specs.declared.cmp.Ordering.TheVariants.{Equal}
use Rattle.tile_streaming.proofs.MarkLemmas.{adds_filled, adds_low, AllRanged, below_all, entry_of, mark_there, marks_rise, short_tile}
use Rattle.tile_streaming.proofs.SizeLemmas.{small_is}
use Rattle.tile_streaming.proofs.MemberLemmas.{content_of_mark, has_mapped, has_source, mark_of_add}
use Rattle.tile_streaming.specs.Stored.{Stored}

abbrev Tile : Type 0
Tile = Place × Option (List ℕ)

not_nil : (byte : ℕ) (bytes : List ℕ) → byte ∷ bytes ≢ []
not_nil byte bytes e = absurd (cc)

-- the solid tile of what stands at a place
to_solid : (g : Option (Option (List ℕ))) (bytes : List ℕ) → cond (is_solid g) g None ≡ Some (Some bytes) → (g ≡ Some (Some bytes)) × (bytes ≢ [])
to_solid None bytes h = absurd (cc)
to_solid (Some None) bytes h = absurd (cc)
to_solid (Some (Some [])) bytes h = absurd (cc)
to_solid (Some (Some (b ∷ bs))) bytes h = let same : b ∷ bs ≡ bytes = cc in (h, subst (λ c. c ≢ []) same (not_nil b bs))

from_solid : (g : Option (Option (List ℕ))) (bytes : List ℕ) → g ≡ Some (Some bytes) → bytes ≢ [] → cond (is_solid g) g None ≡ Some (Some bytes)
from_solid g [] h some = absurd (some refl)
from_solid g (b ∷ bs) h some = ap (λ o. cond (is_solid o) o None) h

-- bytes of which there are some are the contents
some_bytes : (c : Option (List ℕ)) (bytes : List ℕ) → bytes ≡ bytes_of c → bytes ≢ [] → c ≡ Some bytes
some_bytes None bytes is some = absurd (some is)
some_bytes (Some b) bytes is some = ap Some (sym is)

no_bytes : (bytes : List ℕ) → length bytes ≡ 0 → bytes ≡ []
no_bytes [] h = refl
no_bytes (b ∷ bytes) h = absurd (omega (arith, h))

module _ (tells : Bool) (t : Stored) (tiles : TileSet) (marks : List Mark) (are : AreMarksOf tiles marks) (ranged : AllRanged (entries tiles)) (size : overflow_of marks ≡ false) (contents : List (List ℕ)) (read : AreRead tells t marks contents) where
  abbrev adds : List (ℕ × List ℕ)
  adds = adds_of marks contents

  -- a mark says how many bytes its tile has
  held : (e : Tile) → Has e (entries tiles) → (mark_of e).length ≡ length (bytes_of e.1)
  held e h = small_is (length (bytes_of e.1)) (short_tile tiles marks are size e h)

  tied : (a b : Place) → place_cmp a b ≡ Equal → a ≡ b
  tied a b e = same_place a b (ap is_eq e)

  -- where the store tells, what was read are the tiles
  module _ (told : tells ≡ true) (stored : (e : Place × Option (List ℕ)) → Has e (entries tiles) → t (address e.0) ≡ Some (bytes_of e.1)) where
    same_bytes : (e : Place × Option (List ℕ)) (bytes : List ℕ) → Has e (entries tiles) → IsRead tells t (mark_of e) bytes → bytes ≡ bytes_of e.1
    same_bytes e bytes h r = by (bytes_of e.1) refl
      where
        same : Some bytes ≡ Some (bytes_of e.1) → bytes ≡ bytes_of e.1
        same k = cc

        by : (c : List ℕ) → bytes_of e.1 ≡ c → bytes ≡ bytes_of e.1
        by [] is = no_bytes bytes (r.size ∙ (held e h ∙ ap length is)) ∙ sym is
        by (b ∷ c) is = same (sym (r.same (omega (arith, held e h, ap length is)) told) ∙ stored e h)

    each_told : (p : Place) (bytes : List ℕ) → get (solid tiles) p ≡ Some (Some bytes) → content_at adds (address p) ≡ Some bytes
    each_told p bytes h =
        let there = to_solid (get tiles p) bytes (sym (get-solid tiles p) ∙ h) in
        let e : Place × Option (List ℕ) = (p, Some bytes) in
        let place : Has e (entries tiles) = find_has place_cmp tied (entries tiles) p (Some bytes) (sym (get-entries tiles p) ∙ there.0) in
        let c = content_of_mark tells t marks contents (mark_of e) read (mark_there tiles marks are e place) in
        let same : c.bytes ≡ bytes = same_bytes e c.bytes place c.read in
        has_find nat_cmp nat_cmp_total adds (address p) bytes (marks_rise tiles marks are ranged contents) (subst (λ b. Has (address p, b) adds) same (c.add (λ none. there.1 (sym same ∙ none))))

    only_told : (id : ℕ) (bytes : List ℕ) → content_at adds id ≡ Some bytes → (p : Place) × (get (solid tiles) p ≡ Some (Some bytes)) × (address p ≡ id)
    only_told id bytes h =
        let there : Has (id, bytes) adds = find_has nat_cmp nat_cmp-IsAntisymmetric adds id bytes h in
        let m = mark_of_add tells t marks contents id bytes read there in
        let e = entry_of tiles marks are m.mark m.there in
        let same : bytes ≡ bytes_of e.0.1 = same_bytes e.0 bytes e.1 (subst (λ (k : Mark). IsRead tells t k bytes) (sym e.2) m.read) in
        let whole : e.0.1 ≡ Some bytes = some_bytes e.0.1 bytes same m.some in
        let found : get tiles e.0.0 ≡ Some e.0.1 = get-entries tiles e.0.0 ∙ has_find place_cmp places_total (entries tiles) e.0.0 e.0.1 (sorted_true _ (entries_sorted tiles)) e.1 in
        (e.0.0, get-solid tiles e.0.0 ∙ from_solid (get tiles e.0.0) bytes (found ∙ ap Some whole) m.some, ap (λ (k : Mark). k.id) e.2 ∙ m.same)

    pub told_adds : AreAddsOf adds tiles
    told_adds = record { rising = marks_rise tiles marks are ranged contents; low = adds_low tiles marks are ranged contents; filled = adds_filled tiles marks are ranged contents; each = each_told; only = only_told }

  -- where it tells nothing, there are tiles of the same marks: those of which something was read,
  -- and of no byte as they were
  abbrev with_read : Tile → List ℕ → Tile
  with_read e [] = e
  with_read e (byte ∷ bytes) = (e.0, content_at adds (address e.0))

  abbrev as_read : Tile → Tile
  as_read e = with_read e (bytes_of e.1)

  same_place_read : (e : Tile) (bytes : List ℕ) → (with_read e bytes).0 ≡ e.0
  same_place_read e [] = refl
  same_place_read e (byte ∷ bytes) = refl

  -- what was read of a tile of at least one byte
  record IsReadOf (e : Tile) : Type 0 where
    pub bytes : List ℕ
    pub was : IsRead tells t (mark_of e) bytes
    pub found : content_at adds (address e.0) ≡ Some bytes

  read_of : (e : Tile) → Has e (entries tiles) → 0 < length (bytes_of e.1) → IsReadOf e
  read_of e h some =
      let c = content_of_mark tells t marks contents (mark_of e) read (mark_there tiles marks are e h) in
      let filled : c.bytes ≢ [] = λ none. absurd (omega (arith, some, held e h, c.read.size, ap length none)) in
      record {
        bytes = c.bytes;
        was = c.read;
        found = has_find nat_cmp nat_cmp_total adds (address e.0) c.bytes (marks_rise tiles marks are ranged contents) (c.add filled);
      }

  same_mark : (e : Tile) → Has e (entries tiles) → mark_of (as_read e) ≡ mark_of e
  same_mark e h = by (bytes_of e.1) refl
    where
      by : (bytes : List ℕ) → bytes_of e.1 ≡ bytes → mark_of (with_read e bytes) ≡ mark_of e
      by [] is = refl
      by (b ∷ bytes) is =
          let some : 0 < length (bytes_of e.1) = omega (arith, ap length is) in
          let r = read_of e h some in
          let long : length r.bytes ≡ length (bytes_of e.1) = r.was.size ∙ held e h in
          let digest = r.was.digest (omega (arith, some, held e h)) in
          let gzip = r.was.gzip (omega (arith, some, held e h)) in
          let shown : mark_of (e.0, content_at adds (address e.0)) ≡ mark_of (e.0, Some r.bytes) = ap (λ (o : Option (List ℕ)). mark_of (e.0, o)) r.found in
          shown ∙ λ i. record { id = address e.0; digest = digest i; length = long i % 2 ^ 32; is_long = nat_le (2 ^ 32) (long i); gzip = gzip i }

  same_marks : (es : List Tile) → ((e : Tile) → Has e es → Has e (entries tiles)) → map mark_of (map as_read es) ≡ map mark_of es
  same_marks [] within = refl
  same_marks (e ∷ es) within = λ i. same_mark e (within e (inl refl)) i ∷ same_marks es (λ d there. within d (inr there)) i

  -- in the order in which they were
  below_as : (p : Place) (es : List Tile) → below_all p (map as_read es) ≡ below_all p es
  below_as p [] = refl
  below_as p (e ∷ es) = λ i. is_lt (place_cmp p (same_place_read e (bytes_of e.1) i)) && below_as p es i

  sorted_as : (es : List Tile) → is_sorted place_cmp (map as_read es) ≡ is_sorted place_cmp es
  sorted_as [] = refl
  sorted_as (e ∷ es) = (λ i. below_all (same_place_read e (bytes_of e.1) i) (map as_read es) && sorted_as es i) ∙ ap (λ b. b && is_sorted place_cmp es) (below_as e.0 es)

  abbrev read_list : List Tile
  read_list = map as_read (entries tiles)

  read_sorted : is_sorted place_cmp read_list ≡ true
  read_sorted = sorted_as (entries tiles) ∙ sorted_true _ (entries_sorted tiles)

  abbrev pub read_tiles : TileSet
  read_tiles = from_sorted read_list

  read_entries : entries read_tiles ≡ read_list
  read_entries = entries-from_sorted place_cmp read_list (subst T (sym read_sorted) tt)

  get_read : (p : Place) → get read_tiles p ≡ find place_cmp p read_list
  get_read p = get-entries read_tiles p ∙ ap (find place_cmp p) read_entries

  pub read_ranged : AllRanged (entries read_tiles)
  read_ranged e h =
      let from = has_source as_read e (entries tiles) (subst (Has e) read_entries h) in
      subst InRange (sym (same_place_read from.0 (bytes_of from.0.1)) ∙ ap (λ (d : Tile). d.0) from.2) (ranged from.0 from.1)

  pub read_marks : AreMarksOf read_tiles marks
  read_marks = record {
    same = subst (λ l. IsPermutation l marks) (sym (ap (map mark_of) read_entries ∙ same_marks (entries tiles) (λ e h. h))) are.same;
    rising = are.rising;
  }

  each_read : (p : Place) (bytes : List ℕ) → get (solid read_tiles) p ≡ Some (Some bytes) → content_at adds (address p) ≡ Some bytes
  each_read p bytes h =
      let there = to_solid (get read_tiles p) bytes (sym (get-solid read_tiles p) ∙ h) in
      let from = has_source as_read (p, Some bytes) (entries tiles) (find_has place_cmp tied read_list p (Some bytes) (sym (get_read p) ∙ there.0)) in
      by from.0 (bytes_of from.0.1) refl from.2 there.1
    where
      by : (e : Tile) (own : List ℕ) → bytes_of e.1 ≡ own → with_read e own ≡ (p, Some bytes) → bytes ≢ [] → content_at adds (address p) ≡ Some bytes
      by e [] is same some = absurd (some (sym (ap (λ (d : Tile). bytes_of d.1) same) ∙ is))
      by e (b ∷ own) is same some = subst (λ q. content_at adds (address q) ≡ Some bytes) (ap (λ (d : Tile). d.0) same) (ap (λ (d : Tile). d.1) same)

  only_read : (id : ℕ) (bytes : List ℕ) → content_at adds id ≡ Some bytes → (p : Place) × (get (solid read_tiles) p ≡ Some (Some bytes)) × (address p ≡ id)
  only_read id bytes h =
      let there : Has (id, bytes) adds = find_has nat_cmp nat_cmp-IsAntisymmetric adds id bytes h in
      let m = mark_of_add tells t marks contents id bytes read there in
      let e = entry_of tiles marks are m.mark m.there in
      let same : address e.0.0 ≡ id = ap (λ (k : Mark). k.id) e.2 ∙ m.same in
      let long : length bytes ≡ length (bytes_of e.0.1) = m.read.size ∙ (sym (ap (λ (k : Mark). k.length) e.2) ∙ held e.0 e.1) in
      let put : as_read e.0 ≡ (e.0.0, Some bytes) = by e.0 (bytes_of e.0.1) same m.some long in
      let listed : Has (e.0.0, Some bytes) read_list = subst (λ d. Has d read_list) put (has_mapped as_read e.0 (entries tiles) e.1) in
      let found : get read_tiles e.0.0 ≡ Some (Some bytes) = get_read e.0.0 ∙ has_find place_cmp places_total read_list e.0.0 (Some bytes) read_sorted listed in
      (e.0.0, get-solid read_tiles e.0.0 ∙ from_solid (get read_tiles e.0.0) bytes found m.some, same)
    where
      by : (e : Tile) (own : List ℕ) → address e.0 ≡ id → bytes ≢ [] → length bytes ≡ length own → with_read e own ≡ (e.0, Some bytes)
      by e [] same some size = absurd (some (no_bytes bytes size))
      by e (b ∷ own) same some size = ap (λ (o : Option (List ℕ)). (e.0, o)) (ap (content_at adds) same ∙ h)

  pub read_adds : AreAddsOf adds read_tiles
  read_adds = record { rising = marks_rise tiles marks are ranged contents; low = adds_low tiles marks are ranged contents; filled = adds_filled tiles marks are ranged contents; each = each_read; only = only_read }
