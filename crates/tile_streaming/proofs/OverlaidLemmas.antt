-- What stands for a set: before a patch, after it, and once all marks are together.
use Rattle.tile_streaming.proofs.Common.{address, address_within, ap, arith, Bool, bytes_of, empty, find, Tables, MbtType, entries, Err, false, false≢true, filter, get, get-empty, inl, inr, InRange, is_some}
use Rattle.tile_streaming.proofs.Common.{IsLoadable, IsMarkedAs, bytes_told, IsNonDecreasingBy, IsPermutation, IsPermutation-map, IsPermutation-refl, IsPermutation-trans, len-empty, len-entries, length, List}
use Rattle.tile_streaming.proofs.Common.{map, mark_of, MarkedSet, MbtError, Names, None, none-some, Ok, Option, option_or, Place, place_cmp, places_total, refl, Some, State, subst, sym, TileSet, true}
use Rattle.tile_streaming.proofs.Common.{ℕ, [], ◌++◌, ◌∙◌, ◌∷◌, ◌≡◌, ◌⊎◌}
use Rattle.mb_edit.proofs.PatchedLemmas.{get-patched_by}
use Rattle.mb_edit.proofs.StateLemmas.{patched_state}
use Rattle.mb_edit.specs.HeldPatched.{held_patched}
use Rattle.mb_edit.specs.Patched.{meta_patched, patched, patched_at}
use Rattle.mb_edit.specs.Collision.{is_other}
use Rattle.mb_edit.specs.Common.{digest, Text}
use Rattle.mb_edit.specs.PatchingOrder.{bytes_put}
use Rattle.mb_edit.specs.Step.{state_patched}
use Rattle.mb_lists.proofs.Places.{places_antisymmetric}
use Rattle.mb_load.specs.LoadedFrom.{AllOnBoard}
use Rattle.mb_loaded.specs.Held.{Held}
use Rattle.std.proofs.lemmas.List.{map-append}
use Rattle.std.proofs.lemmas.List.Kept.{IsNonDecreasingBy-filter}
use Rattle.std.proofs.lemmas.List.Sorted.{IsPermutation-append_comm, IsPermutation-append_left}
use Rattle.std.specs.FinMap.{contains_key}
use Rattle.tile_streaming.proofs.HeldPartsLemmas.{parts_next}
use Rattle.tile_streaming.proofs.KeyLemmas.{place_again}
use Rattle.tile_streaming.proofs.MarkLemmas.{all_ranged, AllRanged, ranged_all}
use Rattle.tile_streaming.proofs.OverlayLemmas.{apart_over, contained_ranged, given, left, left_has, lies_over, marks_left, ranged_contained, same_layout, stays}
use Rattle.tile_streaming.proofs.PermutedLemmas.{entries_parted}
use Rattle.tile_streaming.proofs.RootLemmas.{root_parts}
use Rattle.tile_streaming.proofs.StoredLemmas.{told_bytes}
use Rattle.tile_streaming.specs.Layouts.{has_digests, over_layout}
use Rattle.tile_streaming.specs.Overlaid.{HasParts, IsRoot, StandsFor}
use Rattle.tile_streaming.specs.Stored.{bytes_over, HasBytes, over_bytes, Stored}
use Rattle.tile_streaming.specs.declared.overlaid.Overlaid.{Overlaid}

-- tiles on the board are in range
on_range : (s : State) → AllOnBoard s → (p : Place) → contains_key s.tiles p ≡ true → InRange p
on_range s on p there = let h = on p there in record { zoom = omega (arith, h.zoom); column = h.column; row = h.row }

module _ (tells : Bool) (t : Tables) (x : Overlaid) (s : State) (stands : StandsFor tells t x s) where
  abbrev over : TileSet
  over = x.over.state.tiles

  abbrev stored : Stored
  stored = bytes_told x.rest.layout t

  set_ranged : (p : Place) → contains_key s.tiles p ≡ true → InRange p
  set_ranged = contained_ranged s.tiles (ranged_all (entries s.tiles) stands.ranged)

  rest_ranged : AllRanged (entries stands.tiles)
  rest_ranged = ranged_contained stands.tiles (λ p there. set_ranged p (ap is_some (stands.same p) ∙ by (get over p) (get stands.tiles p) there))
    where
      by : (a b : Option (Option (List ℕ))) → is_some b ≡ true → is_some (option_or a b) ≡ true
      by None b h = h
      by (Some c) b h = refl

  -- all marks are those of the set's tiles
  pub stands_marks : IsPermutation (map mark_of (entries s.tiles)) (x.rest.marks.items ++ map mark_of (entries over))
  stands_marks =
      let parted = IsPermutation-map mark_of (entries s.tiles) (entries over ++ entries stands.tiles) (entries_parted places_total places_antisymmetric s.tiles over stands.tiles stands.same stands.apart) in
      let apart = subst (IsPermutation (map mark_of (entries s.tiles))) (map-append mark_of (entries over) (entries stands.tiles)) parted in
      IsPermutation-trans (map mark_of (entries s.tiles)) (map mark_of (entries over) ++ map mark_of (entries stands.tiles)) (x.rest.marks.items ++ map mark_of (entries over)) apart
      (IsPermutation-trans (map mark_of (entries over) ++ map mark_of (entries stands.tiles)) (map mark_of (entries stands.tiles) ++ map mark_of (entries over)) (x.rest.marks.items ++ map mark_of (entries over))
      (IsPermutation-append_comm (map mark_of (entries over)) (map mark_of (entries stands.tiles)))
      (IsPermutation-append_left (map mark_of (entries over)) (map mark_of (entries stands.tiles)) x.rest.marks.items stands.marks))

  -- the marked set is what is held of the set
  pub settled : (m : MarkedSet) → m.layout ≡ x.rest.layout → m.algorithm ≡ x.over.state.algorithm → m.names ≡ x.over.state.metadata → IsPermutation (x.rest.marks.items ++ map mark_of (entries over)) m.marks.items → IsNonDecreasingBy (λ m. m.id) m.marks.items → IsMarkedAs s m
  settled m layout algorithm names same rising = record {
    layout = layout ∙ stands.layout;
    algorithm = algorithm ∙ stands.algorithm;
    names = names ∙ stands.names;
    ranged = stands.ranged;
    marks = record {
      same = IsPermutation-trans (map mark_of (entries s.tiles)) (x.rest.marks.items ++ map mark_of (entries over)) m.marks.items stands_marks same;
      rising = rising;
    };
  }

  -- the bytes of the tiles that are held, over those of the store, are those of the set
  pub stands_bytes : tells ≡ true → HasBytes (bytes_over over stored) s.tiles
  stands_bytes told p c there =
      let at = set_ranged p (ap is_some there) in
      ap (λ r. over_bytes (get over r) (stored (address p))) (place_again p at (address_within p at)) ∙ by (get over p) (get stands.tiles p) refl (sym (stands.same p) ∙ there)
    where
      by : (o r : Option (Option (List ℕ))) → get stands.tiles p ≡ r → option_or o r ≡ Some c → over_bytes o (stored (address p)) ≡ Some (bytes_of c)
      by None r e h = stands.has told p c (e ∙ h)
      by (Some d) r e h = ap (λ (o : Option (Option (List ℕ))). over_bytes o (stored (address p))) h

  -- after a patch
  module _ (q : State) (on : AllOnBoard q) where
    next_ranged : (p : Place) → contains_key (patched s.tiles q.tiles) p ≡ true → InRange p
    next_ranged p there = by (get q.tiles p) refl (sym (ap is_some (get-patched_by given p q.tiles s.tiles)) ∙ there)
      where
        by : (o : Option (Option (List ℕ))) → get q.tiles p ≡ o → is_some (patched_at given o (get s.tiles p)) ≡ true → InRange p
        by None e h = set_ranged p h
        by (Some c) e h = on_range q on p (ap is_some e)

    abbrev Free : Type 0
    Free = (digests : has_digests s.layout ≡ true) → find (λ b. is_other b (get (stands.parts digests).contents (Text (digest s.algorithm b)))) (bytes_put q.tiles) ≡ None

    next_parts : (y : Overlaid) → y.rest.layout ≡ x.rest.layout → y.over.state ≡ state_patched x.over.state q → y.rest.is_whole ≡ false → Free → has_digests s.layout ≡ true → HasParts tells t y.rest (left q.tiles stands.tiles) y.over.state (state_patched s q)
    next_parts y layout made some free digests =
        subst (λ (o : State). HasParts tells t y.rest (left q.tiles stands.tiles) o (state_patched s q)) (sym made)
        (parts_next tells t x.rest y.rest stands.tiles x.over.state s q (stands.parts digests) (stands.over ∙ same_layout s.layout digests) stands.algorithm digests (free digests) layout some)

    -- the tiles that are held are patched, and marks of places that the patch has go
    lies_next : (y : Overlaid) → y.rest.layout ≡ x.rest.layout → y.over.state ≡ state_patched x.over.state q → y.rest.marks.items ≡ filter (stays q.tiles) x.rest.marks.items → y.rest.is_whole ≡ false → Free → StandsFor tells t y (state_patched s q)
    lies_next y layout made rest some free = record {
      layout = layout ∙ stands.layout;
      tiles = left q.tiles stands.tiles;
      same = λ p. lies_over q.tiles s.tiles over stands.tiles p (stands.same p) ∙ ap (λ (u : State). option_or (get u.tiles p) (get (left q.tiles stands.tiles) p)) (sym made);
      apart = λ p there. apart_over q.tiles over stands.tiles p (stands.apart p) (ap (λ (u : State). contains_key u.tiles p) (sym made) ∙ there);
      names = ap (λ (u : State). u.metadata) made ∙ ap (λ (m : Names). meta_patched m q.metadata) stands.names;
      algorithm = ap (λ (u : State). u.algorithm) made ∙ stands.algorithm;
      marks = subst (IsPermutation (map mark_of (entries (left q.tiles stands.tiles)))) (sym rest) (marks_left q.tiles stands.tiles x.rest.marks.items rest_ranged stands.marks);
      rising = subst (IsNonDecreasingBy (λ m. m.id)) (sym rest) (IsNonDecreasingBy-filter (λ m. m.id) (stays q.tiles) x.rest.marks.items stands.rising);
      ranged = all_ranged (entries (patched s.tiles q.tiles)) (ranged_contained (patched s.tiles q.tiles) next_ranged);
      has = λ told p c there. ap (λ (l : MbtType). bytes_told l t (address p)) layout ∙ stands.has told p c (left_has q.tiles stands.tiles p c there);
      over = ap (λ (u : State). u.layout) made ∙ stands.over;
      parts = next_parts y layout made some free;
    }

    -- the same of a set that was edited
    pub lies_patched : (y : Overlaid) → y.rest.layout ≡ x.rest.layout → y.over ≡ held_patched x.over q → y.rest.marks.items ≡ filter (stays q.tiles) x.rest.marks.items → y.rest.is_whole ≡ false → Free → StandsFor tells t y (state_patched s q)
    lies_patched y layout made rest some free = lies_next y layout (ap (λ (h : Held). h.state) made ∙ patched_state x.over q) rest some free

-- a base of which marks are held, and no tile, before the first patch
pub marked_stands : (tells : Bool) (t : Tables) (x : Overlaid) (s : State) (m : MarkedSet) → IsMarkedAs s m → IsRoot tells t s → x.rest.layout ≡ m.layout → x.over.state.layout ≡ over_layout m.layout → x.over.state.algorithm ≡ m.algorithm → x.over.state.metadata ≡ m.names
    → x.over.state.tiles ≡ empty → x.over.state.ids ≡ empty → x.over.state.contents ≡ empty → x.rest.marks.items ≡ m.marks.items → x.rest.is_whole ≡ true → StandsFor tells t x s
marked_stands tells t x s m marked root layout over algorithm names tiles ids contents rest whole = record {
  layout = same_layouts;
  tiles = s.tiles;
  same = λ p. sym (ap (λ o. option_or o (get s.tiles p)) (nothing p));
  apart = λ p there. absurd (false≢true (sym (ap is_some (nothing p)) ∙ there));
  names = names ∙ marked.names;
  algorithm = algorithm ∙ marked.algorithm;
  marks = subst (IsPermutation (map mark_of (entries s.tiles))) (sym rest) marked.marks.same;
  rising = subst (IsNonDecreasingBy (λ m. m.id)) (sym rest) marked.marks.rising;
  ranged = marked.ranged;
  has = λ u. subst (λ (l : MbtType). HasBytes (bytes_told l t) s.tiles) (sym same_layouts) (told_bytes t s (root.sound u) (root.due u));
  over = over ∙ ap over_layout marked.layout;
  parts = λ digests. root_parts tells t s x.rest x.over.state root digests same_layouts whole ids contents;
}
  where
    same_layouts : x.rest.layout ≡ s.layout
    same_layouts = layout ∙ marked.layout

    nothing : (p : Place) → get x.over.state.tiles p ≡ None
    nothing p = ap (λ (t : TileSet). get t p) tiles ∙ get-empty place_cmp p
