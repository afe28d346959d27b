-- Ids and contents of a base before its first patch.
use Rattle.tile_streaming.proofs.Common.{address, ap, Bool, Cell, cell_at, cond, contents_of, empty, entries, false, false≢true, get, get-empty, is_normalized, is_some, IsLoadable, List, MbtType, None, none-some, Ok, Option, option_map, option_or, Place, place_cmp, refl, Some, State, state_whole, subst, sym, Tables, tile_told, true, ℕ, [], ◌&&◌, ◌||◌, ◌∙◌, ◌≡◌}
use Rattle.mb_edit.specs.Common.{cell_cmp, Contents, FinMap, is_named, Text}
use Rattle.std.proofs.Math.Bool.{and-false}
use Rattle.std.specs.FinMap.{contains_key}
use Rattle.std.specs.Prelude.{option_and_then}
use Rattle.tile_streaming.proofs.NamedLemmas.{named_has}
use Rattle.tile_streaming.proofs.StoredLemmas.{digest_named, has_there, state_ranged, told_content, told_id}
use Rattle.tile_streaming.specs.Collisions.{content_told}
use Rattle.tile_streaming.specs.Layouts.{has_digests}
use Rattle.tile_streaming.specs.Overlaid.{HasParts, IsRoot}
use Rattle.tile_streaming.specs.declared.rest.Rest.{Rest}

none_there : {A : Type 0} (o : Option A) → is_some o ≡ false → o ≡ None
none_there None h = refl
none_there (Some x) h = absurd (false≢true (sym h))

module _ (tells : Bool) (t : Tables) (s : State) (rest : Rest) (over : State) (root : IsRoot tells t s) (digests : has_digests s.layout ≡ true) (layout : rest.layout ≡ s.layout) (whole : rest.is_whole ≡ true) (ids : over.ids ≡ empty) (contents : over.contents ≡ empty) where
  no_id : (p : Place) → get over.ids p ≡ None
  no_id p = ap (λ (m : FinMap place_cmp Cell). get m p) ids ∙ get-empty place_cmp p

  no_content : (id : Cell) → get over.contents id ≡ None
  no_content id = ap (λ (m : Contents). get m id) contents ∙ get-empty cell_cmp id

  norm : is_normalized s.layout ≡ true
  norm = digest_named s.layout digests

  -- a base that tells nothing has no ids, and no contents
  untold_id : tells ≡ false → (p : Place) → get s.ids p ≡ None
  untold_id u p = ap (λ (m : FinMap place_cmp Cell). get m p) (root.ids u) ∙ get-empty place_cmp p

  untold_content : tells ≡ false → (id : Cell) → get s.contents id ≡ None
  untold_content u id = ap (λ (m : Contents). get m id) (root.contents u) ∙ get-empty cell_cmp id

  loads : tells ≡ true → IsLoadable s
  loads u = (state_whole t s (root.due u)).0

  tile_joined : (o : Option Cell) (id : Cell) → is_some (option_and_then (λ id. option_and_then contents_of (get s.contents id)) o) ≡ true → o ≡ Some id → is_some (get s.contents id) ≡ true
  tile_joined o id h is = by (get s.contents id) (subst (λ x. is_some (option_and_then (λ id. option_and_then contents_of (get s.contents id)) x) ≡ true) is h)
    where
      by : (c : Option Cell) → is_some (option_and_then contents_of c) ≡ true → is_some c ≡ true
      by None k = k
      by (Some c) k = refl

  known : (id : Cell) → is_named s.ids id ≡ true → is_some (get s.contents id) ≡ true
  known id h = by tells refl
    where
      by : (b : Bool) → tells ≡ b → is_some (get s.contents id) ≡ true
      by false u = let at = named_has s s.ids id h in absurd (none-some id (sym (untold_id u at.0) ∙ at.1))
      by true u =
          let at = named_has s s.ids id h in
          let placed : contains_key s.tiles at.0 ≡ true = sym (ap (λ b. b && contains_key s.tiles at.0) norm) ∙ (sym ((loads u).placed at.0) ∙ ap is_some at.1) in
          tile_joined (get s.ids at.0) id (ap is_some (sym ((loads u).joined norm at.0)) ∙ placed) at.1

  only : (p : Place) → contains_key s.tiles p ≡ false → get s.ids p ≡ None
  only p h = by tells refl
    where
      by : (b : Bool) → tells ≡ b → get s.ids p ≡ None
      by false u = untold_id u p
      by true u = none_there (get s.ids p) ((loads u).placed p ∙ ap (λ b. is_normalized s.layout && b) h ∙ and-false (is_normalized s.layout))

  is_told : tells ≡ true → (p : Place) → contains_key s.tiles p ≡ true → get s.ids p ≡ option_map (cell_at 3) (tile_told rest.layout t (address p))
  is_told u p there = by (get s.tiles p) refl there ∙ ap (λ (l : MbtType). option_map (cell_at 3) (tile_told l t (address p))) (sym layout)
    where
      by : (o : Option (Option (List ℕ))) → get s.tiles p ≡ o → is_some o ≡ true → get s.ids p ≡ option_map (cell_at 3) (tile_told s.layout t (address p))
      by None e h = absurd (false≢true h)
      by (Some c) e h = let entry = has_there s.tiles p c e in told_id t s (root.sound u) (root.due u) (p, c) entry (state_ranged t s (root.due u) (p, c) entry) norm

  pub root_parts : HasParts tells t rest s.tiles over s
  root_parts = record {
    ids = s.ids;
    contents = s.contents;
    named = λ p. sym (ap (λ o. option_or o (get s.ids p)) (no_id p));
    apart = λ p h. absurd (false≢true (sym (ap is_some (no_id p)) ∙ h));
    stored = λ id. sym (ap (λ o. option_or o (get s.contents id)) (no_content id));
    alike = λ id c d h k. absurd (none-some c (sym (no_content id) ∙ h));
    own = λ id h. let at = named_has s over.ids id h in absurd (none-some id (sym (no_id at.0) ∙ at.1));
    known = known;
    only = only;
    is_told = is_told;
    stands = λ u d. sym (ap (λ b. cond (b || is_named s.ids (Text d)) (content_told t (Text d)) None) whole ∙ told_content t s (root.sound u) (root.due u) digests d);
    none = untold_content;
  }
