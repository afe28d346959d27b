-- Ids and contents of a set after a patch: those of what patches put, over those of the base that stand.
use Rattle.tile_streaming.proofs.Common.{address, ap, Bool, same_Some, Cell, cell_at, cond, entries, false, false≢true, find, get, is_some, List, MbtType, None, none-some, not, Ok, Option, option_map, option_or, Place, place_cmp, refl, Some, State, subst, sym, Tables, tile_told, TileSet, true, ℕ, [], ◌||◌, ◌∙◌, ◌∷◌, ◌≡◌}
use Rattle.mb_edit.proofs.PatchedLemmas.{get-left, get-over, get-patched_by, or_none}
use Rattle.mb_edit.specs.Collision.{is_other}
use Rattle.mb_edit.specs.Common.{Blob, Contents, digest, FinMap, id_for, is_named, retain_keys, Text}
use Rattle.mb_edit.specs.Patched.{patched_at, patched_by}
use Rattle.mb_edit.specs.PatchingOrder.{bytes_put}
use Rattle.mb_edit.specs.Step.{content_entry, contents_over, state_patched}
use Rattle.mb_load.proofs.EditedFrom.{named_at}
use Rattle.mb_loaded.proofs.DroppedHeld.{contents_with}
use Rattle.mb_tables.proofs.TileLemmas.{places_total}
use Rattle.mb_tables.specs.CellOrder.{cells_total}
use Rattle.std.proofs.Common.{filter_map}
use Rattle.std.proofs.Math.Bool.{or-true}
use Rattle.std.specs.FinMap.{contains_key}
use Rattle.tile_streaming.proofs.NamedLemmas.{named_fewer, named_has, named_or}
use Rattle.tile_streaming.proofs.OverlayLemmas.{get_left, left}
use Rattle.tile_streaming.proofs.PutContentLemmas.{named_put, none_passes, not_other, put_has, put_named, put_under}
use Rattle.tile_streaming.specs.Collisions.{content_told}
use Rattle.tile_streaming.specs.Layouts.{has_digests}
use Rattle.tile_streaming.specs.Overlaid.{HasParts}
use Rattle.tile_streaming.specs.declared.rest.Rest.{Rest}

-- what one look-up has in parts, has them after the patch: under an id that tiles of the first have, or of the second
parted : (a b : Bool) (put over rest : Option Cell) → (a ≡ true → is_some (option_or put over) ≡ true) → (is_some put ≡ true → a ≡ true) → (b ≡ true → is_some rest ≡ true) → ((c d : Cell) → over ≡ Some c → rest ≡ Some d → c ≡ d)
    → cond (a || b) (option_or put (option_or over rest)) None ≡ option_or (cond a (option_or put over) None) (cond b rest None)
parted true b (Some x) over rest own named known alike = refl
parted true b None (Some c) rest own named known alike = refl
parted true b None None rest own named known alike = absurd (false≢true (own refl))
parted false b (Some x) over rest own named known alike = absurd (false≢true (named refl))
parted false false None over rest own named known alike = refl
parted false true None over None own named known alike = absurd (false≢true (known refl))
parted false true None None (Some d) own named known alike = refl
parted false true None (Some c) (Some d) own named known alike = ap Some (alike c d refl refl)

taken_out : {A : Type 0} (b : Bool) (o : Option A) (x : A) → cond b o None ≡ Some x → o ≡ Some x
taken_out true o x h = h
taken_out false o x h = absurd (none-some x h)

-- a set after a patch whose contents don't collide with those of the base
module _ (tells : Bool) (t : Tables) (rest after : Rest) (tiles : TileSet) (over s q : State) (parts : HasParts tells t rest tiles over s) (layout : over.layout ≡ s.layout) (algorithm : over.algorithm ≡ s.algorithm) (digests : has_digests s.layout ≡ true)
    (free : find (λ b. is_other b (get parts.contents (Text (digest s.algorithm b)))) (bytes_put q.tiles) ≡ None) (as_before : after.layout ≡ rest.layout) (some : after.is_whole ≡ false) where
  -- what is held, with the layout and the algorithm of the set written out
  abbrev held : State
  held = record over { layout = s.layout; algorithm = s.algorithm }

  abbrev given : List ℕ → Option Cell
  given = id_for s.layout s.algorithm

  abbrev ids : FinMap place_cmp Cell
  ids = retain_keys parts.ids (λ p. not (contains_key q.tiles p))

  abbrev contents : Contents
  contents = retain_keys parts.contents (is_named ids)

  get_ids : (p : Place) → get ids p ≡ cond (not (contains_key q.tiles p)) (get parts.ids p) None
  get_ids p = get-left places_total q.tiles (λ o. not (is_some o)) parts.ids p

  get_contents : (id : Cell) → get contents id ≡ cond (is_named ids id) (get parts.contents id) None
  get_contents id = contents_with ids parts.contents id

  -- the ids
  named : (p : Place) → get (state_patched s q).ids p ≡ option_or (get (state_patched held q).ids p) (get ids p)
  named p =
      get-patched_by given p q.tiles s.ids ∙ ap (patched_at given (get q.tiles p)) (parts.named p) ∙ by (get q.tiles p)
      ∙ (λ i. option_or (sym (get-patched_by given p q.tiles over.ids) i) (sym (get_ids p) i))
    where
      by : (o : Option (Option (List ℕ))) → patched_at given o (option_or (get over.ids p) (get parts.ids p)) ≡ option_or (patched_at given o (get over.ids p)) (cond (not (is_some o)) (get parts.ids p) None)
      by None = refl
      by (Some None) = refl
      by (Some (Some bytes)) = sym (or_none (given bytes))

  apart : (p : Place) → is_some (get (state_patched held q).ids p) ≡ true → get ids p ≡ None
  apart p there = get_ids p ∙ by (get q.tiles p) (sym (ap is_some (get-patched_by given p q.tiles over.ids)) ∙ there)
    where
      by : (o : Option (Option (List ℕ))) → is_some (patched_at given o (get over.ids p)) ≡ true → cond (not (is_some o)) (get parts.ids p) None ≡ None
      by None h = parts.apart p h
      by (Some c) h = refl

  fewer : (p : Place) (id : Cell) → get ids p ≡ Some id → get parts.ids p ≡ Some id
  fewer p id h = taken_out (not (contains_key q.tiles p)) (get parts.ids p) id (sym (get_ids p) ∙ h)

  named_before : (id : Cell) → is_named ids id ≡ true → is_named parts.ids id ≡ true
  named_before id h = named_fewer s ids parts.ids id (λ p. fewer p id) h

  -- the contents
  abbrev put : Cell → Option Cell
  put id = put_under s.layout s.algorithm digests id (entries q.tiles)

  get_over : (m : Contents) (id : Cell) → get (contents_over s.layout s.algorithm (bytes_put q.tiles) m) id ≡ option_or (put id) (get m id)
  get_over m id = get-over cells_total (filter_map (content_entry s.layout s.algorithm) (bytes_put q.tiles)) m id

  get_set : (id : Cell) → get (state_patched s q).contents id ≡ cond (is_named (state_patched s q).ids id) (option_or (put id) (get s.contents id)) None
  get_set id = contents_with (state_patched s q).ids (contents_over s.layout s.algorithm (bytes_put q.tiles) s.contents) id ∙ ap (λ o. cond (is_named (state_patched s q).ids id) o None) (get_over s.contents id)

  get_held : (id : Cell) → get (state_patched held q).contents id ≡ cond (is_named (state_patched held q).ids id) (option_or (put id) (get over.contents id)) None
  get_held id = contents_with (state_patched held q).ids (contents_over s.layout s.algorithm (bytes_put q.tiles) over.contents) id ∙ ap (λ o. cond (is_named (state_patched held q).ids id) o None) (get_over over.contents id)

  own_before : (id : Cell) → is_named (state_patched held q).ids id ≡ true → is_some (option_or (put id) (get over.contents id)) ≡ true
  own_before id h = by (put id) refl
    where
      by : (o : Option Cell) → put id ≡ o → is_some (option_or o (get over.contents id)) ≡ true
      by (Some c) e = refl
      by None e =
          let at = named_has s (state_patched held q).ids id h in
          parts.own id (named_there at.0 (named_put s.layout s.algorithm digests q.tiles over.ids at.0 id at.1 (ap is_some e)))
        where
          named_there : (p : Place) → get over.ids p ≡ Some id → is_named over.ids id ≡ true
          named_there p k = named_at over.ids p id k

  own : (id : Cell) → is_named (state_patched held q).ids id ≡ true → is_some (get (state_patched held q).contents id) ≡ true
  own id h = ap is_some (get_held id) ∙ (ap (λ b. is_some (cond b (option_or (put id) (get over.contents id)) None)) h ∙ own_before id h)

  known : (id : Cell) → is_named ids id ≡ true → is_some (get contents id) ≡ true
  known id h = ap is_some (get_contents id) ∙ (ap (λ b. is_some (cond b (get parts.contents id) None)) h ∙ parts.known id (named_before id h))

  stored : (id : Cell) → get (state_patched s q).contents id ≡ option_or (get (state_patched held q).contents id) (get contents id)
  stored id =
      get_set id
      ∙ (λ i. cond (named_or s (state_patched s q).ids (state_patched held q).ids ids id named apart i) (option_or (put id) (parts.stored id i)) None)
      ∙ parted (is_named (state_patched held q).ids id) (is_named ids id) (put id) (get over.contents id) (get parts.contents id) (own_before id) (put_named s.layout s.algorithm digests q.tiles over.ids id) (λ h. parts.known id (named_before id h)) (parts.alike id)
      ∙ (λ i. option_or (sym (get_held id) i) (sym (get_contents id) i))

  alike : (id c d : Cell) → get (state_patched held q).contents id ≡ Some c → get contents id ≡ Some d → c ≡ d
  alike id c d over_has rest_has = by (put id) refl (taken_out (is_named (state_patched held q).ids id) (option_or (put id) (get over.contents id)) c (sym (get_held id) ∙ over_has))
    where
      below : get parts.contents id ≡ Some d
      below = taken_out (is_named ids id) (get parts.contents id) d (sym (get_contents id) ∙ rest_has)

      by : (o : Option Cell) → put id ≡ o → option_or o (get over.contents id) ≡ Some c → c ≡ d
      by None e h = parts.alike id c d h below
      by (Some x) e h =
          let one = put_has s.layout s.algorithm digests id x (entries q.tiles) e in
          let not_any = none_passes (λ b. is_other b (get parts.contents (Text (digest s.algorithm b)))) one.place one.bytes (entries q.tiles) free one.there in
          let same = not_other one.bytes (get parts.contents (Text (digest s.algorithm one.bytes))) d not_any (ap (get parts.contents) one.is_id ∙ below) in
          sym (same_Some x c h) ∙ one.is_cell ∙ sym same

  -- what they are in tables
  only : (p : Place) → contains_key (left q.tiles tiles) p ≡ false → get ids p ≡ None
  only p h = get_ids p ∙ by (get q.tiles p) (sym (ap is_some (get_left q.tiles tiles p)) ∙ h)
    where
      by : (o : Option (Option (List ℕ))) → is_some (cond (not (is_some o)) (get tiles p) None) ≡ false → cond (not (is_some o)) (get parts.ids p) None ≡ None
      by None k = parts.only p k
      by (Some c) k = refl

  is_told : tells ≡ true → (p : Place) → contains_key (left q.tiles tiles) p ≡ true → get ids p ≡ option_map (cell_at 3) (tile_told after.layout t (address p))
  is_told u p h = get_ids p ∙ by (get q.tiles p) (sym (ap is_some (get_left q.tiles tiles p)) ∙ h) ∙ ap (λ (l : MbtType). option_map (cell_at 3) (tile_told l t (address p))) (sym as_before)
    where
      by : (o : Option (Option (List ℕ))) → is_some (cond (not (is_some o)) (get tiles p) None) ≡ true → cond (not (is_some o)) (get parts.ids p) None ≡ option_map (cell_at 3) (tile_told rest.layout t (address p))
      by None k = parts.is_told u p k
      by (Some c) k = absurd (false≢true k)

  stands : tells ≡ true → (d : List ℕ) → get contents (Text d) ≡ cond (after.is_whole || is_named ids (Text d)) (content_told t (Text d)) None
  stands u d =
      get_contents (Text d) ∙ ap (λ o. cond (is_named ids (Text d)) o None) (parts.stands u d)
      ∙ by (is_named ids (Text d)) refl ∙ ap (λ b. cond (b || is_named ids (Text d)) (content_told t (Text d)) None) (sym some)
    where
      by : (b : Bool) → is_named ids (Text d) ≡ b → cond b (cond (rest.is_whole || is_named parts.ids (Text d)) (content_told t (Text d)) None) None ≡ cond b (content_told t (Text d)) None
      by false e = refl
      by true e = ap (λ b. cond (rest.is_whole || b) (content_told t (Text d)) None) (named_before (Text d) e) ∙ ap (λ b. cond b (content_told t (Text d)) None) (or-true rest.is_whole)

  none : tells ≡ false → (id : Cell) → get contents id ≡ None
  none u id = get_contents id ∙ by (is_named ids id) (get parts.contents id) (parts.none u id)
    where
      by : (b : Bool) (o : Option Cell) → o ≡ None → cond b o None ≡ None
      by true o h = h
      by false o h = refl

  held_next : HasParts tells t after (left q.tiles tiles) (state_patched held q) (state_patched s q)
  held_next = record {
    ids = ids;
    contents = contents;
    named = named;
    apart = apart;
    stored = stored;
    alike = alike;
    own = own;
    known = known;
    only = only;
    is_told = is_told;
    stands = stands;
    none = none;
  }

  as_held : held ≡ over
  as_held = λ i. record over { layout = sym layout i; algorithm = sym algorithm i }

  pub parts_next : HasParts tells t after (left q.tiles tiles) (state_patched over q) (state_patched s q)
  parts_next = subst (λ (o : State). HasParts tells t after (left q.tiles tiles) (state_patched o q) (state_patched s q)) as_held held_next
