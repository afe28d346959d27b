-- What counts as edited after a patch.
use Rattle.mb_edit.proofs.Common.{ap, Bool, cond, contains_key, entries, eq_by_cmp, false, find, from_last, get, get-entries, get-insert, Held, held_patched, insert, is_some, landed, List}
use Rattle.mb_edit.proofs.Common.{name_patched, names_patched, None, null_cleared, Option, or-false, Place, place_cmp, places_total, refl, Some, State, sym, tile_patched, tiles_patched, true}
use Rattle.mb_edit.proofs.Common.{with_name, ℕ, [], ◌||◌, ◌∙◌, ◌∷◌, ◌≡◌}

is_some_cond : {A B : Type 0} (b : Bool) (x : A) (y : B) (o : Option A) (r : Option B) (h : Bool) → is_some o ≡ (h || is_some r) → is_some (cond b (Some x) o) ≡ (h || is_some (cond b (Some y) r))
is_some_cond true x y o r true e = refl
is_some_cond true x y o r false e = refl
is_some_cond false x y o r h e = e

-- a tile of a patch is edited, whether it is put or cleared
tile_edited : (h : Held) (p : Place) (o : Option (List ℕ)) → (tile_patched h (p, o)).edited.places ≡ insert h.edited.places p tt
tile_edited h p (Some bytes) = refl
tile_edited h p None = refl

pub tiles_edited : (h : Held) (q : Place) (es : List (Place × Option (List ℕ))) → contains_key (from_last tile_patched h es).edited.places q ≡ (contains_key h.edited.places q || is_some (find place_cmp q es))
tiles_edited h q [] = sym (or-false (contains_key h.edited.places q))
tiles_edited h q (e ∷ es) =
    ap (λ m. contains_key m q) (tile_edited (from_last tile_patched h es) e.0 e.1)
    ∙ (ap is_some (get-insert places_total (from_last tile_patched h es).edited.places e.0 tt q)
    ∙ is_some_cond (eq_by_cmp place_cmp q e.0) tt e.1 (get (from_last tile_patched h es).edited.places q) (find place_cmp q es) (contains_key h.edited.places q) (tiles_edited h q es))

-- names aren't places
name_edited : (h : Held) (e : List ℕ × Option (List ℕ)) → (name_patched h e).edited.places ≡ h.edited.places
name_edited h e = by (landed e)
  where
    by : (o : Option (List ℕ × Option (List ℕ))) → (elim o as (λ _. Held) [ Some put ↦ with_name h put.0 put.1 | None ↦ h ]).edited.places ≡ h.edited.places
    by (Some put) = refl
    by None = refl

names_edited : (h : Held) (es : List (List ℕ × Option (List ℕ))) → (from_last name_patched h es).edited.places ≡ h.edited.places
names_edited h [] = refl
names_edited h (e ∷ es) = name_edited (from_last name_patched h es) e ∙ names_edited h es

null_edited : (h : Held) (name : List ℕ) (o : Option (List ℕ)) → (null_cleared h (name, o)).edited.places ≡ h.edited.places
null_edited h name (Some text) = refl
null_edited h name None = refl

nulls_edited : (h : Held) (es : List (List ℕ × Option (List ℕ))) → (from_last null_cleared h es).edited.places ≡ h.edited.places
nulls_edited h [] = refl
nulls_edited h (e ∷ es) = null_edited (from_last null_cleared h es) e.0 e.1 ∙ nulls_edited h es

-- the places that are edited after a patch are those that were and those that the patch names
pub places_edited : (h : Held) (patch : State) (q : Place) → contains_key (held_patched h patch).edited.places q ≡ (contains_key h.edited.places q || contains_key patch.tiles q)
places_edited h patch q =
    ap (λ m. contains_key m q) (nulls_edited (names_patched (tiles_patched h patch) patch) (entries patch.metadata) ∙ names_edited (tiles_patched h patch) (entries patch.metadata))
    ∙ (tiles_edited h q (entries patch.tiles)
    ∙ ap (λ o. contains_key h.edited.places q || is_some o) (sym (get-entries patch.tiles q)))
