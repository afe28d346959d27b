-- A set after a batch has it over it, or under it.
use Rattle.mb_insert.proofs.Common.{ap, Bool, cond, contains_key, entries, entry_of, eq_by_cmp, Equal-is, false, filter, find, get, get-entries, get-from_entries, is_missing, is_some, List, map}
use Rattle.mb_insert.proofs.Common.{NewTile, None, not, Option, Place, place_cmp, place_in, places_antisymmetric, places_total, refl, reverse, same_map, Some, sym, TileSet, true, ℕ, [], ◌++◌, ◌∙◌}
use Rattle.mb_insert.proofs.Common.{◌∷◌, ◌≡◌}
use Rattle.std.specs.Option.{option_or}
use Rattle.mb_edit.proofs.LawLemmas.{get-patched}
use Rattle.mb_edit.proofs.PatchedLemmas.{find-join, get-over}
use Rattle.mb_edit.specs.Patched.{patched, patched_at}
use Rattle.mb_insert.proofs.ChosenLemmas.{by_first, missing_of}

abbrev Held_at : Type 0
Held_at = Option (Option (List ℕ))

abbrev kept : List ℕ → Held_at
kept bytes = Some (Some bytes)

abbrev find_in : Place → List NewTile → Held_at
find_in p ts = find place_cmp p (map entry_of ts)

-- new tiles have bytes, so that what is found of them is put
solid_found : (p : Place) (ts : List NewTile) (had : Held_at) → patched_at kept (find_in p ts) had ≡ option_or (find_in p ts) had
solid_found p [] had = refl
solid_found p (t ∷ ts) had = by (eq_by_cmp place_cmp p (place_in t)) (solid_found p ts had)
  where
    by : (b : Bool) → patched_at kept (find_in p ts) had ≡ option_or (find_in p ts) had → patched_at kept (cond b (Some (Some t.tile_data)) (find_in p ts)) had ≡ option_or (cond b (Some (Some t.tile_data)) (find_in p ts)) had
    by true rest = refl
    by false rest = rest

pub over_it : (tiles : TileSet) (ts : List NewTile) → patched tiles (by_first (map entry_of (reverse ts))) ≡ by_first (map entry_of (reverse ts) ++ entries tiles)
over_it tiles ts = same_map places_total places_antisymmetric _ _ (λ p.
    get-patched tiles (by_first (map entry_of (reverse ts))) p
    ∙ (ap (λ o. patched_at kept o (get tiles p)) (get-from_entries places_total (map entry_of (reverse ts)) p)
    ∙ (solid_found p (reverse ts) (get tiles p)
    ∙ sym (get-over places_total (map entry_of (reverse ts)) tiles p))))

-- what is found of the tiles of places at which a set has none: whether it has the place of the first (a), whether that
-- is the place (e), and whether it has the place (c)
neither : (c : Bool) (o : Held_at) → o ≡ None → o ≡ cond c None o
neither true o h = h
neither false o h = refl

found_step : (a e c : Bool) (bytes : List ℕ) (left all : Held_at) → (e ≡ true → c ≡ a) → left ≡ cond c None all → cond (not a) (cond e (Some (Some bytes)) left) left ≡ cond c None (cond e (Some (Some bytes)) all)
found_step true true c bytes left all same h = h ∙ (ap (λ b. cond b None all) (same refl) ∙ ap (λ b. cond b None (Some (Some bytes))) (sym (same refl)))
found_step false true c bytes left all same h = ap (λ b. cond b None (Some (Some bytes))) (sym (same refl))
found_step _ _ c bytes left all same h = h

found_cond : (p : Place) (t : NewTile) (ts : List NewTile) (b : Bool) → find_in p (cond b (t ∷ ts) ts) ≡ cond b (cond (eq_by_cmp place_cmp p (place_in t)) (Some (Some t.tile_data)) (find_in p ts)) (find_in p ts)
found_cond p t ts true = refl
found_cond p t ts false = refl

missing_found : (set : TileSet) (p : Place) (ts : List NewTile) → find_in p (filter (is_missing set) ts) ≡ cond (contains_key set p) None (find_in p ts)
missing_found set p [] = neither (contains_key set p) None refl
missing_found set p (t ∷ ts) =
    found_cond p t (filter (is_missing set) ts) (not (contains_key set (place_in t)))
    ∙ found_step (contains_key set (place_in t)) (eq_by_cmp place_cmp p (place_in t)) (contains_key set p) t.tile_data (find_in p (filter (is_missing set) ts)) (find_in p ts)
    (λ e. ap (contains_key set) (places_antisymmetric p (place_in t) ((Equal-is (place_cmp p (place_in t))).0 e))) (missing_found set p ts)

-- where a set has nothing, what is found counts
under_one : (had found : Held_at) → patched_at kept found None ≡ option_or found None → patched_at kept (cond (is_some had) None found) had ≡ option_or had found
under_one (Some x) found h = refl
under_one None found h = h ∙ or_none found
  where
    or_none : (o : Held_at) → option_or o None ≡ o
    or_none None = refl
    or_none (Some x) = refl

pub under_it : (tiles : TileSet) (ts : List NewTile) → patched tiles (missing_of tiles ts) ≡ by_first (entries tiles ++ map entry_of ts)
under_it tiles ts = same_map places_total places_antisymmetric _ _ (λ p.
    get-patched tiles (missing_of tiles ts) p
    ∙ (ap (λ o. patched_at kept o (get tiles p)) (get-from_entries places_total (map entry_of (filter (is_missing tiles) ts)) p ∙ missing_found tiles p ts)
    ∙ (under_one (get tiles p) (find_in p ts) (solid_found p ts None)
    ∙ (ap (λ o. option_or o (find_in p ts)) (get-entries tiles p)
    ∙ (sym (find-join place_cmp p (entries tiles) (map entry_of ts))
    ∙ sym (get-from_entries places_total (entries tiles ++ map entry_of ts) p))))))
