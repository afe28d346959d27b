-- Tiles of a batch that are put one after another.
use Rattle.mb_insert.proofs.Common.{ap, append-nil, append_assoc, Bool, cond, contains_key, drop, empty, entry_of, eq_by_cmp, Err, false, filter, from_entries, get, get-empty, get-insert, Held, IfOk}
use Rattle.mb_insert.proofs.Common.{insert, is_missing, is_some, length, List, list_any, map, NewTile, Ok, Option, Place, place_cmp, place_in, places_total, refl, Result, reverse, Some, sym, TileSet}
use Rattle.mb_insert.proofs.Common.{true, ℕ, [], ◌++◌, ◌||◌, ◌∙◌, ◌∷◌, ◌≡◌, ◌≤◌}
use Rattle.std.proofs.lemmas.List.{drop_all, map-append, reverse-append}

-- each over those before it
abbrev pub put_in_turn : TileSet → List NewTile → TileSet
put_in_turn tiles [] = tiles
put_in_turn tiles (t ∷ ts) = put_in_turn (insert tiles (place_in t) (Some t.tile_data)) ts

-- the entries of a list, of which the first of a place counts
abbrev pub by_first : List (Place × Option (List ℕ)) → TileSet
by_first es = from_entries es

turned : (t : NewTile) (ts : List NewTile) (es : List (Place × Option (List ℕ))) → map entry_of (reverse (t ∷ ts)) ++ es ≡ map entry_of (reverse ts) ++ entry_of t ∷ es
turned t ts es =
    ap (λ (l : List NewTile). map entry_of l ++ es) (reverse-append (t ∷ []) ts)
    ∙ (ap (λ (l : List (Place × Option (List ℕ))). l ++ es) (map-append entry_of (reverse ts) (t ∷ []))
    ∙ append_assoc (map entry_of (reverse ts)) (entry_of t ∷ []) es)

in_turn : (es : List (Place × Option (List ℕ))) (ts : List NewTile) → put_in_turn (by_first es) ts ≡ by_first (map entry_of (reverse ts) ++ es)
in_turn es [] = refl
in_turn es (t ∷ ts) = in_turn (entry_of t ∷ es) ts ∙ ap by_first (sym (turned t ts es))

pub all_in_turn : (ts : List NewTile) → put_in_turn empty ts ≡ by_first (map entry_of (reverse ts))
all_in_turn ts = in_turn [] ts ∙ ap by_first (append-nil (map entry_of (reverse ts)))

pub all_put : (tiles all : TileSet) (ts : List NewTile) (n : ℕ) → length ts ≤ n → put_in_turn tiles (drop n ts) ≡ all → tiles ≡ all
all_put tiles all ts n h done = ap (put_in_turn tiles) (sym (drop_all n ts h)) ∙ done

-- a set in order again has the tiles that it had
pub settled : {E : Type 0} (r : Result Held E) (h : Held) (tiles : TileSet) → h.state.tiles ≡ tiles → IfOk r (λ l. l ≡ h) → IfOk r (λ l. l.state.tiles ≡ tiles)
settled (Ok l) h tiles e is = ap (λ (x : Held). x.state.tiles) is ∙ e
settled (Err x) h tiles e is = is

-- those of places at which a set has none, from the last to the first
abbrev pub missing_of : TileSet → List NewTile → TileSet
missing_of set ts = by_first (map entry_of (filter (is_missing set) ts))

-- which places stand in a list
pub is_some_cond : {A : Type 0} (b : Bool) (x : A) (o : Option A) → is_some (cond b (Some x) o) ≡ (b || is_some o)
is_some_cond true x o = refl
is_some_cond false x o = refl

pub contained : (ts : List NewTile) (p : Place) → contains_key (by_first (map entry_of ts)) p ≡ list_any (eq_by_cmp place_cmp p) (map place_in ts)
contained [] p = ap is_some (get-empty place_cmp p)
contained (t ∷ ts) p =
    ap is_some (get-insert places_total (by_first (map entry_of ts)) (place_in t) (Some t.tile_data) p)
    ∙ (is_some_cond (eq_by_cmp place_cmp p (place_in t)) (Some t.tile_data) (get (by_first (map entry_of ts)) p)
    ∙ ap (λ b. eq_by_cmp place_cmp p (place_in t) || b) (contained ts p))
