-- A set as it was loaded, from what is kept.
use Rattle.mb_loaded.proofs.Common.{All, All-head, All-tail, ap, Apart, apart_permuted, Cell, cell_cmp, cons_option, Content, content_at, Contents, contents_held, contents_of, Dates, entries_by}
use Rattle.mb_loaded.proofs.Common.{false≢true, FinMap, from_entries, get_or, HashAlgorithm, held_of, id_at, if_edited, is_some, IsPermutation, IsPermutation-sym, IsTile, Kept, List, map}
use Rattle.mb_loaded.proofs.Common.{map_permuted, MbtType, name_of, Names, names_held, nat_cmp, None, nothing_edited, Option, option_map, PatchType, Place, place_cmp, place_of, places_antisymmetric}
use Rattle.mb_loaded.proofs.Common.{places_total, refl, slice_cmp, Some, StoredName, StoredTile, suc, sym, tile_dates, tile_id, tile_value, tiles_held, TileSet, true, unless_removed, zero, ℕ, [], ◌∙◌}
use Rattle.mb_loaded.proofs.Common.{◌∷◌, ◌≡◌}
use Rattle.mb_loaded.specs.State.{State}

-- the order of tiles changes nothing that a set holds
pub held_permuted : (layout : MbtType) (algorithm : HashAlgorithm) (patch_type : Option PatchType) (contents : List Content) (order : List ℕ) (xs ys : List StoredTile) (names : List StoredName) → IsPermutation xs ys → Apart place_cmp place_of ys → held_of layout algorithm patch_type contents order ys names ≡ held_of layout algorithm patch_type contents order xs names
held_permuted layout algorithm patch_type contents order xs ys names p a = λ i. record {
  state = record {
    layout = layout;
    algorithm = algorithm;
    patch_type = patch_type;
    tiles = same (tile_value contents) i;
    metadata = names_held names;
    ids = same (tile_id contents) i;
    contents = contents_held contents order;
    dates = same tile_dates i;
  };
  edited = record {
    places = same (λ t. if_edited t.standing) i;
    ids = from_entries (entries_by (id_at contents) (λ i. if_edited (content_at contents i).standing) order);
    names = from_entries (entries_by name_of (λ n. if_edited n.standing) names);
  };
}
  where
    same : {V : Type 0} (value : StoredTile → Option V) → tiles_held value ys ≡ tiles_held value xs
    same value = map_permuted places_total places_antisymmetric place_of value xs ys (apart_permuted places_total place_of ys xs (IsPermutation-sym xs ys p) a) a p

-- nothing that is kept as loaded is edited
none_by : {K X V : Type 0} (key : X → K) (value : X → Option V) (xs : List X) → All (λ x. value x ≡ None) xs → entries_by key value xs ≡ []
none_by key value [] h = refl
none_by key value (x ∷ xs) h = ap (λ o. cons_option (option_map (λ v. (key x, v)) o) (entries_by key value xs)) (All-head (λ x. value x ≡ None) x xs h) ∙ none_by key value xs (All-tail (λ x. value x ≡ None) x xs h)

kept_at : (contents : List Content) (i : ℕ) → All (λ c. c.standing ≡ Kept) contents → (content_at contents i).standing ≡ Kept
kept_at [] i h = refl
kept_at (c ∷ cs) zero h = All-head (λ c. c.standing ≡ Kept) c cs h
kept_at (c ∷ cs) (suc i) h = kept_at cs i (All-tail (λ c. c.standing ≡ Kept) c cs h)

no_places : (tiles : List StoredTile) → All (λ t. t.standing ≡ Kept) tiles → tiles_held (λ t. if_edited t.standing) tiles ≡ from_entries []
no_places tiles h = ap (from_entries {R = place_cmp}) (none_by place_of (λ t. if_edited t.standing) tiles (λ i d lt. ap if_edited (h i d lt)))

no_ids : (contents : List Content) (order : List ℕ) → All (λ c. c.standing ≡ Kept) contents → entries_by (id_at contents) (λ i. if_edited (content_at contents i).standing) order ≡ []
no_ids contents order h = none_by (id_at contents) (λ i. if_edited (content_at contents i).standing) order (λ k d lt. ap if_edited (kept_at contents _ h))

no_names : (names : List StoredName) → All (λ n. n.standing ≡ Kept) names → entries_by name_of (λ n. if_edited n.standing) names ≡ []
no_names names h = none_by name_of (λ n. if_edited n.standing) names (λ i d lt. ap if_edited (h i d lt))

pub edited_none : (layout : MbtType) (algorithm : HashAlgorithm) (patch_type : Option PatchType) (contents : List Content) (order : List ℕ) (tiles : List StoredTile) (names : List StoredName) → All (λ c. c.standing ≡ Kept) contents → All (λ t. t.standing ≡ Kept) tiles → All (λ n. n.standing ≡ Kept) names → (held_of layout algorithm patch_type contents order tiles names).edited ≡ nothing_edited
edited_none layout algorithm patch_type contents order tiles names c t n = λ i. record {
  places = no_places tiles t i;
  ids = from_entries {R = cell_cmp} (no_ids contents order c i);
  names = from_entries {R = slice_cmp nat_cmp} (no_names names n i);
}

-- the state of what is kept is that of the rows
abbrev pub state_by : MbtType → HashAlgorithm → Option PatchType → TileSet → Names → FinMap place_cmp Cell → Contents → FinMap place_cmp Dates → State
state_by layout algorithm patch_type tiles names ids contents dates = record { layout = layout; algorithm = algorithm; patch_type = patch_type; tiles = tiles; metadata = names; ids = ids; contents = contents; dates = dates }

pub states_same : (layout : MbtType) (algorithm other : HashAlgorithm) (patch_type : Option PatchType) (tiles tiles' : TileSet) (names names' : Names) (ids ids' : FinMap place_cmp Cell) (contents contents' : Contents) (dates dates' : FinMap place_cmp Dates) → algorithm ≡ other → tiles ≡ tiles' → names ≡ names' → ids ≡ ids' → contents ≡ contents' → dates ≡ dates' → state_by layout algorithm patch_type tiles names ids contents dates ≡ state_by layout other patch_type tiles' names' ids' contents' dates'
states_same layout algorithm other patch_type tiles tiles' names names' ids ids' contents contents' dates dates' a t n d c e = λ i. record { layout = layout; algorithm = a i; patch_type = patch_type; tiles = t i; metadata = n i; ids = d i; contents = c i; dates = e i }

-- as many places stand in the entries as tiles do
pub places_listed : {V : Type 0} (value : StoredTile → Option V) (tiles : List StoredTile) → All (λ t. is_some (value t) ≡ true) tiles → map (λ (e : Place × V). e.0) (entries_by place_of value tiles) ≡ map place_of tiles
places_listed value [] h = refl
places_listed {V = V} value (t ∷ ts) h = by (value t) (All-head (λ t. is_some (value t) ≡ true) t ts h) (places_listed value ts (All-tail (λ t. is_some (value t) ≡ true) t ts h))
  where
    by : (o : Option V) → is_some o ≡ true → map (λ (e : Place × V). e.0) (entries_by place_of value ts) ≡ map place_of ts → map (λ (e : Place × V). e.0) (cons_option (option_map {U = Place × V} (λ v. (place_of t, v)) o) (entries_by place_of value ts)) ≡ place_of t ∷ map place_of ts
    by (Some v) k ih = ap (λ l. place_of t ∷ l) ih
    by None k ih = absurd (false≢true k)

pub tiles_are : (contents : List Content) (tiles : List StoredTile) → All (λ t. t.standing ≡ Kept) tiles → All (λ t. is_some (tile_value contents t) ≡ true) tiles → All (IsTile contents) tiles
tiles_are contents tiles k w = λ i d lt. one (get_or tiles i d) (k i d lt) (w i d lt)
  where
    one : (t : StoredTile) → t.standing ≡ Kept → is_some (tile_value contents t) ≡ true → IsTile contents t
    one t k w = λ live. ap (λ s. is_some (unless_removed s (contents_of (content_at contents t.contents).cell))) (sym k) ∙ w
