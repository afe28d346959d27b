-- What calls in a row give.
use Rattle.mb_access.proofs.Common.{and_parts, ap, Bool, cons_option, Err, false≢true, filter_map, GivesCoord, GivesTile, is_ok, left_of, List, list_all, map, None, none-some, Ok, Option, Place}
use Rattle.mb_access.proofs.Common.{place_at, refl, same_Some, set_of, Some, StreamsCoord, StreamState, StreamsTile, subst, sym, Tables, Tile, TileSet, true, Yields, ℕ, [], ◌++◌, ◌∙◌, ◌∷◌, ◌≡◌}
use Rattle.mb_access.specs.StreamRuns.{CoordItem, TileItem, place_in, tile_in}
use Rattle.mb_access.specs.declared.streams.Coords.{Coords}
use Rattle.mb_access.specs.declared.streams.Tiles.{Tiles}

no_front : {B : Type 0} (xs ys : List B) → [] ≡ xs ++ ys → xs ≡ []
no_front [] ys h = refl
no_front (x ∷ xs) ys h = absurd (none x (xs ++ ys) h)
  where
    none : {B : Type 0} (x : B) (zs : List B) → [] ≡ x ∷ zs → ⊥
    none x zs h = cc

-- an item is the first of what is left, or an error, behind which nothing is left; and at the end nothing was left
pub record GoesOn {T A B : Type 0} (steps : T → Option A → T → Type 0) (left : T → List B) (Keeps : T → Type 0) (shown : A → Option B) (sure : A → Bool) : Type 0 where
  pub keeps : (s : T) (x : A) (u : T) → Keeps s → steps s (Some x) u → Keeps u
  pub gives : (s : T) (x : A) (b : B) (u : T) → Keeps s → steps s (Some x) u → shown x ≡ Some b → left s ≡ b ∷ left u
  pub ends : (s : T) (x : A) (u : T) → Keeps s → steps s (Some x) u → shown x ≡ None → left u ≡ []
  pub last : (s u : T) → Keeps s → steps s None u → left s ≡ []
  pub shows : (x : A) → sure x ≡ true → shown x ≡ None → ⊥

module _ {T A B : Type 0} (steps : T → Option A → T → Type 0) (left : T → List B) (Keeps : T → Type 0) (shown : A → Option B) (sure : A → Bool) (w : GoesOn steps left Keeps shown sure) where
  pub front : (s : T) (xs : List A) (t : T) → Keeps s → Yields steps s xs t → (more : List B) × (left s ≡ filter_map shown xs ++ more)
  front s [] t k y = (left s, refl)
  front s (x ∷ xs) t k y = by (shown x) refl (front y.0 xs t (w.keeps s x y.0 k y.1) y.2)
    where
      by : (o : Option B) → shown x ≡ o → ((more : List B) × (left y.0 ≡ filter_map shown xs ++ more)) → (more : List B) × (left s ≡ cons_option o (filter_map shown xs) ++ more)
      by (Some b) e m = (m.0, w.gives s x b y.0 k y.1 e ∙ ap (λ (l : List B). b ∷ l) m.1)
      by None e m = (left s, ap (λ (l : List B). l ++ left s) (sym (no_front (filter_map shown xs) m.0 (sym (w.ends s x y.0 k y.1 e) ∙ m.1))))

  pub whole : (s : T) (xs : List A) (u t : T) → Keeps s → Yields steps s xs u → steps u None t → list_all sure xs ≡ true → left s ≡ filter_map shown xs
  whole s [] u t k y end ok = w.last s t k (subst (λ (v : T). steps v None t) (sym y) end)
  whole s (x ∷ xs) u t k y end ok =
      let two = and_parts (sure x) (list_all sure xs) ok in
      by (shown x) refl (whole y.0 xs u t (w.keeps s x y.0 k y.1) y.2 end two.1) two.0
    where
      by : (o : Option B) → shown x ≡ o → left y.0 ≡ filter_map shown xs → sure x ≡ true → left s ≡ cons_option o (filter_map shown xs)
      by (Some b) e rest one = w.gives s x b y.0 k y.1 e ∙ ap (λ (l : List B). b ∷ l) rest
      by None e rest one = absurd (w.shows x one e)

some_none : {B : Type 0} (b : B) → Some b ≡ None → ⊥
some_none b h = cc

abbrev fronts : List Tile → List Place
fronts es = map (λ (e : Tile). e.0) es

coord_gives : (tiles : TileSet) (items rest : List Tile) (x : CoordItem) (p : Place) → GivesCoord tiles items (Some x) rest → place_in x ≡ Some p → fronts items ≡ p ∷ fronts rest
coord_gives tiles items rest (Ok c) p g e = ap fronts g ∙ ap (λ (q : Place). q ∷ fronts rest) (same_Some (place_at c) p e)
coord_gives tiles items rest (Err r) p g e = absurd (none-some p e)

coord_ends : (tiles : TileSet) (items rest : List Tile) (x : CoordItem) → GivesCoord tiles items (Some x) rest → place_in x ≡ None → fronts rest ≡ []
coord_ends tiles items rest (Ok c) g e = absurd (some_none (place_at c) e)
coord_ends tiles items rest (Err r) g e = ap fronts g

coord_shows : (x : CoordItem) → is_ok x ≡ true → place_in x ≡ None → ⊥
coord_shows (Ok c) ok e = some_none (place_at c) e
coord_shows (Err r) ok e = false≢true ok

tile_gives : (items rest : List Tile) (x : TileItem) (b : Tile) → GivesTile items (Some x) rest → tile_in x ≡ Some b → items ≡ b ∷ rest
tile_gives items rest (Ok c) b g e = g ∙ ap (λ (q : Tile). q ∷ rest) (same_Some (place_at c.0, c.1) b e)
tile_gives items rest (Err r) b g e = absurd (none-some b e)

tile_ends : (items rest : List Tile) (x : TileItem) → GivesTile items (Some x) rest → tile_in x ≡ None → rest ≡ []
tile_ends items rest (Ok c) g e = absurd (some_none (place_at c.0, c.1) e)
tile_ends items rest (Err r) g e = g

tile_shows : (x : TileItem) → is_ok x ≡ true → tile_in x ≡ None → ⊥
tile_shows (Ok c) ok e = some_none (place_at c.0, c.1) e
tile_shows (Err r) ok e = false≢true ok

module _ {S : Type 0} (holds : S → Tables) (shows : S → Bool) (failed : S → ℕ) (unfailing : S → Type 0) (told : Tables) where
  abbrev pub CoordsKeep : Coords S StreamState → Type 0
  CoordsKeep s = (shows s.store.now ≡ true) × (holds s.store.now ≡ told)

  pub coords_go_on : GoesOn (StreamsCoord holds shows failed unfailing) (λ s. fronts (left_of told s.state)) CoordsKeep place_in is_ok
  coords_go_on = record {
    keeps = λ s x u k step. (step.kept.tells ∙ k.0, step.kept.told ∙ k.1);
    gives = λ s x b u k step e. coord_gives (set_of s.state).tiles (left_of told s.state) (left_of told u.state) x b (subst (λ (t : Tables). GivesCoord (set_of s.state).tiles (left_of t s.state) (Some x) (left_of t u.state)) k.1 (step.items k.0)) e;
    ends = λ s x u k step e. coord_ends (set_of s.state).tiles (left_of told s.state) (left_of told u.state) x (subst (λ (t : Tables). GivesCoord (set_of s.state).tiles (left_of t s.state) (Some x) (left_of t u.state)) k.1 (step.items k.0)) e;
    last = λ s u k step. ap fronts (subst (λ (t : Tables). left_of t s.state ≡ []) k.1 (step.items k.0).0);
    shows = coord_shows;
  }

  abbrev pub TilesKeep : Tiles S StreamState → Type 0
  TilesKeep s = (shows s.store.now ≡ true) × (holds s.store.now ≡ told)

  pub tiles_go_on : GoesOn (StreamsTile holds shows failed unfailing) (λ s. left_of told s.state) TilesKeep tile_in is_ok
  tiles_go_on = record {
    keeps = λ s x u k step. (step.kept.tells ∙ k.0, step.kept.told ∙ k.1);
    gives = λ s x b u k step e. tile_gives (left_of told s.state) (left_of told u.state) x b (subst (λ (t : Tables). GivesTile (left_of t s.state) (Some x) (left_of t u.state)) k.1 (step.items k.0)) e;
    ends = λ s x u k step e. tile_ends (left_of told s.state) (left_of told u.state) x (subst (λ (t : Tables). GivesTile (left_of t s.state) (Some x) (left_of t u.state)) k.1 (step.items k.0)) e;
    last = λ s u k step. subst (λ (t : Tables). left_of t s.state ≡ []) k.1 (step.items k.0).0;
    shows = tile_shows;
  }
