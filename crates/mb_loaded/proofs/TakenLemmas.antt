-- Contents that are taken out of their list, and the last use of each.
use Rattle.mb_loaded.proofs.Common.{All, All-head, All-tail, ap, Apart, AreLast, AreUnspent, arith, Bool, cases_eq, cases_lt, cell_cmp, cells_kept, cells_total, Change, change_by, cond, Content}
use Rattle.mb_loaded.proofs.Common.{content_change, content_table, contents_of, drop, drop_more, eq_by_cmp, false, false≢true, filter_map, front, get_or, get_or_from_slice_get, HashAlgorithm, HasId}
use Rattle.mb_loaded.proofs.Common.{id_at, inl, inr, is_eq, is_null, is_some, IsSpent, IsTile, Kept, length, length-drop, length-set, List, listed_change, MbtType, nat_eq, nat_lt, nat_tests, None}
use Rattle.mb_loaded.proofs.Common.{nothing, Option, place_cmp, place_of, Put, refl, Removed, same_Some, set, slice_get, slice_get-get_or, slice_get_within, Some, Spends, Standing, StoredTile, suc}
use Rattle.mb_loaded.proofs.Common.{sym, table_eq, take, taken, tied_itself, tile_change, tile_key, tile_table, true, unwrap_or, with_any, zero, ℕ, [], ◌++◌, ◌+◌, ◌<◌, ◌∙◌, ◌∷◌, ◌≡◌, ◌≢◌, ◌≤◌, ◌⊎◌}
use Rattle.mb_loaded.proofs.ChangeSteps.{listed_step, tile_step}

-- what stands in a list after one item was replaced
pub set_apart : {X : Type 0} (xs : List X) (i k : ℕ) (x : X) → k ≢ i → slice_get (set xs i x) k ≡ slice_get xs k
set_apart (z ∷ xs) zero zero x h = absurd (h refl)
set_apart (z ∷ xs) (suc i) (suc k) x h = set_apart xs i k x (λ e. h (ap suc e))
set_apart _ _ _ x h = refl

pub set_here : {X : Type 0} (xs : List X) (i : ℕ) (x : X) → i < length xs → slice_get (set xs i x) i ≡ Some x
set_here [] i x h = absurd (omega (arith, h))
set_here (z ∷ xs) zero x h = refl
set_here (z ∷ xs) (suc i) x h = set_here xs i x (omega (arith, h))

set_either : {X : Type 0} (xs : List X) (i k : ℕ) (x y : X) → slice_get xs k ≡ Some y → (slice_get (set xs i x) k ≡ Some x) ⊎ (slice_get (set xs i x) k ≡ Some y)
set_either (z ∷ xs) zero zero x y h = inl refl
set_either (z ∷ xs) (suc i) (suc k) x y h = set_either xs i k x y h
set_either _ _ _ x y h = inr h

-- the last uses by the tiles before an index
abbrev pub LastBelow : ℕ → List StoredTile → List ℕ → Type 0
LastBelow n tiles last = (j : ℕ) (t : StoredTile) → j < n → slice_get tiles j ≡ Some t → t.standing ≡ Put → (m : ℕ) × (slice_get last t.contents ≡ Some m) × (j ≤ m)

kept_put : Kept ≡ Put → ⊥
kept_put e = cc

removed_put : Removed ≡ Put → ⊥
removed_put e = cc

pub use_noted : (tiles : List StoredTile) (i : ℕ) (t : StoredTile) (old new : List ℕ) → i < length tiles → t ≡ get_or tiles i t → (t.standing ≡ Put → t.contents < length old) → (t.standing ≡ Put → new ≡ set old t.contents i) → (t.standing ≢ Put → new ≡ old) → LastBelow i tiles old → LastBelow (i + 1) tiles new
use_noted tiles i t old new lt at within put other below = λ j u less there is_put. elim (cases_lt j i) [
  | inl l ↦ earlier t.standing refl j u l there is_put
  | inr g ↦ here j u (omega (arith, less, g)) there is_put
]
  where
    here : (j : ℕ) (u : StoredTile) → j ≡ i → slice_get tiles j ≡ Some u → u.standing ≡ Put → (m : ℕ) × (slice_get new u.contents ≡ Some m) × (j ≤ m)
    here j u e there is_put =
        let t_is : t ≡ u = same_Some t u (ap Some at ∙ (sym (slice_get-get_or tiles i t lt) ∙ (ap (slice_get tiles) (sym e) ∙ there))) in
        let t_put : t.standing ≡ Put = ap (λ (x : StoredTile). x.standing) t_is ∙ is_put in (
          i,
          ap (λ (l : List ℕ). slice_get l u.contents) (put t_put) ∙ (ap (λ (x : StoredTile). slice_get (set old t.contents i) x.contents) (sym t_is) ∙ set_here old t.contents i (within t_put)),
          omega (arith, e),
        )

    earlier : (s : Standing) → t.standing ≡ s → (j : ℕ) (u : StoredTile) → j < i → slice_get tiles j ≡ Some u → u.standing ≡ Put → (m : ℕ) × (slice_get new u.contents ≡ Some m) × (j ≤ m)
    earlier Put e j u less there is_put =
        let b = below j u less there is_put in
        elim (set_either old t.contents u.contents i b.0 b.1) [
          | inl x ↦ (i, ap (λ (l : List ℕ). slice_get l u.contents) (put e) ∙ x, omega (arith, less))
          | inr y ↦ (b.0, ap (λ (l : List ℕ). slice_get l u.contents) (put e) ∙ y, b.2)
        ]
    earlier Kept e j u less there is_put = let b = below j u less there is_put in (b.0, ap (λ (l : List ℕ). slice_get l u.contents) (other (λ p. kept_put (sym e ∙ p))) ∙ b.1, b.2)
    earlier Removed e j u less there is_put = let b = below j u less there is_put in (b.0, ap (λ (l : List ℕ). slice_get l u.contents) (other (λ p. removed_put (sym e ∙ p))) ∙ b.1, b.2)

pub all_noted : (tiles : List StoredTile) (n : ℕ) (last : List ℕ) → length tiles ≤ n → LastBelow n tiles last → AreLast tiles last
all_noted tiles n last past below = λ j t there is_put. let lt = slice_get_within tiles j t there in below j t (omega (arith, lt, past)) there is_put

-- contents that are taken at their last use, and none that are
pub spends_taken : (b : Bool) (i : ℕ) (old : List Content) → b ≡ true → is_null (id_at old i) ≡ true → Spends b i old (set old i taken)
spends_taken b i old last null = record {
  each = length-set old i taken;
  named = λ k h. set_apart old i k taken (λ e. false≢true (sym h ∙ (ap (λ (n : ℕ). is_null (id_at old n)) e ∙ null)));
  others = λ k ne. set_apart old i k taken ne;
  kept = λ f. absurd (false≢true (sym f ∙ last));
}

unequal : (m n : ℕ) → n + 1 ≤ m → nat_eq m n ≡ false
unequal m n h = grind (arith, nat_tests)

pub unspent_next : (first now new : List Content) (last : List ℕ) (n i : ℕ) (b : Bool) → ((m : ℕ) → slice_get last i ≡ Some m → b ≡ nat_eq m n) → AreUnspent first now last n → Spends b i now new → AreUnspent first new last (n + 1)
unspent_next first now new last n i b is u s = record {
  named = λ k h. s.named k (ap (λ (o : Option Content). is_null (unwrap_or o nothing).id) (u.named k h) ∙ h) ∙ u.named k h;
  used = λ k m at le. elim (cases_eq k i) [
    | inl e ↦ ap (λ (l : List Content). slice_get l k) (s.kept (is m (ap (slice_get last) (sym e) ∙ at) ∙ unequal m n le)) ∙ u.used k m at (omega (arith, le))
    | inr ne ↦ s.others k ne ∙ u.used k m at (omega (arith, le))
  ];
}

-- no id, and an index that is before another one
pub none_null : {X : Type 0} (b : Bool) (x : X) → None ≡ cond b None (Some x) → b ≡ true
none_null true x h = refl
none_null false x h = cc

pub less_from : (m n : ℕ) → nat_lt m n ≡ true → m < n
less_from m n h = grind (arith, nat_tests)

-- what stands at an index of a list that was cut, or that it was cut before it
cut_at : {X : Type 0} (xs : List X) (n k : ℕ) → (slice_get (take n xs) k ≡ slice_get xs k) ⊎ ((n ≤ k) × (k < length xs))
cut_at [] zero k = inl refl
cut_at (x ∷ xs) zero zero = inr (omega arith, omega arith)
cut_at (x ∷ xs) zero (suc k) = elim (cut_at xs zero k) [ inl e ↦ inl e | inr p ↦ inr (omega arith, omega (arith, p.1)) ]
cut_at (x ∷ xs) (suc n) (suc k) = elim (cut_at xs n k) [ inl e ↦ inl e | inr p ↦ inr (omega (arith, p.0), omega (arith, p.1)) ]
cut_at _ (suc n) _ = inl refl

-- contents that are spent are cut off
pub cut_unspent : (first now : List Content) (last : List ℕ) (n left : ℕ) → ((k : ℕ) → left ≤ k → k < length now → IsSpent now last k n) → AreUnspent first now last n → AreUnspent first (take left now) last n
cut_unspent first now last n left spent u = record {
  named = λ k h. elim (cut_at now left k) [
    | inl same ↦ same ∙ u.named k h
    | inr past ↦ absurd (false≢true (sym (ap (λ (o : Option Content). is_null (unwrap_or o nothing).id) (u.named k h) ∙ h) ∙ (spent k past.0 past.1).0))
  ];
  used = λ k m at le. elim (cut_at now left k) [
    | inl same ↦ same ∙ u.used k m at le
    | inr past ↦ absurd (omega (arith, le, (spent k past.0 past.1).1 m at))
  ];
}

-- the first of the tiles that are left, and when none is left
pub tile_taken : (ts q r : List StoredTile) (i : ℕ) (t : StoredTile) → q ≡ drop i ts → q ≡ t ∷ r → (i < length ts) × (t ≡ get_or ts i t) × (r ≡ drop (i + 1) ts)
tile_taken ts q r i t is at =
    let there : drop i ts ≡ t ∷ r = sym is ∙ at in
    let lt : i < length ts = omega (arith, length-drop i ts, ap length there) in
    let both : t ∷ r ≡ get_or ts i t ∷ drop (i + 1) ts = sym there ∙ drop_more ts i t lt in
    (lt, ap (λ (xs : List StoredTile). get_or xs 0 t) both, ap (drop 1) both)

pub all_taken : (ts q r : List StoredTile) (i : ℕ) → q ≡ drop i ts → q ≡ r → r ≡ [] → length ts ≤ i
all_taken ts q r i is at none = omega (arith, length-drop i ts, ap length (sym is ∙ (at ∙ none)))

-- contents of a tile that is to come are there
pub still_there : (tiles : List StoredTile) (first now : List Content) (last : List ℕ) (n : ℕ) (t : StoredTile) → n < length tiles → t ≡ get_or tiles n t → AreLast tiles last → AreUnspent first now last n → t.standing ≡ Put → slice_get now t.contents ≡ slice_get first t.contents
still_there tiles first now last n t lt at are u is_put =
    let m = are n t (slice_get-get_or tiles n t lt ∙ ap Some (sym at)) is_put in
    u.used t.contents m.0 m.1 m.2

pub tile_still : (first now : List Content) (t : StoredTile) → slice_get now t.contents ≡ slice_get first t.contents → IsTile first t → IsTile now t
tile_still first now t same is = λ live. ap (λ (o : Option Content). is_some (contents_of (unwrap_or o nothing).cell)) same ∙ is live

pub same_change : (layout : MbtType) (a : HashAlgorithm) (first now : List Content) (t : StoredTile) → (t.standing ≡ Put → slice_get now t.contents ≡ slice_get first t.contents) → tile_change layout a now t ≡ tile_change layout a first t
same_change layout a first now t same = by t.standing same
  where
    by : (s : Standing) → (s ≡ Put → slice_get now t.contents ≡ slice_get first t.contents) → tile_change layout a now (record t { standing = s }) ≡ tile_change layout a first (record t { standing = s })
    by Put h = ap (λ (o : Option Content). change_by Put (front (place_of t) ++ cells_kept layout a (unwrap_or o nothing) t.dates) (λ row. record { table = tile_table layout; key = tile_key (place_of t); row = row })) (h refl)
    by _ h = refl

-- the change of a tile that is taken, whose contents are spent at their last use
pub spent_next : (layout : MbtType) (a : HashAlgorithm) (first now new : List Content) (ts q r : List StoredTile) (last : List ℕ) (i : ℕ) (t : StoredTile) (b : Bool) (old next : List Change) → Apart place_cmp place_of ts → AreLast ts last → q ≡ drop i ts → q ≡ t ∷ r
    → old ≡ filter_map (tile_change layout a first) (take i ts) → AreUnspent first now last i → next ≡ with_any old (tile_change layout a now t) → ((m : ℕ) → slice_get last t.contents ≡ Some m → b ≡ nat_eq m i) → Spends b t.contents now new
    → (r ≡ drop (i + 1) ts) × (i + 1 ≤ length ts) × (next ≡ filter_map (tile_change layout a first) (take (i + 1) ts)) × AreUnspent first new last (i + 1)
spent_next layout a first now new ts q r last i t b old next apart are is at was u made ends spent =
    let p = tile_taken ts q r i t is at in (
      p.2,
      omega (arith, p.0),
      tile_step layout a first ts i t old next apart p.0 p.1 was (made ∙ ap (with_any old) (same_change layout a first now t (still_there ts first now last i t p.0 p.1 are u))),
      unspent_next first now new last i t.contents b ends u spent,
    )

-- listed contents that are to come are there
abbrev pub LeftFrom : ℕ → List ℕ → List Content → List Content → Type 0
LeftFrom n order first now = (j k : ℕ) → n ≤ j → slice_get order j ≡ Some k → slice_get now k ≡ slice_get first k

pub left_next : (first now new : List Content) (order : List ℕ) (n i d : ℕ) → n < length order → i ≡ get_or order n d → Apart cell_cmp (id_at first) order → new ≡ set now i taken → LeftFrom n order first now → LeftFrom (n + 1) order first new
left_next first now new order n i d lt at apart is left = λ j k le there.
    let below : j < length order = slice_get_within order j k there in
    ap (λ (l : List Content). slice_get l k) is
    ∙ (set_apart now i k taken (λ e.
    let far = apart.pairs n j d (omega (arith, le)) below in
    false≢true (sym far ∙ (ap (λ (z : ℕ). eq_by_cmp cell_cmp (id_at first z) (id_at first (get_or order j d))) (sym at) ∙ (ap (λ (z : ℕ). eq_by_cmp cell_cmp (id_at first i) (id_at first z)) (get_or_from_slice_get order j k d there ∙ e) ∙ ap is_eq (tied_itself cells_total (id_at first i)))))
    )
    ∙ left j k (omega (arith, le)) there)

pub same_listed : (layout : MbtType) (first now : List Content) (i : ℕ) → slice_get now i ≡ slice_get first i → listed_change layout now i ≡ listed_change layout first i
same_listed layout first now i same = ap (λ (o : Option Content). content_change layout (unwrap_or o nothing)) same

-- the change of listed contents, which are taken
pub contents_next : (layout : MbtType) (first now new : List Content) (base : List Change) → All (λ c. table_eq c.table (content_table layout) ≡ false) base → (order : List ℕ) (i d : ℕ) (old next : List Change) → Apart cell_cmp (id_at first) order → i < length order
    → length now ≡ length first → LeftFrom i order first now → old ≡ base ++ filter_map (listed_change layout first) (take i order) → next ≡ with_any old (listed_change layout now (get_or order i d)) → new ≡ set now (get_or order i d) taken
    → (next ≡ base ++ filter_map (listed_change layout first) (take (i + 1) order)) × (length new ≡ length first) × LeftFrom (i + 1) order first new
contents_next layout first now new base others order i d old next apart lt each left was is taken_is =
    let here = left i (get_or order i d) (omega arith) (slice_get-get_or order i d lt) in (
      listed_step layout first base others order i d old next apart lt was (is ∙ ap (with_any old) (same_listed layout first now (get_or order i d) here)),
      ap length taken_is ∙ (length-set now (get_or order i d) taken ∙ each),
      left_next first now new order i (get_or order i d) d lt refl apart taken_is left,
    )

-- where all contents that have an id are there
module _ (first now : List Content) (left : (k : ℕ) → is_null (id_at first k) ≡ false → slice_get now k ≡ slice_get first k) where
  pub listed_left : (layout : MbtType) (order : List ℕ) → All (HasId first) order → filter_map (listed_change layout now) order ≡ filter_map (listed_change layout first) order
  listed_left layout [] all = refl
  listed_left layout (i ∷ order) all =
      by (listed_change layout now i) (listed_change layout first i) (same_listed layout first now i (left i (All-head (HasId first) i order all))) refl refl (listed_left layout order (All-tail (HasId first) i order all))
    where
      by : (o p : Option Change) → o ≡ p → listed_change layout now i ≡ o → listed_change layout first i ≡ p → filter_map (listed_change layout now) order ≡ filter_map (listed_change layout first) order → filter_map (listed_change layout now) (i ∷ order) ≡ filter_map (listed_change layout first) (i ∷ order)
      by o p e a b rest = rw (a, b, e, rest) refl
