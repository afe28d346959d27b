-- What a set holds without the contents that no tile has.
use Rattle.mb_loaded.proofs.Common.{All, All-permutation, All-weaker, ap, Apart, apart_permuted, AreLike, at_key, Bool, Cell, cell_cmp, cell_cmp-IsAntisymmetric, cells_total, cond, Content}
use Rattle.mb_loaded.proofs.Common.{content_at, content_value, Contents, contents_held, contents_of, entries, entries_by, eq_by_cmp, equal_of, false, filter, find, find-where_key, FinMap, found_in}
use Rattle.mb_loaded.proofs.Common.{from_entries, get, get-entries, get-from_entries, get-retain_keys, get_or_from_slice_get, gone_after, HashAlgorithm, HasId, held_of, id_at, if_edited, is_gone}
use Rattle.mb_loaded.proofs.Common.{is_named, is_null, is_some, is_unnamed, IsDated, IsPartitionPoint, IsPermutation, IsTile, Kept, kept_after, length, like_all, List, look_up, map, map_permuted}
use Rattle.mb_loaded.proofs.Common.{marked_unnamed, MbtType, None, not, nothing, only_referenced, Option, option_and_then, option_or, Ordering, PatchType, place_cmp, place_of, places_antisymmetric}
use Rattle.mb_loaded.proofs.Common.{places_total, refl, Removed, retain_keys, same_map, slice_get, slice_get_within, Some, Standing, StoredName, StoredTile, subst, sym, take, tile_dates, tile_id}
use Rattle.mb_loaded.proofs.Common.{tile_value, tiles_held, true, unless_removed, unnamed_ids, unwrap_or, ℕ, [], ◌++◌, ◌∙◌, ◌∷◌, ◌≡◌, ◌≤◌}
use Rattle.std.specs.FinMap as fin
use Rattle.mb_loaded.proofs.EditViews.{parts_same}
use Rattle.mb_loaded.proofs.MoreContents.{listed_contents}
use Rattle.mb_loaded.proofs.Naming.{named_is}

-- entries found in two lists, and under keys alone
find_both : {K V : Type 0} (R : K → K → Ordering) (q : K) (xs ys : List (K × V)) → fin.find R q (xs ++ ys) ≡ option_or (fin.find R q xs) (fin.find R q ys)
find_both R q [] ys = refl
find_both {K} {V} R q (x ∷ xs) ys = by (eq_by_cmp R q x.0) (find_both R q xs ys)
  where
    by : (b : Bool) → fin.find R q (xs ++ ys) ≡ option_or (fin.find R q xs) (fin.find R q ys) → cond b (Some x.1) (fin.find R q (xs ++ ys)) ≡ option_or (cond b (Some x.1) (fin.find R q xs)) (fin.find R q ys)
    by true ih = refl
    by false ih = ih

abbrev pub any_unit : {V : Type 0} → Option V → Option (Unit {0})
any_unit None = None
any_unit (Some v) = Some tt

find_keys : {K V : Type 0} (R : K → K → Ordering) (q : K) (xs : List (K × V)) → fin.find R q (map (λ (e : K × V). (e.0, tt)) xs) ≡ any_unit (fin.find R q xs)
find_keys R q [] = refl
find_keys {K} {V} R q (x ∷ xs) = by (eq_by_cmp R q x.0) (find_keys R q xs)
  where
    by : (b : Bool) → fin.find R q (map (λ (e : K × V). (e.0, tt)) xs) ≡ any_unit (fin.find R q xs) → cond b (Some tt) (fin.find R q (map (λ (e : K × V). (e.0, tt)) xs)) ≡ any_unit (cond b (Some x.1) (fin.find R q xs))
    by true ih = refl
    by false ih = ih

-- the keys of contents that no tile has, and those that counted as edited before
pub edited_with : (ids : FinMap place_cmp Cell) (contents : Contents) (edited : FinMap cell_cmp (Unit {0})) (q : Cell) → get (from_entries {R = cell_cmp} (unnamed_ids ids contents ++ entries edited)) q ≡ option_or (any_unit (cond (not (is_named ids q)) (get contents q) None)) (get edited q)
edited_with ids contents edited q =
    get-from_entries cells_total (unnamed_ids ids contents ++ entries edited) q
    ∙ (find_both cell_cmp q (unnamed_ids ids contents) (entries edited)
    ∙ (λ k. option_or (gone k) (sym (get-entries edited q) k)))
  where
    gone : fin.find cell_cmp q (unnamed_ids ids contents) ≡ any_unit (cond (not (is_named ids q)) (get contents q) None)
    gone =
        find_keys cell_cmp q (filter (λ (e : Cell × Cell). not (is_named ids e.0)) (entries contents))
        ∙ ap any_unit (find-where_key cell_cmp (λ id. not (is_named ids id)) q (λ x e. ap (λ id. not (is_named ids id)) (sym (cell_cmp-IsAntisymmetric q x e))) (entries contents)
        ∙ ap (λ o. cond (not (is_named ids q)) o None) (sym (get-entries contents q)))

-- the contents that stay
pub contents_with : (ids : FinMap place_cmp Cell) (contents : Contents) (q : Cell) → get (retain_keys contents (is_named ids)) q ≡ cond (is_named ids q) (get contents q) None
contents_with ids contents q = get-retain_keys contents (is_named ids) q (λ x e. ap (is_named ids) (sym (cell_cmp-IsAntisymmetric q x e)))

-- the value of contents that are there
value_at : (contents : List Content) (i : ℕ) (x : Content) → slice_get contents i ≡ Some x → content_value contents i ≡ unless_removed (content_at contents i).standing (Some (content_at contents i).cell)
value_at contents i x h = by (slice_get contents i) h
  where
    by : (o : Option Content) → o ≡ Some x → option_and_then {U = Cell} (λ c. unless_removed c.standing (Some c.cell)) o ≡ unless_removed (unwrap_or o nothing).standing (Some (unwrap_or o nothing).cell)
    by (Some y) e = refl
    by None e = cc

none_either : {V : Type 0} (b : Bool) → cond {A = Option V} b None None ≡ None
none_either true = refl
none_either false = refl

-- contents that no tile has are removed, and count as edited
value_of : (b : Bool) (s : Standing) (c : Cell) → unless_removed (cond b s Removed) (Some c) ≡ cond b (unless_removed s (Some c)) None
value_of true s c = refl
value_of false s c = refl

edited_of : (b : Bool) (s : Standing) (c : Cell) → if_edited (cond b s Removed) ≡ option_or (any_unit (cond (not b) (unless_removed s (Some c)) None)) (if_edited s)
edited_of true Kept c = refl
edited_of false Kept c = refl
edited_of _ _ c = refl

module _ (contents : List Content) (order : List ℕ) (tiles sorted : List StoredTile) (n : ℕ) (ids : All (HasId contents) order) (apart : Apart cell_cmp (id_at contents) order) (places : Apart place_cmp place_of tiles) (sort : IsPermutation tiles sorted) (le : n ≤ length sorted) (point : IsPartitionPoint (λ (t : StoredTile). not (is_gone t) ≡ true) (λ (t : StoredTile). not (is_gone t) ≡ false) sorted n) where
  abbrev live : List StoredTile
  live = take n sorted

  abbrev left : List Content
  left = marked_unnamed live contents order

  abbrev named : Cell → Bool
  named = is_named (tiles_held (tile_id contents) tiles)

  like : AreLike contents left
  like = like_all live contents order

  listed_id : (i k : ℕ) → slice_get order k ≡ Some i → HasId contents i
  listed_id i k at = subst (HasId contents) (get_or_from_slice_get order k i i at) (ids k i (slice_get_within order k i at))

  standing_left : (i k : ℕ) → slice_get order k ≡ Some i → (content_at left i).standing ≡ cond (named (id_at contents i)) (content_at contents i).standing Removed
  standing_left i k at = by (named (id_at contents i)) refl
    where
      h : HasId contents i
      h = listed_id i k at

      unnamed : is_unnamed contents live i ≡ not (named (id_at contents i))
      unnamed = ap not (sym (named_is contents (id_at contents i) h tiles sorted n places sort le point))

      by : (b : Bool) → named (id_at contents i) ≡ b → (content_at left i).standing ≡ cond b (content_at contents i).standing Removed
      by true e = kept_after live contents order i (unnamed ∙ ap not e)
      by false e =
          let x = listed_contents contents i h in
          gone_after live contents order i k at (slice_get_within contents i x.0 x.1) (unnamed ∙ ap not e)

  value_left : (i k : ℕ) → slice_get order k ≡ Some i → content_value left i ≡ cond (named (id_at contents i)) (content_value contents i) None
  value_left i k at =
      let h = listed_id i k at in
      let x = listed_contents contents i h in
      let y = listed_contents left i (ap is_null (like.ids i) ∙ h) in
      value_at left i y.0 y.1
      ∙ ((λ j. unless_removed (standing_left i k at j) (Some (like.cells i j)))
      ∙ (value_of (named (id_at contents i)) (content_at contents i).standing (content_at contents i).cell
      ∙ ap (λ o. cond (named (id_at contents i)) o None) (sym (value_at contents i x.0 x.1))))

  same_id : (q : Cell) (i : ℕ) → find (at_key cell_cmp (id_at contents) q) order ≡ Some i → (k : ℕ) × (slice_get order k ≡ Some i) × (q ≡ id_at contents i)
  same_id q i e =
      let f = found_in (at_key cell_cmp (id_at contents) q) order i e in
      (f.0, f.1, cell_cmp-IsAntisymmetric q (id_at contents i) (equal_of (cell_cmp q (id_at contents i)) f.2))

  pub apart_left : Apart cell_cmp (id_at left) order
  apart_left = subst (λ (f : ℕ → Cell). Apart cell_cmp f order) (λ k j. sym (like.ids j) k) apart

  module _ (order' : List ℕ) (settled : IsPermutation order order') where
    apart' : Apart cell_cmp (id_at contents) order'
    apart' = apart_permuted cells_total (id_at contents) order order' settled apart

    contents_left : contents_held left order' ≡ retain_keys (contents_held contents order) named
    contents_left =
        (λ k. from_entries {R = cell_cmp} (entries_by (λ j. like.ids j k) (content_value left) order'))
        ∙ (map_permuted cells_total cell_cmp-IsAntisymmetric (id_at contents) (content_value left) order order' apart apart' settled
        ∙ same_map cells_total cell_cmp-IsAntisymmetric _ _ each)
      where
        each : (q : Cell) → get (from_entries {R = cell_cmp} (entries_by (id_at contents) (content_value left) order)) q ≡ get (retain_keys (contents_held contents order) named) q
        each q =
            look_up cells_total (id_at contents) (content_value left) q order apart
            ∙ (by (find (at_key cell_cmp (id_at contents) q) order) refl
            ∙ sym (contents_with (tiles_held (tile_id contents) tiles) (contents_held contents order) q
            ∙ ap (λ o. cond (named q) o None) (look_up cells_total (id_at contents) (content_value contents) q order apart)))
          where
            by : (o : Option ℕ) → find (at_key cell_cmp (id_at contents) q) order ≡ o → option_and_then (content_value left) o ≡ cond (named q) (option_and_then (content_value contents) o) None
            by None e = sym (none_either (named q))
            by (Some i) e = let f = same_id q i e in value_left i f.0 f.1 ∙ ap (λ id. cond (named id) (content_value contents i) None) (sym f.2)

    edited_left : from_entries {R = cell_cmp} (entries_by (id_at left) (λ i. if_edited (content_at left i).standing) order') ≡ from_entries (unnamed_ids (tiles_held (tile_id contents) tiles) (contents_held contents order) ++ entries (from_entries {R = cell_cmp} (entries_by (id_at contents) (λ i. if_edited (content_at contents i).standing) order)))
    edited_left =
        (λ k. from_entries {R = cell_cmp} (entries_by (λ j. like.ids j k) (λ i. if_edited (content_at left i).standing) order'))
        ∙ (map_permuted cells_total cell_cmp-IsAntisymmetric (id_at contents) (λ i. if_edited (content_at left i).standing) order order' apart apart' settled
        ∙ same_map cells_total cell_cmp-IsAntisymmetric _ _ each)
      where
        C : Contents
        C = contents_held contents order

        E : FinMap cell_cmp (Unit {0})
        E = from_entries (entries_by (id_at contents) (λ i. if_edited (content_at contents i).standing) order)

        each : (q : Cell) → get (from_entries {R = cell_cmp} (entries_by (id_at contents) (λ i. if_edited (content_at left i).standing) order)) q ≡ get (from_entries {R = cell_cmp} (unnamed_ids (tiles_held (tile_id contents) tiles) C ++ entries E)) q
        each q =
            look_up cells_total (id_at contents) (λ i. if_edited (content_at left i).standing) q order apart
            ∙ (by (find (at_key cell_cmp (id_at contents) q) order) refl
            ∙ sym (edited_with (tiles_held (tile_id contents) tiles) C E q
            ∙ (λ k. option_or (any_unit (cond (not (named q)) (look_up cells_total (id_at contents) (content_value contents) q order apart k) None)) (look_up cells_total (id_at contents) (λ i. if_edited (content_at contents i).standing) q order apart k))))
          where
            by : (o : Option ℕ) → find (at_key cell_cmp (id_at contents) q) order ≡ o → option_and_then (λ i. if_edited (content_at left i).standing) o ≡ option_or (any_unit (cond (not (named q)) (option_and_then (content_value contents) o) None)) (option_and_then (λ i. if_edited (content_at contents i).standing) o)
            by None e = sym (ap (λ (o : Option Cell). option_or (any_unit o) None) (none_either (not (named q))))
            by (Some i) e =
                let f = same_id q i e in
                let x = listed_contents contents i (listed_id i f.0 f.1) in
                ap if_edited (standing_left i f.0 f.1)
                ∙ (ap (λ id. if_edited (cond (named id) (content_at contents i).standing Removed)) (sym f.2)
                ∙ (edited_of (named q) (content_at contents i).standing (content_at contents i).cell
                ∙ ap (λ o. option_or (any_unit (cond (not (named q)) o None)) (if_edited (content_at contents i).standing)) (sym (value_at contents i x.0 x.1))))

    pub held_dropped : (layout : MbtType) (a : HashAlgorithm) (p : Option PatchType) (names : List StoredName) (tiles' : List StoredTile) → IsPermutation tiles tiles' → held_of layout a p left order' tiles' names ≡ only_referenced (held_of layout a p contents order tiles names)
    held_dropped layout a p names tiles' again =
        parts_same layout a p _ _ _ _ _ _ _ _ _ _ _ _ _ _ _ _
        ((λ k. tiles_held (λ t. unless_removed t.standing (contents_of (like.cells t.contents k))) tiles') ∙ moved (tile_value contents))
        refl
        ((λ k. tiles_held (λ t. unless_removed t.standing (cond (is_null (like.ids t.contents k)) None (Some (like.ids t.contents k)))) tiles') ∙ moved (tile_id contents))
        contents_left (moved tile_dates) (moved (λ t. if_edited t.standing)) edited_left refl
      where
        moved : {V : Type 0} (value : StoredTile → Option V) → tiles_held value tiles' ≡ tiles_held value tiles
        moved value = map_permuted places_total places_antisymmetric place_of value tiles tiles' places (apart_permuted places_total place_of tiles tiles' again places) again

    pub ids_left : All (HasId left) order'
    ids_left = All-weaker (HasId contents) (HasId left) (λ i h. ap is_null (like.ids i) ∙ h) order' (All-permutation (HasId contents) order order' settled ids)

  pub tiles_left : (tiles' : List StoredTile) → IsPermutation tiles tiles' → All (IsTile contents) tiles → All (IsTile left) tiles'
  tiles_left tiles' again whole = All-weaker (IsTile contents) (IsTile left) (λ t h live. ap (λ c. is_some (contents_of c)) (like.cells t.contents) ∙ h live) tiles' (All-permutation (IsTile contents) tiles tiles' again whole)

  pub dated_left : (layout : MbtType) (tiles' : List StoredTile) → IsPermutation tiles tiles' → All (IsDated layout) tiles → All (IsDated layout) tiles'
  dated_left layout tiles' again dated = All-permutation (IsDated layout) tiles tiles' again dated
