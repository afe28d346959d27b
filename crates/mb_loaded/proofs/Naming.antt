-- Whether a tile has an id: in the map of ids, in the tiles, and in those that are no marks.
use Rattle.mb_loaded.proofs.Common.{All, All-head, All-tail, ap, Apart, Apart-tail, arith, at_key, Bool, by_order, Cell, cell_eq, cond, cons_option, Content, drop, empty, entries, entries-insert}
use Rattle.mb_loaded.proofs.Common.{entries_by, false, false≢true, find_none, from_entries, get-entries, get_or, get_or-drop, get_or-take, has_id, id_at, is_eq, is_gone, is_named, is_null, is_removed}
use Rattle.mb_loaded.proofs.Common.{IsPartitionPoint, IsPermutation, IsTotalOrder, len-empty, len-entries, length, length-drop, length-take-le, List, list_any, list_any-IsPermutation, look_up}
use Rattle.mb_loaded.proofs.Common.{nil_from_length, None, not, Null, Option, option_and_then, option_map, Ordering, others_apart, place_cmp, place_of, places_total, refl, Removed, Some, Standing}
use Rattle.mb_loaded.proofs.Common.{StoredTile, sym, take, take-append-drop, tied_itself, tile_id, tiles_held, true, unless_removed, ℕ, [], ◌&&◌, ◌+◌, ◌<◌, ◌||◌, ◌∙◌, ◌∷◌, ◌≡◌, ◌≤◌}
use Rattle.std.proofs.Math.Bool.{or-false}
use Rattle.std.specs.declared.cmp.Ordering.TheVariants.{Less, Equal, Greater}
use Rattle.std.specs.FinMap as fin
use Rattle.std.proofs.lemmas.List.Folds.{list_any-append, list_any_none}

abbrev pub any_some : {V : Type 0} → (V → Bool) → Option V → Bool
any_some test None = false
any_some test (Some v) = test v

or_swap : (a b c : Bool) → (a || (b || c)) ≡ (b || (a || c))
or_swap true true c = refl
or_swap _ _ c = refl

pub any_agree : {X : Type 0} (p q : X → Bool) (xs : List X) → All (λ x. p x ≡ q x) xs → list_any p xs ≡ list_any q xs
any_agree p q [] h = refl
any_agree p q (x ∷ xs) h = λ k. All-head (λ x. p x ≡ q x) x xs h k || any_agree p q xs (All-tail (λ x. p x ≡ q x) x xs h) k

-- a test of the values of a map is one of the items
module _ {K X V : Type 0} {R : K → K → Ordering} (total : IsTotalOrder R) (key : X → K) (test : V → Bool) where
  any_put : (k : K) (v : V) (es : List (K × V)) → fin.find R k es ≡ None → list_any (λ (e : K × V). test e.1) (fin.put R k v es) ≡ (test v || list_any (λ (e : K × V). test e.1) es)
  any_put k v [] h = refl
  any_put k v (e ∷ es) h = by (R k e.0) h (any_put k v es)
    where
      by : (o : Ordering) → cond (is_eq o) (Some e.1) (fin.find R k es) ≡ None → (fin.find R k es ≡ None → list_any (λ (e : K × V). test e.1) (fin.put R k v es) ≡ (test v || list_any (λ (e : K × V). test e.1) es)) → list_any (λ (e : K × V). test e.1) (by_order o ((k, v) ∷ e ∷ es) ((e.0, v) ∷ es) (e ∷ fin.put R k v es)) ≡ (test v || (test e.1 || list_any (λ (e : K × V). test e.1) es))
      by Less h rest = refl
      by Equal h rest = cc
      by Greater h rest = ap (λ b. test e.1 || b) (rest h) ∙ or_swap (test e.1) (test v) (list_any (λ (e : K × V). test e.1) es)

  none_listed : entries (empty {X = V} {R = R}) ≡ []
  none_listed = nil_from_length (entries (empty {X = V} {R = R})) (sym (len-entries (empty {X = V} {R = R})) ∙ len-empty R V)

  pub any_values : (value : X → Option V) (xs : List X) → Apart R key xs → list_any (λ (e : K × V). test e.1) (entries (from_entries {R = R} (entries_by key value xs))) ≡ list_any (λ x. any_some test (value x)) xs
  any_values value [] a = ap (list_any (λ (e : K × V). test e.1)) none_listed
  any_values value (x ∷ xs) a = by (value x) (any_values value xs (Apart-tail total key x xs a))
    where
      m : fin.FinMap R V
      m = from_entries (entries_by key value xs)

      new : fin.find R (key x) (entries m) ≡ None
      new = sym (get-entries m (key x)) ∙ (look_up total key value (key x) xs (Apart-tail total key x xs a) ∙ ap (option_and_then value) (find_none (at_key R key (key x)) xs (others_apart total key (key x) x xs a (ap is_eq (tied_itself total (key x))))))

      by : (o : Option V) → list_any (λ (e : K × V). test e.1) (entries m) ≡ list_any (λ x. any_some test (value x)) xs → list_any (λ (e : K × V). test e.1) (entries (from_entries {R = R} (cons_option (option_map {U = K × V} (λ v. (key x, v)) o) (entries_by key value xs)))) ≡ (any_some test o || list_any (λ x. any_some test (value x)) xs)
      by None ih = ih
      by (Some v) ih = ap (list_any (λ (e : K × V). test e.1)) (entries-insert total m (key x) v) ∙ (any_put (key x) v (entries m) new ∙ ap (λ b. test v || b) ih)

-- null is no id
null_other : (c id : Cell) → is_null id ≡ false → is_null c ≡ true → cell_eq c id ≡ false
null_other Null Null h k = absurd (false≢true (sym h))
null_other Null _ h k = refl
null_other _ id h k = absurd (false≢true k)

module _ (contents : List Content) (id : Cell) (present : is_null id ≡ false) where
  abbrev has : StoredTile → Bool
  has t = not (is_gone t) && cell_eq (id_at contents t.contents) id

  of_id : (c : Cell) → any_some (λ c. cell_eq c id) (cond (is_null c) None (Some c)) ≡ cell_eq c id
  of_id c = by (is_null c) refl
    where
      by : (b : Bool) → is_null c ≡ b → any_some (λ c. cell_eq c id) (cond b None (Some c)) ≡ cell_eq c id
      by true e = sym (null_other c id present e)
      by false e = refl

  of_tile : (s : Standing) (c : Cell) → any_some (λ c. cell_eq c id) (unless_removed s (cond (is_null c) None (Some c))) ≡ (not (is_removed s) && cell_eq c id)
  of_tile Removed c = refl
  of_tile _ c = of_id c

  named_in : (tiles : List StoredTile) → Apart place_cmp place_of tiles → is_named (tiles_held (tile_id contents) tiles) id ≡ list_any has tiles
  named_in tiles a = any_values places_total place_of (λ c. cell_eq c id) (tile_id contents) tiles a ∙ (λ k. list_any (λ (t : StoredTile). of_tile t.standing (id_at contents t.contents) k) tiles)

  alive : (b c : Bool) → not b ≡ true → (not b && c) ≡ c
  alive false c h = refl
  alive true c h = absurd (false≢true h)

  gone : (b c : Bool) → not b ≡ false → (not b && c) ≡ false
  gone true c h = refl
  gone false c h = absurd (false≢true (sym h))

  -- in tiles that are put in another order, the marks behind the others
  pub named_is : (tiles sorted : List StoredTile) (n : ℕ) → Apart place_cmp place_of tiles → IsPermutation tiles sorted → n ≤ length sorted → IsPartitionPoint (λ t. not (is_gone t) ≡ true) (λ t. not (is_gone t) ≡ false) sorted n → is_named (tiles_held (tile_id contents) tiles) id ≡ has_id contents (take n sorted) id
  named_is tiles sorted n a p le point =
      named_in tiles a
      ∙ (list_any-IsPermutation has tiles sorted p
      ∙ (ap (list_any has) (sym (take-append-drop n sorted))
      ∙ (list_any-append has (take n sorted) (drop n sorted)
      ∙ (ap (λ b. list_any has (take n sorted) || b) (list_any_none has (drop n sorted) marks)
      ∙ (or-false (list_any has (take n sorted))
      ∙ any_agree has (λ t. cell_eq (id_at contents t.contents) id) (take n sorted) live)))))
    where
      marks : All (λ t. has t ≡ false) (drop n sorted)
      marks k d lt =
          let len = length-drop n sorted in
          ap has (get_or-drop n sorted k d) ∙ gone (is_gone (get_or sorted (n + k) d)) _ (point.1 (n + k) d (omega arith) (omega (arith, len, lt, le)))

      live : All (λ t. has t ≡ cell_eq (id_at contents t.contents) id) (take n sorted)
      live k d lt =
          let len = length-take-le n sorted le in
          let less : k < n = omega (arith, len, lt) in
          alive (is_gone (get_or (take n sorted) k d)) _ (ap (λ t. not (is_gone t)) (get_or-take n sorted k d less) ∙ point.0 k d (omega arith) less)
