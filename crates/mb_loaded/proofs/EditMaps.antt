-- Maps of values of the latest items, after one more item.
use Rattle.mb_loaded.proofs.Common.{All, All-head, All-permutation, All-tail, ap, Apart, apart_permuted, at_key, Bool, cond, entries_by, eq_by_cmp, equal_of, false, find, find_newest, FinMap}
use Rattle.mb_loaded.proofs.Common.{found_permuted, from_entries, get, get-insert, get-remove, insert, is_eq, IsAntisymmetric, IsPermutation-reverse, IsTotalOrder, List, look_up, newest, newest_apart}
use Rattle.mb_loaded.proofs.Common.{None, Option, option_and_then, Ordering, refl, reverse, reverse-append, same_map, Some, StandsAs, sym, tied_itself, true, with_value, [], ◌++◌, ◌∙◌, ◌∷◌, ◌≡◌}

-- tests and values that agree on the items of a list find the same
found_agrees : {X V : Type 0} (p p' : X → Bool) (f f' : X → Option V) (xs : List X) → All (λ x. p' x ≡ p x) xs → All (λ x. f' x ≡ f x) xs → option_and_then f' (find p' xs) ≡ option_and_then f (find p xs)
found_agrees p p' f f' [] h k = refl
found_agrees {X} p p' f f' (x ∷ xs) h k = ap (λ b. option_and_then f' (cond b (Some x) (find p' xs))) (All-head (λ x. p' x ≡ p x) x xs h) ∙ by (p x) (All-head (λ x. f' x ≡ f x) x xs k) (found_agrees p p' f f' xs (All-tail (λ x. p' x ≡ p x) x xs h) (All-tail (λ x. f' x ≡ f x) x xs k))
  where
    by : (b : Bool) → f' x ≡ f x → option_and_then f' (find p' xs) ≡ option_and_then f (find p xs) → option_and_then f' (cond b (Some x) (find p' xs)) ≡ option_and_then f (cond b (Some x) (find p xs))
    by true e rest = e
    by false e rest = rest

pub get-with_value : {K V : Type 0} {R : K → K → Ordering} (total : IsTotalOrder R) (m : FinMap R V) (k : K) (o : Option V) (q : K) → get (with_value m k o) q ≡ cond (eq_by_cmp R q k) o (get m q)
get-with_value total m k None q = get-remove total m k q
get-with_value total m k (Some v) q = get-insert total m k v q

module _ {K X V : Type 0} {R : K → K → Ordering} (total : IsTotalOrder R) (anti : IsAntisymmetric R) where
  pub get_newest : (key : X → K) (value : X → Option V) (xs : List X) (q : K) → get (from_entries {R = R} (entries_by key value (newest R key xs))) q ≡ option_and_then value (find (at_key R key q) (reverse xs))
  get_newest key value xs q = look_up total key value q (newest R key xs) (newest_apart total key xs) ∙ ap (option_and_then value) (find_newest total key q xs)

  module _ (key key' : X → K) (value value' : X → Option V) (xs : List X) (keys : All (λ x. key' x ≡ key x) xs) (values : All (λ x. value' x ≡ value x) xs) where
    agree : (q : K) → option_and_then value' (find (at_key R key' q) (reverse xs)) ≡ option_and_then value (find (at_key R key q) (reverse xs))
    agree q = found_agrees (at_key R key q) (at_key R key' q) value value' (reverse xs)
        (λ k d lt. ap (eq_by_cmp R q) (All-permutation (λ x. key' x ≡ key x) xs (reverse xs) (IsPermutation-reverse xs) keys k d lt))
        (All-permutation (λ x. value' x ≡ value x) xs (reverse xs) (IsPermutation-reverse xs) values)

    -- the same items by keys and values that agree
    pub newest_same : from_entries {R = R} (entries_by key' value' (newest R key' xs)) ≡ from_entries (entries_by key value (newest R key xs))
    newest_same = same_map total anti _ _ (λ q. get_newest key' value' xs q ∙ (agree q ∙ sym (get_newest key value xs q)))

    -- one more item
    pub newest_put : (x : X) → from_entries {R = R} (entries_by key' value' (newest R key' (xs ++ x ∷ []))) ≡ with_value (from_entries (entries_by key value (newest R key xs))) (key' x) (value' x)
    newest_put x = same_map total anti _ _ (λ q.
        get_newest key' value' (xs ++ x ∷ []) q
        ∙ (ap (λ l. option_and_then value' (find (at_key R key' q) l)) (reverse-append xs (x ∷ []))
        ∙ (through (eq_by_cmp R q (key' x)) (find (at_key R key' q) (reverse xs))
        ∙ (ap (cond (eq_by_cmp R q (key' x)) (value' x)) (agree q ∙ sym (get_newest key value xs q))
        ∙ sym (get-with_value total (from_entries (entries_by key value (newest R key xs))) (key' x) (value' x) q)))))
      where
        through : (b : Bool) (o : Option X) → option_and_then value' (cond b (Some x) o) ≡ cond b (value' x) (option_and_then value' o)
        through true o = refl
        through false o = refl

-- a value that is there already
pub with_value_same : {K V : Type 0} {R : K → K → Ordering} (total : IsTotalOrder R) (anti : IsAntisymmetric R) (m : FinMap R V) (k : K) (o : Option V) → o ≡ get m k → with_value m k o ≡ m
with_value_same {K = K} {V = V} {R = R} total anti m k o h = same_map total anti _ _ (λ q. get-with_value total m k o q ∙ by q (eq_by_cmp R q k) refl)
  where
    by : (q : K) (b : Bool) → eq_by_cmp R q k ≡ b → cond b o (get m q) ≡ get m q
    by q true e = h ∙ ap (get m) (sym (anti q k (equal_of (R q k) e)))
    by q false e = refl

-- the same value put again
pub insert_again : {K V : Type 0} {R : K → K → Ordering} (total : IsTotalOrder R) (anti : IsAntisymmetric R) (m : FinMap R V) (k : K) (v : V) → insert (insert m k v) k v ≡ insert m k v
insert_again total anti m k v = with_value_same total anti (insert m k v) k (Some v) (sym (get-insert total m k v k ∙ ap (λ o. cond (is_eq o) (Some v) (get m k)) (tied_itself total k)))

-- where the same items stand under each key the maps are the same
module _ {K X : Type 0} {R : K → K → Ordering} (total : IsTotalOrder R) (anti : IsAntisymmetric R) (key : X → K) where
  pub stands_map : {V : Type 0} (value : X → Option V) (xs ys : List X) → StandsAs R key xs ys → Apart R key xs → Apart R key ys → from_entries {R = R} (entries_by key value ys) ≡ from_entries (entries_by key value xs)
  stands_map value xs ys h a b = same_map total anti _ _ (λ q. look_up total key value q ys b ∙ (ap (option_and_then value) (h.found q) ∙ sym (look_up total key value q xs a)))

  -- in a list of different keys each item is the latest of its key
  pub newest_of_apart : {V : Type 0} (value : X → Option V) (xs : List X) → Apart R key xs → from_entries {R = R} (entries_by key value (newest R key xs)) ≡ from_entries (entries_by key value xs)
  newest_of_apart value xs a =
      let p = IsPermutation-reverse xs in
      stands_map value xs (newest R key xs) (record { found = λ q. find_newest total key q xs ∙ found_permuted total anti key q xs (reverse xs) a (apart_permuted total key xs (reverse xs) p a) p }) a (newest_apart total key xs)
