-- Stored rows: where a new one goes, which is found first, and the order of all.
use Rattle.mb_store.proofs.Common.{All, All-cons, All-head, All-nil, All-tail, AllByRecursion, AllPairs-cons, AllPairs-nil, ap, AreStored, arith, Bool, Bor, Cell, cells_cmp, cond, Equal, false}
use Rattle.mb_store.proofs.Common.{false≢true, filter, filter_agree, find, get_or, Greater, has_key, IfSome, Images, insert_key, is_early, is_eq, is_gt, is_le, is_some, IsInOrder, IsStrictlySortedBy}
use Rattle.mb_store.proofs.Common.{IsTotalOrder, key_cells, key_of, length, length-map, Less, List, list_any, lists_of_cells_total, lt-ltb, Map, match_ordering, Metadata, nat_cmp, nat_lt, None, not}
use Rattle.mb_store.proofs.Common.{Option, option_copied, option_map, Ordering, ordering_reverse, ordering_then, own_key, placed, refl, remove_key, row_cmp, RowKey, rows_in, rows_of, Some, Stored}
use Rattle.mb_store.proofs.Common.{stored_cmp, subst, sym, TableName, TableRows, take, TileCache, Tiles, TilesData, TilesShallow, TilesWithHash, true, width, ℕ, [], ◌&&◌, ◌+◌, ◌<◌, ◌^◌, ◌||◌, ◌∙◌}
use Rattle.mb_store.proofs.Common.{◌∷◌, ◌≡◌, ◌≤◌}
use Rattle.std.specs.BTreeMap.Range.{range_contains}
use Rattle.std.specs.declared.ops.Bound.TheVariants.{Included, Unbounded}
use Rattle.mb_tables.specs.declared.key.RowKey.TheVariants.{Tile, TextId, IntId}
use Rattle.mb_store.proofs.Placed.{before_greater, behind_others}

-- a row as wide as its table has its table's key
pub own_is : (table : TableName) (row : List Cell) → length row ≡ width table → own_key row ≡ key_of table row
own_is Tiles row e = ap (λ n. take (cond (nat_lt 2 n) 3 1) row) e
own_is TilesWithHash row e = ap (λ n. take (cond (nat_lt 2 n) 3 1) row) e
own_is Map row e = ap (λ n. take (cond (nat_lt 2 n) 3 1) row) e
own_is Images row e = ap (λ n. take (cond (nat_lt 2 n) 3 1) row) e
own_is TilesShallow row e = ap (λ n. take (cond (nat_lt 2 n) 3 1) row) e
own_is TilesData row e = ap (λ n. take (cond (nat_lt 2 n) 3 1) row) e
own_is TileCache row e = ap (λ n. take (cond (nat_lt 2 n) 3 1) row) e
own_is Metadata row e = ap (λ n. take (cond (nat_lt 2 n) 3 1) row) e

-- numbers that rise
later_cmp : (m n : ℕ) → m < n → nat_cmp n m ≡ Greater
later_cmp m n lt = grind (arith)

earlier_cmp : (m n : ℕ) → nat_cmp m n ≡ Less → m < n
earlier_cmp m n e = grind (arith)

-- a new row beside the first of those there are, by their order
abbrev inserted : Ordering → Stored → Stored → List Stored → List Stored
inserted r k s ss = match_ordering r (k ∷ s ∷ ss) (s ∷ ss) (s ∷ insert_key stored_cmp ss k)

module _ (table : TableName) where
  abbrev Wide : Stored → Type 0
  Wide s = length s.0 ≡ width table

  -- the order of two rows of the table by their own keys
  own_cmp : (r s : List Cell) → length r ≡ width table → length s ≡ width table → row_cmp table r s ≡ cells_cmp (own_key r) (own_key s)
  own_cmp r s p q i = cells_cmp (sym (own_is table r p) i) (sym (own_is table s q) i)

  -- a row's number is above those of its key
  abbrev pub Latest : List Cell → ℕ → Stored → Type 0
  Latest row n s = cells_cmp (own_key row) (own_key s.0) ≡ Equal → s.1 < n

  -- the newest row of its key goes before the first row of a greater key
  pub placed_in : (row : List Cell) (n : ℕ) (keys : List Stored) → length row ≡ width table → All Wide keys → All (Latest row n) keys → rows_of (insert_key stored_cmp keys (row, n)) ≡ placed table row (rows_of keys)
  placed_in row n [] own wide earlier = refl
  placed_in row n (s ∷ ss) own wide earlier =
      by (cells_cmp (own_key row) (own_key s.0)) refl (placed_in row n ss own (All-tail Wide s ss wide) (All-tail (Latest row n) s ss earlier))
    where
      turned : row_cmp table s.0 row ≡ ordering_reverse (cells_cmp (own_key row) (own_key s.0))
      turned = own_cmp s.0 row (All-head Wide s ss wide) own ∙ lists_of_cells_total.antisymm (own_key s.0) (own_key row)

      above : (r : Ordering) → cells_cmp (own_key row) (own_key s.0) ≡ r → is_gt (row_cmp table s.0 row) ≡ is_gt (ordering_reverse r)
      above r e = ap is_gt turned ∙ ap (λ r. is_gt (ordering_reverse r)) e

      behind : is_gt (row_cmp table s.0 row) ≡ false → rows_of (insert_key stored_cmp ss (row, n)) ≡ placed table row (rows_of ss) → rows_of (inserted Greater (row, n) s ss) ≡ placed table row (s.0 ∷ rows_of ss)
      behind h next = ap (λ rs. s.0 ∷ rs) next ∙ sym (behind_others (row_cmp table) row s.0 (rows_of ss) h)

      by : (r : Ordering) → cells_cmp (own_key row) (own_key s.0) ≡ r → rows_of (insert_key stored_cmp ss (row, n)) ≡ placed table row (rows_of ss) → rows_of (inserted (ordering_then (cells_cmp (own_key row) (own_key s.0)) (nat_cmp n s.1)) (row, n) s ss) ≡ placed table row (s.0 ∷ rows_of ss)
      by Less e next = ap (λ r. rows_of (inserted (ordering_then r (nat_cmp n s.1)) (row, n) s ss)) e ∙ sym (before_greater (row_cmp table) row s.0 (rows_of ss) (above Less e))
      by Equal e next = ap (λ r. rows_of (inserted (ordering_then r (nat_cmp n s.1)) (row, n) s ss)) e ∙ (ap (λ r. rows_of (inserted r (row, n) s ss)) (later_cmp s.1 n (All-head (Latest row n) s ss earlier e)) ∙ behind (above Equal e) next)
      by Greater e next = ap (λ r. rows_of (inserted (ordering_then r (nat_cmp n s.1)) (row, n) s ss)) e ∙ behind (above Greater e) next

  -- the rows stand in the order of their keys
  pub rows_ordered : (keys : List Stored) → IsStrictlySortedBy stored_cmp keys → All Wide keys → IsInOrder table (rows_of keys)
  unfolding IsStrictlySortedBy
  rows_ordered [] sorted wide = AllPairs-nil (λ r s. is_gt (row_cmp table r s) ≡ false)
  rows_ordered (k ∷ ks) sorted wide =
      AllPairs-cons (λ r s. is_gt (row_cmp table r s) ≡ false) k.0 (rows_of ks) (behind ks (All-tail Wide k ks wide) sorted.0) (rows_ordered ks sorted.1 (All-tail Wide k ks wide))
    where
      not_above : (r q : Ordering) → ordering_then r q ≡ Less → is_gt r ≡ false
      not_above Less q e = refl
      not_above Equal q e = refl
      not_above Greater q e = cc

      behind : (ys : List Stored) → All Wide ys → AllByRecursion (λ y. stored_cmp k y ≡ Less) ys → All (λ r. is_gt (row_cmp table k.0 r) ≡ false) (rows_of ys)
      behind [] wide all = All-nil (λ r. is_gt (row_cmp table k.0 r) ≡ false)
      behind (y ∷ ys) rest all =
          All-cons (λ r. is_gt (row_cmp table k.0 r) ≡ false) y.0 (rows_of ys)
          (ap is_gt (own_cmp k.0 y.0 (All-head Wide k ks wide) (All-head Wide y ys rest)) ∙ not_above (cells_cmp (own_key k.0) (own_key y.0)) (nat_cmp k.1 y.1) all.0)
          (behind ys (All-tail Wide y ys rest) all.1)

-- the first of a list, where it passes a test
abbrev pub first_if : {X : Type 0} → (X → Bool) → List X → Option X
first_if p [] = None
first_if p (x ∷ xs) = cond (p x) (Some x) None

find_none : {X : Type 0} (p : X → Bool) (xs : List X) → AllByRecursion (λ x. p x ≡ false) xs → ◌≡◌ {A = Option X} (find p xs) None
find_none p [] all = refl
find_none {X} p (x ∷ xs) all = ap (λ b. cond b (Some x) (find p xs)) all.0 ∙ find_none p xs all.1

-- the first row from a key on is the first with the key and an early number, if there is one
module _ (row : List Cell) (limit : ℕ) where
  abbrev tie : Stored → Ordering
  tie s = cells_cmp (own_key row) (own_key s.0)

  -- where a row isn't early, neither is a later one
  none_later : (k y : Stored) → is_le (stored_cmp (row, 0) k) ≡ true → is_early row limit k ≡ false → stored_cmp k y ≡ Less → is_early row limit y ≡ false
  none_later k y from late below = by (tie k) refl (cells_cmp (own_key k.0) (own_key y.0)) refl
    where
      o : IsTotalOrder cells_cmp
      o = lists_of_cells_total

      by : (r : Ordering) → tie k ≡ r → (q : Ordering) → cells_cmp (own_key k.0) (own_key y.0) ≡ q → is_early row limit y ≡ false
      by Less e Less f = ap (λ r. is_eq r && nat_lt y.1 limit) (o.trans (own_key row) (own_key k.0) (own_key y.0) e f)
      by Less e Equal f =
          let back : cells_cmp (own_key y.0) (own_key k.0) ≡ Equal = o.antisymm (own_key y.0) (own_key k.0) ∙ ap ordering_reverse f in
          let turned : cells_cmp (own_key y.0) (own_key row) ≡ Greater = sym (o.congr (own_key k.0) (own_key y.0) (own_key row) f) ∙ (o.antisymm (own_key k.0) (own_key row) ∙ ap ordering_reverse e) in
          ap (λ r. is_eq r && nat_lt y.1 limit) (o.antisymm (own_key row) (own_key y.0) ∙ ap ordering_reverse turned)
      by Equal e Less f = ap (λ r. is_eq r && nat_lt y.1 limit) (o.congr (own_key row) (own_key k.0) (own_key y.0) e ∙ f)
      by Equal e Equal f =
          let more : k.1 < y.1 = earlier_cmp k.1 y.1 (sym (ap (λ r. ordering_then r (nat_cmp k.1 y.1)) f) ∙ below) in
          let here : nat_lt k.1 limit ≡ false = sym (ap (λ r. is_eq r && nat_lt k.1 limit) e) ∙ late in
          ap (λ r. is_eq r && nat_lt y.1 limit) (o.congr (own_key row) (own_key k.0) (own_key y.0) e ∙ f) ∙ still k.1 y.1 more here
        where
          still : (m n : ℕ) → m < n → nat_lt m limit ≡ false → nat_lt n limit ≡ false
          still m n lt h = grind (arith)
      by Greater e q f = absurd (false≢true (sym (ap (λ r. is_le (ordering_then r (nat_cmp 0 k.1))) e) ∙ from))
      by r e Greater f = absurd (no_less (sym (ap (λ r. ordering_then r (nat_cmp k.1 y.1)) f) ∙ below))
        where
          no_less : Greater ≡ Less → ⊥
          no_less h = cc

  all_later : (k : Stored) (ys : List Stored) → is_le (stored_cmp (row, 0) k) ≡ true → is_early row limit k ≡ false → AllByRecursion (λ y. stored_cmp k y ≡ Less) ys → AllByRecursion (λ y. is_early row limit y ≡ false) ys
  all_later k [] from late all = tt
  all_later k (y ∷ ys) from late all = (none_later k y from late all.0, all_later k ys from late all.1)

  -- the rows from the key on
  abbrev pub rest_from : List Stored → List Stored
  rest_from keys = filter (λ k. is_le (stored_cmp (row, 0) k)) keys

  pub first_from : (keys : List Stored) → IsStrictlySortedBy stored_cmp keys → first_if (is_early row limit) (rest_from keys) ≡ find (is_early row limit) keys
  unfolding IsStrictlySortedBy
  first_from [] sorted = refl
  first_from (k ∷ ks) sorted = by (is_le (stored_cmp (row, 0) k)) refl (is_early row limit k) refl (first_from ks sorted.1)
    where
      below : (r : Ordering) → is_le (ordering_then r (nat_cmp 0 k.1)) ≡ false → is_eq r ≡ false
      below Less e = refl
      below Equal e = absurd (zero_le k.1 e)
        where
          zero_le : (n : ℕ) → is_le (nat_cmp 0 n) ≡ false → ⊥
          zero_le n e = grind (arith)
      below Greater e = refl

      by : (b : Bool) → is_le (stored_cmp (row, 0) k) ≡ b → (c : Bool) → is_early row limit k ≡ c → first_if (is_early row limit) (rest_from ks) ≡ find (is_early row limit) ks → first_if (is_early row limit) (cond (is_le (stored_cmp (row, 0) k)) (k ∷ rest_from ks) (rest_from ks)) ≡ cond (is_early row limit k) (Some k) (find (is_early row limit) ks)
      by true e true f next = ap (λ b. first_if (is_early row limit) (cond b (k ∷ rest_from ks) (rest_from ks))) e ∙ ap (λ c. cond c (Some k) None) f ∙ sym (ap (λ c. cond c (Some k) (find (is_early row limit) ks)) f)
      by true e false f next = ap (λ b. first_if (is_early row limit) (cond b (k ∷ rest_from ks) (rest_from ks))) e ∙ ap (λ c. cond c (Some k) None) f ∙ sym (ap (λ c. cond c (Some k) (find (is_early row limit) ks)) f ∙ find_none (is_early row limit) ks (all_later k ks e f sorted.0))
      by false e c f next =
          ap (λ b. first_if (is_early row limit) (cond b (k ∷ rest_from ks) (rest_from ks))) e ∙ next
          ∙ sym (ap (λ r. cond (r && nat_lt k.1 limit) (Some k) (find (is_early row limit) ks)) (below (tie k) e))

-- what is looked for among rows is what is looked for among stored rows
pub found_among : (q : List Cell → Bool) (p : Stored → Bool) (keys : List Stored) → All (λ s. q s.0 ≡ p s) keys → find q (rows_of keys) ≡ option_map (λ (s : Stored). s.0) (find p keys)
found_among q p [] all = refl
found_among q p (s ∷ ss) all = by (p s) (All-head (λ s. q s.0 ≡ p s) s ss all) (found_among q p ss (All-tail (λ s. q s.0 ≡ p s) s ss all))
  where
    by : (b : Bool) → q s.0 ≡ b → find q (rows_of ss) ≡ option_map (λ (s : Stored). s.0) (find p ss) → cond (q s.0) (Some s.0) (find q (rows_of ss)) ≡ option_map (λ (s : Stored). s.0) (cond b (Some s) (find p ss))
    by true e next = ap (λ b. cond b (Some s.0) (find q (rows_of ss))) e
    by false e next = ap (λ b. cond b (Some s.0) (find q (rows_of ss))) e ∙ next

pub any_among : (q : List Cell → Bool) (p : Stored → Bool) (keys : List Stored) → All (λ s. q s.0 ≡ p s) keys → list_any q (rows_of keys) ≡ is_some (find p keys)
any_among q p [] all = refl
any_among q p (s ∷ ss) all = by (p s) (All-head (λ s. q s.0 ≡ p s) s ss all) (any_among q p ss (All-tail (λ s. q s.0 ≡ p s) s ss all))
  where
    by : (b : Bool) → q s.0 ≡ b → list_any q (rows_of ss) ≡ is_some (find p ss) → (q s.0 || list_any q (rows_of ss)) ≡ is_some (cond b (Some s) (find p ss))
    by true e next = ap (λ b. b || list_any q (rows_of ss)) e
    by false e next = ap (λ b. b || list_any q (rows_of ss)) e ∙ next

-- what holds of all stored rows and of a new one
pub All-insert_key : (P : Stored → Type 0) (keys : List Stored) (k : Stored) → All P keys → P k → All P (insert_key stored_cmp keys k)
All-insert_key P [] k all one = All-cons P k [] one (All-nil P)
All-insert_key P (s ∷ ss) k all one = by (stored_cmp k s) (All-insert_key P ss k (All-tail P s ss all) one)
  where
    by : (r : Ordering) → All P (insert_key stored_cmp ss k) → All P (inserted r k s ss)
    by Less rest = All-cons P k (s ∷ ss) one all
    by Equal rest = all
    by Greater rest = All-cons P s (insert_key stored_cmp ss k) (All-head P s ss all) rest

-- a test that a new row fails passes the same rows
pub filter-insert_key-out : (p : Stored → Bool) (keys : List Stored) (k : Stored) → p k ≡ false → filter p (insert_key stored_cmp keys k) ≡ filter p keys
filter-insert_key-out p [] k out = ap (λ b. cond b (k ∷ []) []) out
filter-insert_key-out p (s ∷ ss) k out = by (stored_cmp k s) (filter-insert_key-out p ss k out)
  where
    by : (r : Ordering) → filter p (insert_key stored_cmp ss k) ≡ filter p ss → filter p (inserted r k s ss) ≡ filter p (s ∷ ss)
    by Less next = ap (λ b. cond b (k ∷ filter p (s ∷ ss)) (filter p (s ∷ ss))) out
    by Equal next = refl
    by Greater next = ap (λ rest. cond (p s) (s ∷ rest) rest) next

-- where a test passes none, it then passes the newest row alone
pub filter-insert_key-in : (p : Stored → Bool) (keys : List Stored) (row : List Cell) (n : ℕ) → p (row, n) ≡ true → All (λ (s : Stored). s.1 < n) keys → filter p keys ≡ [] → filter p (insert_key stored_cmp keys (row, n)) ≡ (row, n) ∷ []
filter-insert_key-in p [] row n passes earlier none = ap (λ b. cond b ((row, n) ∷ []) []) passes
filter-insert_key-in p (s ∷ ss) row n passes earlier none = by (cells_cmp (own_key row) (own_key s.0)) refl (p s) refl none (filter-insert_key-in p ss row n passes (All-tail (λ (s : Stored). s.1 < n) s ss earlier))
  where
    front : (rest : List Stored) → rest ≡ [] → filter p ((row, n) ∷ s ∷ ss) ≡ (row, n) ∷ filter p (s ∷ ss)
    front rest e = ap (λ b. cond b ((row, n) ∷ filter p (s ∷ ss)) (filter p (s ∷ ss))) passes

    behind : (c : Bool) → p s ≡ c → cond c (s ∷ filter p ss) (filter p ss) ≡ [] → (filter p ss ≡ [] → filter p (insert_key stored_cmp ss (row, n)) ≡ (row, n) ∷ []) → filter p (inserted Greater (row, n) s ss) ≡ (row, n) ∷ []
    behind true e none next = absurd (no_cons s (filter p ss) none)
      where
        no_cons : (x : Stored) (xs : List Stored) → x ∷ xs ≡ [] → ⊥
        no_cons x xs h = cc
    behind false e none next = ap (λ b. cond b (s ∷ filter p (insert_key stored_cmp ss (row, n))) (filter p (insert_key stored_cmp ss (row, n)))) e ∙ next none

    by : (r : Ordering) → cells_cmp (own_key row) (own_key s.0) ≡ r → (c : Bool) → p s ≡ c → filter p (s ∷ ss) ≡ [] → (filter p ss ≡ [] → filter p (insert_key stored_cmp ss (row, n)) ≡ (row, n) ∷ []) → filter p (inserted (ordering_then (cells_cmp (own_key row) (own_key s.0)) (nat_cmp n s.1)) (row, n) s ss) ≡ (row, n) ∷ []
    by Less e c f none next = ap (λ r. filter p (inserted (ordering_then r (nat_cmp n s.1)) (row, n) s ss)) e ∙ (front (filter p (s ∷ ss)) none ∙ ap (λ rest. (row, n) ∷ rest) none)
    by Equal e c f none next = ap (λ r. filter p (inserted (ordering_then r (nat_cmp n s.1)) (row, n) s ss)) e ∙ (ap (λ r. filter p (inserted r (row, n) s ss)) (later_cmp s.1 n (All-head (λ (s : Stored). s.1 < n) s ss earlier)) ∙ behind c f (sym (ap (λ b. cond b (s ∷ filter p ss) (filter p ss)) f) ∙ none) next)
    by Greater e c f none next = ap (λ r. filter p (inserted (ordering_then r (nat_cmp n s.1)) (row, n) s ss)) e ∙ behind c f (sym (ap (λ b. cond b (s ∷ filter p ss) (filter p ss)) f) ∙ none) next

-- a test that fails where the removed row passes, passes the same rows
pub filter-remove_key : (p test : Stored → Bool) (keys : List Stored) → ((s : Stored) → test s ≡ true → p s ≡ false) → filter p (remove_key test keys) ≡ filter p keys
filter-remove_key p test [] apart = refl
filter-remove_key p test (s ∷ ss) apart = by (test s) refl (filter-remove_key p test ss apart)
  where
    by : (b : Bool) → test s ≡ b → filter p (remove_key test ss) ≡ filter p ss → filter p (cond b ss (s ∷ remove_key test ss)) ≡ filter p (s ∷ ss)
    by true e next = sym (ap (λ c. cond c (s ∷ filter p ss) (filter p ss)) (apart s e))
    by false e next = ap (λ rest. cond (p s) (s ∷ rest) rest) next

pub All-remove_key : (P : Stored → Type 0) (test : Stored → Bool) (keys : List Stored) → All P keys → All P (remove_key test keys)
All-remove_key P test [] all = all
All-remove_key P test (s ∷ ss) all = by (test s) (All-remove_key P test ss (All-tail P s ss all))
  where
    by : (b : Bool) → All P (remove_key test ss) → All P (cond b ss (s ∷ remove_key test ss))
    by true rest = All-tail P s ss all
    by false rest = All-cons P s (remove_key test ss) (All-head P s ss all) rest

first_if_is : {X : Type 0} (p : X → Bool) (xs : List X) (x : X) (rest : List X) (b : Bool) → xs ≡ x ∷ rest → p x ≡ b → first_if p xs ≡ cond b (Some x) None
first_if_is p xs x rest b e h = ap (first_if p) e ∙ ap (λ c. cond c (Some x) None) h

first_if_none : {X : Type 0} (p : X → Bool) (xs : List X) → xs ≡ [] → ◌≡◌ {A = Option X} (first_if p xs) None
first_if_none p xs e = ap (first_if p) e

pub and_true : (b : Bool) → (b && true) ≡ b
and_true true = refl
and_true false = refl

-- what is found first from a key on
module _ (key : Stored) (limit : ℕ) (keys found : List Stored) (first : key.1 ≡ 0) (sorted : IsStrictlySortedBy stored_cmp keys) (between : found ≡ filter (range_contains stored_cmp (Included key) Unbounded) keys) where
  looked : first_if (is_early key.0 limit) found ≡ find (is_early key.0 limit) keys
  looked =
      ap (first_if (is_early key.0 limit)) (between ∙ filter_agree (range_contains stored_cmp (Included key) Unbounded) (λ k. is_le (stored_cmp (key.0, 0) k)) (λ k. and_true (is_le (stored_cmp key k)) ∙ ap (λ n. is_le (stored_cmp (key.0, n) k)) first) keys)
      ∙ first_from key.0 limit keys sorted

  pub found_early : (s : Stored) (rest : List Stored) → found ≡ s ∷ rest → is_early key.0 limit s ≡ true → Some s ≡ find (is_early key.0 limit) keys
  found_early s rest e h = sym (first_if_is (is_early key.0 limit) found s rest true e h) ∙ looked

  pub found_late : (s : Stored) (rest : List Stored) → found ≡ s ∷ rest → is_early key.0 limit s ≡ false → ◌≡◌ {A = Option Stored} None (find (is_early key.0 limit) keys)
  found_late s rest e h = sym (first_if_is (is_early key.0 limit) found s rest false e h) ∙ looked

  pub found_none : found ≡ [] → ◌≡◌ {A = Option Stored} None (find (is_early key.0 limit) keys)
  found_none e = sym (first_if_none (is_early key.0 limit) found e) ∙ looked

-- the order of two keys turned round
eq_back : (a b : List Cell) → is_eq (cells_cmp a b) ≡ is_eq (cells_cmp b a)
eq_back a b = ap is_eq (lists_of_cells_total.antisymm a b) ∙ same (cells_cmp b a)
  where
    same : (r : Ordering) → is_eq (ordering_reverse r) ≡ is_eq r
    same Less = refl
    same Equal = refl
    same Greater = refl

pub early_is : (r : Bool) (m n : ℕ) → m < n → r ≡ (r && nat_lt m n)
early_is true m n lt = sym (lt-ltb m n lt)
early_is false m n lt = refl

key_own : (key : RowKey) → own_key (key_cells key) ≡ key_cells key
key_own (Tile zoom column row) = refl
key_own (TextId text) = refl
key_own (IntId id) = refl

-- a row has a key where it ties with the key's cells
pub has_key_is : (table : TableName) (key : RowKey) (row : List Cell) → length row ≡ width table → has_key table key row ≡ is_eq (cells_cmp (own_key (key_cells key)) (own_key row))
has_key_is table key row wide = (λ i. is_eq (cells_cmp (sym (own_is table row wide) i) (sym (key_own key) i))) ∙ eq_back (own_key row) (own_key (key_cells key))

module _ (table : TableName) (r : TableRows) (stored : AreStored table r) where
  -- the first row of a key among all rows
  pub key_found : (key : RowKey) → find (has_key table key) (rows_in r) ≡ option_map (λ (s : Stored). s.0) (find (is_early (key_cells key) r.next) r.stored.keys)
  key_found key = found_among (has_key table key) (is_early (key_cells key) r.next) r.stored.keys
      (λ k d far. has_key_is table key (get_or r.stored.keys k d).0 (stored.wide k d far) ∙ early_is (is_eq (cells_cmp (own_key (key_cells key)) (own_key (get_or r.stored.keys k d).0))) (get_or r.stored.keys k d).1 r.next (stored.earlier k d far))

pub copied_some : {X : Type 0} (o : Option (Bor X)) → is_some (option_copied o) ≡ is_some o
copied_some None = refl
copied_some (Some x) = refl

-- what is stored is stored still with a row more
module _ (table : TableName) (old new : TableRows) (row : List Cell) (n : ℕ) (own : length row ≡ width table) (stored : AreStored table old) (added : new.stored.keys ≡ insert_key stored_cmp old.stored.keys (row, n)) where
  pub add_stored : length new.stored.keys < 2 ^ 64 → old.next ≤ new.next → n < new.next → AreStored table new
  add_stored count later below = record {
    wide = subst (All (Wide table)) (sym added) (All-insert_key (Wide table) old.stored.keys (row, n) stored.wide own);
    earlier = subst (All (λ (s : Stored). s.1 < new.next)) (sym added) (All-insert_key (λ (s : Stored). s.1 < new.next) old.stored.keys (row, n) (λ k d far. let h : (get_or old.stored.keys k d).1 < old.next = stored.earlier k d far in omega (arith, later)) below);
    count = count;
  }

pub add_placed : (table : TableName) (old new : TableRows) (row : List Cell) → length row ≡ width table → AreStored table old → new.stored.keys ≡ insert_key stored_cmp old.stored.keys (row, old.next) → rows_in new ≡ placed table row (rows_in old)
add_placed table old new row own stored added = ap rows_of added ∙ placed_in table row old.next old.stored.keys own stored.wide (λ k d far e. stored.earlier k d far)

length-rows_of : (keys : List Stored) → length (rows_of keys) ≡ length keys
length-rows_of keys = length-map keys (λ (s : Stored). s.0)

pub stored_count : (table : TableName) (r : TableRows) → AreStored table r → length (rows_in r) < 2 ^ 64
stored_count table r stored = subst (λ n. n < 2 ^ 64) (sym (length-rows_of r.stored.keys)) stored.count

pub stored_order : (table : TableName) (r : TableRows) → IsStrictlySortedBy stored_cmp r.stored.keys → AreStored table r → IsInOrder table (rows_in r)
stored_order table r sorted stored = rows_ordered table r.stored.keys sorted stored.wide

All-rows_of : (P : List Cell → Type 0) (keys : List Stored) → All (λ (s : Stored). P s.0) keys → All P (rows_of keys)
All-rows_of P [] all = All-nil P
All-rows_of P (s ∷ ss) all = All-cons P s.0 (rows_of ss) (All-head (λ (s : Stored). P s.0) s ss all) (All-rows_of P ss (All-tail (λ (s : Stored). P s.0) s ss all))

pub stored_widths : (table : TableName) (r : TableRows) → AreStored table r → All (λ row. length row ≡ width table) (rows_in r)
stored_widths table r stored = All-rows_of (λ row. length row ≡ width table) r.stored.keys stored.wide

-- what is found under a key
pub key_found_in : (table : TableName) (r : TableRows) → AreStored table r → (key : RowKey) (k : Stored) → k ≡ (key_cells key, 0) → (o : Option (Bor Stored)) → option_copied o ≡ find (is_early k.0 r.next) r.stored.keys → find (has_key table key) (rows_in r) ≡ option_map (λ (s : Stored). s.0) (option_copied o)
key_found_in table r stored key k is o found = key_found table r stored key ∙ ap (option_map (λ (s : Stored). s.0)) (ap (λ (s : Stored). find (is_early s.0 r.next) r.stored.keys) (sym is) ∙ sym found)

-- where one is found that passes another test, one passes that
pub found_passes : (p q : Stored → Bool) (keys : List Stored) (s : Stored) → find p keys ≡ Some s → q s ≡ true → list_any q keys ≡ true
found_passes p q [] s e h = none e
  where
    none : ◌≡◌ {A = Option Stored} None (Some s) → list_any q [] ≡ true
    none e = cc
found_passes p q (k ∷ ks) s e h = by (p k) e (found_passes p q ks s)
  where
    by : (b : Bool) → cond b (Some k) (find p ks) ≡ Some s → (find p ks ≡ Some s → q s ≡ true → list_any q ks ≡ true) → (q k || list_any q ks) ≡ true
    by true e next = let same : k ≡ s = cc in ap (λ (x : Stored). q x || list_any q ks) same ∙ ap (λ b. b || list_any q ks) h
    by false e next = ap (λ b. q k || b) (next e h) ∙ right (q k)
      where
        right : (b : Bool) → (b || true) ≡ true
        right true = refl
        right false = refl

-- what is found passes
pub found_is : (p : Stored → Bool) (keys : List Stored) (s : Stored) → find p keys ≡ Some s → p s ≡ true
found_is p [] s e = none e
  where
    none : ◌≡◌ {A = Option Stored} None (Some s) → p s ≡ true
    none e = cc
found_is p (k ∷ ks) s e = by (p k) refl e (found_is p ks s)
  where
    by : (b : Bool) → p k ≡ b → cond b (Some k) (find p ks) ≡ Some s → (find p ks ≡ Some s → p s ≡ true) → p s ≡ true
    by true f e next = let same : k ≡ s = cc in sym (ap p same) ∙ f
    by false f e next = next e

-- where none is found, none passes
pub not_found : (p : Stored → Bool) (keys : List Stored) → find p keys ≡ None → filter (λ s. not (p s)) keys ≡ keys
not_found p [] e = refl
not_found p (k ∷ ks) e = by (p k) refl e (not_found p ks)
  where
    by : (b : Bool) → p k ≡ b → cond b (Some k) (find p ks) ≡ None → (find p ks ≡ None → filter (λ s. not (p s)) ks ≡ ks) → cond (not (p k)) (k ∷ filter (λ s. not (p s)) ks) (filter (λ s. not (p s)) ks) ≡ k ∷ ks
    by true f e next = absurd (some e)
      where
        some : ◌≡◌ {A = Option Stored} (Some k) None → ⊥
        some e = cc
    by false f e next = ap (λ b. cond (not b) (k ∷ filter (λ s. not (p s)) ks) (filter (λ s. not (p s)) ks)) f ∙ ap (λ rest. k ∷ rest) (next e)

-- one more than a length of memory is a count
pub add_count : (n m : ℕ) (b : Bool) → m < 2 ^ 63 → n ≡ m + cond b 1 0 → n < 2 ^ 64
add_count n m true small e = omega (arith, small, e)
add_count n m false small e = omega (arith, small, e)

pub find-All : {X : Type 0} (p : X → Bool) (P : X → Type 0) (xs : List X) → All P xs → IfSome (find p xs) P
find-All p P [] all = tt
find-All p P (x ∷ xs) all = by (p x) (find-All p P xs (All-tail P x xs all))
  where
    by : (b : Bool) → IfSome (find p xs) P → IfSome (cond b (Some x) (find p xs)) P
    by true rest = All-head P x xs all
    by false rest = rest
