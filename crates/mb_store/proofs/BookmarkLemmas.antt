-- Rows from a key on, which are those from its number on.
use Rattle.mb_store.proofs.Common.{AllByRecursion, and_parts, ap, at, cells_cmp, cond, drop, drop-nil, eqb-true, filter, filter_agree, filter_every, Greater, IfSome, is_le}
use Rattle.mb_store.proofs.Common.{IsStrictlySortedBy, Less, List, MemTables, nat_cmp, Option, ordering_reverse, ordering_then, own_key, refl, same_table, Some, Stored, stored_cmp, stored_total, subst, suc, sym}
use Rattle.mb_store.proofs.Common.{table_eq, TableName, tied_itself, true, zero, ℕ, [], ◌&&◌, ◌==◌, ◌∙◌, ◌∷◌, ◌≡◌}
use Rattle.std.specs.BTreeMap.Range.{range_contains}
use Rattle.std.specs.declared.ops.Bound.TheVariants.{Included, Unbounded}
use Rattle.mb_store.specs.Bookmark.{IsMarked, IsPlaced}
use Rattle.mb_store.specs.declared.bookmark.Bookmark.{Bookmark}
use Rattle.mb_store.specs.declared.bookmark.Place.{Place}
use Rattle.mb_store.proofs.StoredLemmas.{and_true}

-- the rows that aren't below one
abbrev pub rows_not_below : Stored → List Stored → List Stored
rows_not_below s keys = filter (λ x. is_le (stored_cmp s x)) keys

-- what a set gives of its rows between no bounds, and from a key on
pub all_between : (keys : List Stored) → filter (range_contains stored_cmp Unbounded Unbounded) keys ≡ keys
all_between keys = filter_every (range_contains stored_cmp Unbounded Unbounded) keys (λ k d far. refl)

pub from_key : (key : Stored) (keys : List Stored) → filter (range_contains stored_cmp (Included key) Unbounded) keys ≡ rows_not_below key keys
from_key key keys = filter_agree (range_contains stored_cmp (Included key) Unbounded) (λ s. is_le (stored_cmp key s)) (λ s. and_true (is_le (stored_cmp key s))) keys

-- what holds of all rows holds of the first one behind some
first_behind : (P : Stored → Type 0) (keys : List Stored) (n : ℕ) (s : Stored) (rest : List Stored) → AllByRecursion P keys → drop n keys ≡ s ∷ rest → P s
first_behind P [] n s rest all e = absurd (no_row (sym (drop-nil n) ∙ e))
  where
    no_row : [] ≡ s ∷ rest → ⊥
    no_row h = cc
first_behind P (x ∷ xs) zero s rest all e = let same : x ≡ s = cc in subst P same all.0
first_behind P (x ∷ xs) (suc n) s rest all e = first_behind P xs n s rest all.1 e

-- of rows above one none is below it
all_above : (s : Stored) (rows : List Stored) → AllByRecursion (λ y. stored_cmp s y ≡ Less) rows → rows_not_below s rows ≡ rows
all_above s [] all = refl
all_above s (y ∷ ys) all = ap (λ r. cond (is_le r) (y ∷ rows_not_below s ys) (rows_not_below s ys)) all.0 ∙ ap (λ rest. y ∷ rest) (all_above s ys all.1)

-- the rows that aren't below the first one behind some are all that are behind them
from_first : (keys : List Stored) (n : ℕ) (s : Stored) (rest : List Stored) → IsStrictlySortedBy stored_cmp keys → drop n keys ≡ s ∷ rest → rows_not_below s keys ≡ drop n keys
unfolding IsStrictlySortedBy
from_first [] n s rest sorted e = sym (drop-nil n)
from_first (x ∷ xs) zero s rest sorted e =
    let same : x ≡ s = cc in
    subst (λ (t : Stored). rows_not_below t (x ∷ xs) ≡ x ∷ xs) same
    (ap (λ r. cond (is_le r) (x ∷ rows_not_below x xs) (rows_not_below x xs)) (tied_itself stored_total x) ∙ ap (λ rest. x ∷ rest) (all_above x xs sorted.0))
from_first (x ∷ xs) (suc n) s rest sorted e =
    let above : stored_cmp s x ≡ Greater = stored_total.antisymm s x ∙ ap ordering_reverse (first_behind (λ y. stored_cmp x y ≡ Less) xs n s rest sorted.0 e) in
    ap (λ r. cond (is_le r) (x ∷ rows_not_below s xs) (rows_not_below s xs)) above ∙ from_first xs n s rest sorted.1 e

-- a row's key and number stand for it
pub placed_first : (keys : List Stored) (n : ℕ) (key s : Stored) (rest : List Stored) → IsStrictlySortedBy stored_cmp keys → drop n keys ≡ s ∷ rest → own_key key.0 ≡ own_key s.0 → key.1 ≡ s.1 → rows_not_below key keys ≡ drop n keys
placed_first keys n key s rest sorted e same number =
    filter_agree (λ x. is_le (stored_cmp key x)) (λ x. is_le (stored_cmp s x)) (λ x i. is_le (ordering_then (cells_cmp (same i) (own_key x.0)) (nat_cmp (number i) x.1))) keys
    ∙ from_first keys n s rest sorted e

-- what stands at a bookmark
pub found_at : (m : MemTables) (b : Bookmark) (p : Place) (table : TableName) (from : ℕ) (found keys : List Stored) → IsMarked m b → b.place ≡ Some p → (table_eq p.table table && (p.number == from)) ≡ true → keys ≡ (at m table).stored.keys → found ≡ filter (range_contains stored_cmp (Included p.key) Unbounded) keys → found ≡ drop from (at m table).stored.keys
found_at m b p table from found keys marked is same own between =
    let both : (table_eq p.table table ≡ true) × ((p.number == from) ≡ true) = and_parts (table_eq p.table table) (p.number == from) same in
    let here : IsPlaced (at m p.table).stored.keys p = subst (λ (o : Option Place). IfSome o (λ p. IsPlaced (at m p.table).stored.keys p)) is marked in
    let there : p.table ≡ table = same_table p.table table both.0 in
    let number : p.number ≡ from = eqb-true p.number from both.1 in
    between ∙ (from_key p.key keys ∙ (ap (rows_not_below p.key) own
    ∙ (subst (λ (t : TableName). rows_not_below p.key (at m t).stored.keys ≡ drop p.number (at m t).stored.keys) there here.rows
    ∙ ap (λ n. drop n (at m table).stored.keys) number)))

-- what stands from the first row on
pub found_from : (from : ℕ) (found all keys own : List Stored) → found ≡ drop from all → all ≡ filter (range_contains stored_cmp Unbounded Unbounded) keys → keys ≡ own → found ≡ drop from own
found_from from found all keys own is between same = is ∙ ap (drop from) (between ∙ (all_between keys ∙ same))
