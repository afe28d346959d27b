-- Entries that are equal, and entries in a list in their order.
use Rattle.mb_cache.proofs.Common.{AllByRecursion, and_from, and_parts, ap, arith, Bool, Cell, cond, drop, entries_total, Entry, entry_at, entry_cmp, eq-eqb, eq_by_cmp, eq_by_cmp_equiv, eqb-true}
use Rattle.mb_cache.proofs.Common.{Equal, equal_of, false, false_from_ne_true, false≢true, filter, Greater, has_entry, insert_key, int_cmp, int_cmp-IsAntisymmetric, int_cmp_total, int_lt, is_at}
use Rattle.mb_cache.proofs.Common.{is_eq, is_expired_entry, is_gt, IsAntisymmetric, IsEquivalence, IsStrictlySortedBy, Less, List, match_ordering, nat_cmp, nat_cmp-IsAntisymmetric, not, Null}
use Rattle.mb_cache.proofs.Common.{or_parts, Ordering, ordering_then, Place, place_in, refl, remove_key, sorted_head, sorted_tail, suc, sym, take, take_while, take_while-cons, tied_itself, true}
use Rattle.mb_cache.proofs.Common.{UnixSeconds, zero, ℕ, ℤ, [], ◌&&◌, ◌==◌, ◌||◌, ◌∙◌, ◌∷◌, ◌≡◌}

pub equal_entries : IsEquivalence (eq_by_cmp entry_cmp)
equal_entries = eq_by_cmp_equiv entries_total

then_equal : (a b : Ordering) → ordering_then a b ≡ Equal → (a ≡ Equal) × (b ≡ Equal)
then_equal Equal b h = (refl, h)
then_equal _ b h = cc

same_parts : (a b : Entry) → a.group ≡ b.group → a.expires ≡ b.expires → a.zoom ≡ b.zoom → a.column ≡ b.column → a.row ≡ b.row → a ≡ b
same_parts a b g e z c r = λ i. record { group = g i; expires = e i; zoom = z i; column = c i; row = r i }

pub entries_antisymmetric : IsAntisymmetric entry_cmp
entries_antisymmetric a b h =
    let four = then_equal _ (nat_cmp a.row b.row) h in
    let three = then_equal _ (nat_cmp a.column b.column) four.0 in
    let two = then_equal _ (nat_cmp a.zoom b.zoom) three.0 in
    let one = then_equal _ (int_cmp a.expires b.expires) two.0 in
    same_parts a b (nat_cmp-IsAntisymmetric _ _ one.0) (int_cmp-IsAntisymmetric _ _ one.1) (nat_cmp-IsAntisymmetric _ _ two.1) (nat_cmp-IsAntisymmetric _ _ three.1) (nat_cmp-IsAntisymmetric _ _ four.1)

-- entries that compare as equal are the same
pub same_entry : (a b : Entry) → eq_by_cmp entry_cmp a b ≡ true → a ≡ b
same_entry a b h = entries_antisymmetric a b (equal_of (entry_cmp a b) h)

pub entry_itself : (a : Entry) → eq_by_cmp entry_cmp a a ≡ true
entry_itself a = ap is_eq (tied_itself entries_total a)

pub other_entry : (a b : Entry) → (a ≡ b → ⊥) → eq_by_cmp entry_cmp a b ≡ false
other_entry a b apart = by (eq_by_cmp entry_cmp a b) refl
  where
    by : (r : Bool) → eq_by_cmp entry_cmp a b ≡ r → eq_by_cmp entry_cmp a b ≡ false
    by true e = absurd (apart (same_entry a b e))
    by false e = e

-- the entry of a place stands there
pub placed_there : (p : Place) (cell : Cell) → place_in (entry_at p cell) ≡ p
placed_there p Null = refl
placed_there p _ = refl

-- one more entry
pub has-insert_key : (es : List Entry) (k e : Entry) → has_entry (insert_key entry_cmp es k) e ≡ (eq_by_cmp entry_cmp e k || has_entry es e)
has-insert_key [] k e = refl
has-insert_key (x ∷ xs) k e = by (entry_cmp k x) refl (has-insert_key xs k e)
  where
    swap : (a b c : Bool) → (a || (b || c)) ≡ (b || (a || c))
    swap true true c = refl
    swap _ _ c = refl

    twice : (a c : Bool) → (a || c) ≡ (a || (a || c))
    twice true c = refl
    twice false c = refl

    by : (r : Ordering) → entry_cmp k x ≡ r → has_entry (insert_key entry_cmp xs k) e ≡ (eq_by_cmp entry_cmp e k || has_entry xs e) → has_entry (match_ordering r (k ∷ x ∷ xs) (x ∷ xs) (x ∷ insert_key entry_cmp xs k)) e ≡ (eq_by_cmp entry_cmp e k || (eq_by_cmp entry_cmp e x || has_entry xs e))
    by Less f next = refl
    by Equal f next =
        let same : k ≡ x = entries_antisymmetric k x f in
        twice (eq_by_cmp entry_cmp e x) (has_entry xs e) ∙ ap (λ z. eq_by_cmp entry_cmp e z || (eq_by_cmp entry_cmp e x || has_entry xs e)) (sym same)
    by Greater f next = ap (λ b. eq_by_cmp entry_cmp e x || b) next ∙ swap (eq_by_cmp entry_cmp e x) (eq_by_cmp entry_cmp e k) (has_entry xs e)

-- a new entry that is taken out again
pub back_again : (es : List Entry) (k : Entry) → has_entry es k ≡ false → remove_key (is_at (entry_cmp k)) (insert_key entry_cmp es k) ≡ es
back_again [] k new = ap (λ b. cond b [] (k ∷ [])) (entry_itself k)
back_again (x ∷ xs) k new = by (entry_cmp k x) refl (or_parts (eq_by_cmp entry_cmp k x) (has_entry xs k) new) (back_again xs k)
  where
    by : (r : Ordering) → entry_cmp k x ≡ r → (eq_by_cmp entry_cmp k x ≡ false) × (has_entry xs k ≡ false) → (has_entry xs k ≡ false → remove_key (is_at (entry_cmp k)) (insert_key entry_cmp xs k) ≡ xs) → remove_key (is_at (entry_cmp k)) (match_ordering r (k ∷ x ∷ xs) (x ∷ xs) (x ∷ insert_key entry_cmp xs k)) ≡ x ∷ xs
    by Less f parts next = ap (λ b. cond b (x ∷ xs) (k ∷ remove_key (is_at (entry_cmp k)) (x ∷ xs))) (entry_itself k)
    by Equal f parts next = absurd (false≢true (sym parts.0 ∙ ap is_eq f))
    by Greater f parts next = ap (λ b. cond b (insert_key entry_cmp xs k) (x ∷ remove_key (is_at (entry_cmp k)) (insert_key entry_cmp xs k))) parts.0 ∙ ap (λ ys. x ∷ ys) (next parts.1)

-- what stands behind an entry in order isn't that entry
pub after_first : (x : Entry) (xs : List Entry) (e : Entry) → AllByRecursion (λ y. entry_cmp x y ≡ Less) xs → eq_by_cmp entry_cmp e x ≡ true → has_entry xs e ≡ false
after_first x [] e all h = refl
after_first x (y ∷ ys) e all h =
    let same : e ≡ x = same_entry e x h in
    rw (ap is_eq (ap (λ z. entry_cmp z y) same ∙ all.0)) (after_first x ys e all.1 h)

pub sorted_drop : (n : ℕ) (es : List Entry) → IsStrictlySortedBy entry_cmp es → IsStrictlySortedBy entry_cmp (drop n es)
sorted_drop (suc n) (e ∷ es) sorted = sorted_drop n es (sorted_tail entry_cmp e es sorted)
sorted_drop _ _ sorted = sorted

pub sorted_take : (n : ℕ) (es : List Entry) → IsStrictlySortedBy entry_cmp es → IsStrictlySortedBy entry_cmp (take n es)
unfolding IsStrictlySortedBy
sorted_take zero es sorted = tt
sorted_take (suc n) [] sorted = sorted
sorted_take (suc n) (e ∷ es) sorted = (some n es sorted.0, sorted_take n es sorted.1)
  where
    some : (m : ℕ) (xs : List Entry) → AllByRecursion (λ y. entry_cmp e y ≡ Less) xs → AllByRecursion (λ y. entry_cmp e y ≡ Less) (take m xs)
    some zero xs all = tt
    some (suc m) [] all = all
    some (suc m) (x ∷ xs) all = (all.0, some m xs all.1)

-- the entries from one on are those that aren't before it
pub has-drop : (n : ℕ) (es : List Entry) (e : Entry) → IsStrictlySortedBy entry_cmp es → has_entry (drop n es) e ≡ (not (has_entry (take n es) e) && has_entry es e)
has-drop (suc n) (x ∷ xs) e sorted = by (eq_by_cmp entry_cmp e x) refl (has-drop n xs e (sorted_tail entry_cmp x xs sorted))
  where
    within : (m : ℕ) (ys : List Entry) → has_entry ys e ≡ false → has_entry (drop m ys) e ≡ false
    within (suc m) (y ∷ ys) h = within m ys (or_parts (eq_by_cmp entry_cmp e y) (has_entry ys e) h).1
    within _ _ h = h

    by : (b : Bool) → eq_by_cmp entry_cmp e x ≡ b → has_entry (drop n xs) e ≡ (not (has_entry (take n xs) e) && has_entry xs e) → has_entry (drop n xs) e ≡ (not (eq_by_cmp entry_cmp e x || has_entry (take n xs) e) && (eq_by_cmp entry_cmp e x || has_entry xs e))
    by true f next = rw (f) (within n xs (after_first x xs e (sorted_head entry_cmp x xs sorted) f))
    by false f next = rw (f) next
has-drop _ _ e sorted = refl

-- an order by parts that isn't above in the whole isn't above in the first part
part_below : (a b : Ordering) → is_gt (ordering_then a b) ≡ false → is_gt a ≡ false
part_below Greater b h = h
part_below _ b h = refl

less_int : (x y : ℤ) → int_cmp x y ≡ Less → int_lt x y ≡ true
less_int x y h = by (int_lt x y) refl (int_lt y x) h
  where
    by : (b : Bool) → int_lt x y ≡ b → (c : Bool) → cond b Less (cond c Greater Equal) ≡ Less → int_lt x y ≡ true
    by true e c h = e
    by false e true h = cc
    by false e false h = cc

int_less : (x y : ℤ) → int_lt x y ≡ true → int_cmp x y ≡ Less
int_less x y h = ap (λ b. cond b Less (cond (int_lt y x) Greater Equal)) h

nothing_below : (n : ℕ) → nat_cmp n 0 ≡ Less → ⊥
nothing_below n e = grind (arith)

-- an entry that is thrown out before one that expires expires
earlier_expires : (now : UnixSeconds) (a b : Entry) → entry_cmp a b ≡ Less → is_expired_entry now b ≡ true → is_expired_entry now a ≡ true
earlier_expires now a b less h =
    let parts = and_parts (b.group == 0) (int_lt b.expires now.0) h in
    at (nat_cmp a.group b.group) refl (int_cmp a.expires b.expires) refl (eqb-true b.group 0 parts.0) parts.1
    (part_below _ (nat_cmp a.zoom b.zoom) (part_below _ (nat_cmp a.column b.column) (part_below _ (nat_cmp a.row b.row) (ap is_gt less))))
  where
    at : (r : Ordering) → nat_cmp a.group b.group ≡ r → (q : Ordering) → int_cmp a.expires b.expires ≡ q → b.group ≡ 0 → int_lt b.expires now.0 ≡ true → is_gt (ordering_then (nat_cmp a.group b.group) (int_cmp a.expires b.expires)) ≡ false → is_expired_entry now a ≡ true
    at Less e q f none early h = absurd (nothing_below a.group (sym (ap (nat_cmp a.group) none) ∙ e))
    at Equal e Less f none early h = and_from (a.group == 0) (int_lt a.expires now.0) (eq-eqb a.group 0 (nat_cmp-IsAntisymmetric a.group b.group e ∙ none)) (less_int a.expires now.0 (int_cmp_total.trans a.expires b.expires now.0 f (int_less b.expires now.0 early)))
    at Equal e Equal f none early h = and_from (a.group == 0) (int_lt a.expires now.0) (eq-eqb a.group 0 (nat_cmp-IsAntisymmetric a.group b.group e ∙ none)) (ap (λ n. int_lt n now.0) (int_cmp-IsAntisymmetric a.expires b.expires f) ∙ early)
    at Equal e Greater f none early h = absurd (false≢true (sym h ∙ ap is_gt (ap (λ r. ordering_then r (int_cmp a.expires b.expires)) e ∙ f)))
    at Greater e q f none early h = absurd (false≢true (sym h ∙ ap is_gt (ap (λ r. ordering_then r (int_cmp a.expires b.expires)) e)))

-- the entries in front that expire are all that do
pub expired_are : (now : UnixSeconds) (es : List Entry) → IsStrictlySortedBy entry_cmp es → take_while (is_expired_entry now) es ≡ filter (is_expired_entry now) es
expired_are now [] sorted = refl
expired_are now (x ∷ xs) sorted = take_while-cons (is_expired_entry now) x xs ∙ by (is_expired_entry now x) refl (expired_are now xs (sorted_tail entry_cmp x xs sorted))
  where
    none_later : (ys : List Entry) → is_expired_entry now x ≡ false → AllByRecursion (λ y. entry_cmp x y ≡ Less) ys → filter (is_expired_entry now) ys ≡ []
    none_later [] stays all = refl
    none_later (y ∷ ys) stays all = ap (λ b. cond b (y ∷ filter (is_expired_entry now) ys) (filter (is_expired_entry now) ys)) (false_from_ne_true (is_expired_entry now y) (λ h. false≢true (sym stays ∙ earlier_expires now x y all.0 h))) ∙ none_later ys stays all.1

    by : (b : Bool) → is_expired_entry now x ≡ b → take_while (is_expired_entry now) xs ≡ filter (is_expired_entry now) xs → cond (is_expired_entry now x) (x ∷ take_while (is_expired_entry now) xs) [] ≡ cond (is_expired_entry now x) (x ∷ filter (is_expired_entry now) xs) (filter (is_expired_entry now) xs)
    by true e next = rw (e) (ap (λ ys. x ∷ ys) next)
    by false e next = rw (e) (sym (none_later xs e (sorted_head entry_cmp x xs sorted)))
