-- What the entries of a set's names say, and names that are copied.
use Rattle.set_options.proofs.Common.{All, All-cons, All-nil, and_parts, ap, AreNamesInOrder, arith, Bool, Cell, drop, drop_all, entries, entries_by, entries_sorted, false, from_entries, from_last, get-entries, get-from_entries, get_or, get_or_from_slice_get, Held, IfSome, is_lt, is_name_gone, is_sorted, IsName, IsPermutation-refl, length, List, live_at, map, map-append, name_of, name_value, Names, names_held, nat_cmp, nat_list_cmp_total, None, none-some, Option, option_and_then, Ordering, refl, same_map, slice_cmp, slice_get, slice_get-get_or, Some, stored_name, StoredName, subst, suc, sym, T, take, take_more, text_at, text_cell, text_of, true, zero, ℕ, [], ◌++◌, ◌+◌, ◌-◌, ◌<◌, ◌∙◌, ◌∷◌, ◌≡◌, ◌≤◌}
use Rattle.mb_lists.proofs.NameLemmas.{names_antisymmetric}
use Rattle.mb_lists.proofs.Sorting.{sorted_in_order}
use Rattle.mb_tables.specs.CellKinds.{is_text}
use Rattle.mb_lists.proofs.ReaderLemmas.{name_found, name_missing}

-- the text of the entry under a name
pub text_under : (live : ℕ) (names : List StoredName) → AreNamesInOrder live names → (q : List ℕ) (o : Option StoredName) → o ≡ live_at (slice_cmp nat_cmp) name_of is_name_gone q names → option_and_then (λ (n : StoredName). text_of n.value) o ≡ text_at (names_held names) q
text_under live names order q (Some n) h = ap (λ (o : Option (Option (List ℕ))). option_and_then {U = List ℕ} (λ text. text) o) (sym (name_found live names order q n (sym h)))
text_under live names order q None h = ap (λ (o : Option (Option (List ℕ))). option_and_then {U = List ℕ} (λ text. text) o) (sym (name_missing live names order q (sym h)))

-- one more of the items of a list
pub mapped_more : {A B : Type 0} (f : A → B) (es : List A) (i : ℕ) (d : A) (old : List B) (x : B) → i < length es → IfSome (slice_get es i) (λ e. x ≡ f e) → old ≡ map f (take i es) → old ++ x ∷ [] ≡ map f (take (i + 1) es)
mapped_more {A = A} f es i d old x far here before = by (slice_get es i) refl here
  where
    by : (o : Option A) → slice_get es i ≡ o → IfSome o (λ e. x ≡ f e) → old ++ x ∷ [] ≡ map f (take (i + 1) es)
    by None at h = absurd (none-some _ (sym at ∙ slice_get-get_or es i d far))
    by (Some e) at h =
        let front : take (i + 1) es ≡ take i es ++ e ∷ [] = take_more es i e far ∙ ap (λ y. take i es ++ y ∷ []) (get_or_from_slice_get es i e e at) in
        (λ j. before j ++ h j ∷ []) ∙ sym (ap (map f) front ∙ map-append f (take i es) (e ∷ []))

-- edits for each of a list, from the last to the first, in a loop: the one before those that were made
at_index : {A : Type 0} (edit : Held → A → Held) (es : List A) (i : ℕ) (first set new : Held) → i < length es → set ≡ from_last edit first (drop (suc i) es) → IfSome (slice_get es i) (λ e. new ≡ edit set e) → new ≡ from_last edit first (drop i es)
at_index edit [] i first set new lt done made = absurd (omega (arith, lt))
at_index edit (e ∷ es) zero first set new lt done made = made ∙ ap (λ h. edit h e) done
at_index edit (e ∷ es) (suc i) first set new lt done made = at_index edit es i first set new (omega (arith, lt)) done made

pub one_before : {A : Type 0} (edit : Held → A → Held) (es : List A) (n : ℕ) (first set new : Held) → 0 < n → n ≤ length es → set ≡ from_last edit first (drop n es) → IfSome (slice_get es (n - 1)) (λ e. new ≡ edit set e) → (n - 1 ≤ length es) × (new ≡ from_last edit first (drop (n - 1) es))
one_before edit es n first set new some within done made =
    let next : n ≡ suc (n - 1) = omega (arith, some) in
    (omega (arith, within), at_index edit es (n - 1) first set new (omega (arith, some, within)) (done ∙ ap (λ k. from_last edit first (drop k es)) next) made)

pub none_made : {A : Type 0} (edit : Held → A → Held) (es : List A) (n : ℕ) (first : Held) → n ≡ length es → (n ≤ length es) × (first ≡ from_last edit first (drop n es))
none_made edit es n first all = (omega (arith, all), ap (from_last edit first) (sym (drop_all n es (omega (arith, all)))))

-- a text or null of names
text_is : (o : Option (List ℕ)) → text_of (text_cell o) ≡ o
text_is None = refl
text_is (Some text) = refl

is_text_cell : (o : Option (List ℕ)) → is_text (text_cell o) ≡ true
is_text_cell None = refl
is_text_cell (Some text) = refl

pub value_is_text : (es : List (List ℕ × Option (List ℕ))) (i : ℕ) (name : List ℕ) (read copy : Cell) → i < length es → IfSome (slice_get es i) (λ e. (e.0 ≡ name) × (text_cell e.1 ≡ read)) → copy ≡ read → is_text copy ≡ true
value_is_text [] i name read copy lt h same = absurd (omega (arith, lt))
value_is_text (e ∷ es) zero name read copy lt h same = ap is_text (same ∙ sym h.1) ∙ is_text_cell e.1
value_is_text (e ∷ es) (suc i) name read copy lt h same = value_is_text es i name read copy (omega (arith, lt)) h same

sorted_true : (b : Bool) → T b → b ≡ true
sorted_true true h = refl
sorted_true false h = absurd h

-- names that are copied out of a map: they are in order, and mean the map
abbrev Pairs : Type 0
Pairs = List (List ℕ × Option (List ℕ))

abbrev R : List ℕ → List ℕ → Ordering
R = slice_cmp nat_cmp

copied : (es : Pairs) → entries_by name_of name_value (map stored_name es) ≡ es
copied [] = refl
copied (e ∷ es) = λ i. (e.0, text_is e.1 i) ∷ copied es i

pub names_copied : (m : Names) → names_held (map stored_name (entries m)) ≡ m
names_copied m = ap (from_entries {R = R}) (copied (entries m)) ∙ same_map nat_list_cmp_total names_antisymmetric _ _ (λ q. get-from_entries nat_list_cmp_total (entries m) q ∙ sym (get-entries m q))

alive : (es : Pairs) → All (λ (n : StoredName). is_name_gone n ≡ false) (map stored_name es)
alive [] = All-nil (λ (n : StoredName). is_name_gone n ≡ false)
alive (e ∷ es) = All-cons (λ (n : StoredName). is_name_gone n ≡ false) (stored_name e) (map stored_name es) refl (alive es)

pub texts_copied : (es : Pairs) → All IsName (map stored_name es)
texts_copied [] = All-nil IsName
texts_copied (e ∷ es) = All-cons IsName (stored_name e) (map stored_name es) (is_text_cell e.1) (texts_copied es)

rises : (es : Pairs) → is_sorted R es ≡ true → (k : ℕ) (d : StoredName) → k + 1 < length (map stored_name es) → true ≡ is_lt (R (name_of (get_or (map stored_name es) k d)) (name_of (get_or (map stored_name es) (k + 1) d)))
rises [] s k d far = absurd (omega (arith, far))
rises (e ∷ []) s k d far = absurd (omega (arith, far))
rises (e ∷ (f ∷ es)) s zero d far = sym (and_parts (is_lt (R e.0 f.0)) _ (and_parts _ _ s).0).0
rises (e ∷ (f ∷ es)) s (suc k) d far =
    let next : suc (k + 1) ≡ suc k + 1 = omega arith in
    subst (λ n. true ≡ is_lt (R (name_of (get_or (map stored_name (f ∷ es)) k d)) (name_of (get_or (map stored_name (e ∷ (f ∷ es))) n d)))) next
    (rises (f ∷ es) (and_parts _ (is_sorted R (f ∷ es)) s).1 k d (omega (arith, far)))

pub copied_in_order : (m : Names) → AreNamesInOrder (length (map stored_name (entries m))) (map stored_name (entries m))
copied_in_order m =
    let xs = map stored_name (entries m) in
    sorted_in_order nat_list_cmp_total names_antisymmetric name_of is_name_gone xs xs (IsPermutation-refl xs) (alive (entries m)) (rises (entries m) (sorted_true (is_sorted R (entries m)) (entries_sorted m)))
