-- The live size of what a round leaves.
use Rattle.mb_cache.proofs.Common.{Agrees, ap, arith, Bool, Cell, cond, drop, Entry, entry_cmp, entry_of, eq_by_cmp, false, false≢true, filter, find, found_size, has_entry, has_key, IsSound}
use Rattle.mb_cache.proofs.Common.{IsStrictlySortedBy, List, list_any-append, live_size_of, ltb-false, ltb-true, min, nat_lt, None, not, Option, option_to_list, or_left, or_right, place_in, refl}
use Rattle.mb_cache.proofs.Common.{row_size, size_at, sizes_at, Some, sorted_head, sorted_tail, subst, sum_by, sum_by-cons, sym, Tables, take, take-append-drop, tile_key, TileCache, true, without, ℕ}
use Rattle.mb_cache.proofs.Common.{[], ◌+◌, ◌-◌, ◌<◌, ◌^◌, ◌||◌, ◌∙◌, ◌∷◌, ◌≡◌}
use Rattle.std.proofs.lemmas.List.Filters.{sum_by-filter_both}
use Rattle.mb_cache.proofs.EntryLemmas.{after_first, entry_itself, sorted_take}
use Rattle.mb_cache.proofs.EvictLemmas.{of_entry}
use Rattle.mb_cache.proofs.ListLemmas.{filter_same}
use Rattle.mb_cache.proofs.RowLemmas.{row_alone}

-- what passes one of two tests, where nothing passes both
sum_either : {X : Type 0} (f : X → ℕ) (p q : X → Bool) (xs : List X) → ((x : X) → p x ≡ true → q x ≡ false) → sum_by f (filter (λ x. p x || q x) xs) ≡ sum_by f (filter p xs) + sum_by f (filter q xs)
sum_either f p q [] apart = refl
sum_either {X} f p q (x ∷ xs) apart = by (p x) refl (q x) refl (sum_either f p q xs apart)
  where
    ps : List X
    ps = filter p xs

    qs : List X
    qs = filter q xs

    rs : List X
    rs = filter (λ x. p x || q x) xs

    by : (a : Bool) → p x ≡ a → (b : Bool) → q x ≡ b → sum_by f rs ≡ sum_by f ps + sum_by f qs → sum_by f (cond (p x || q x) (x ∷ rs) rs) ≡ sum_by f (cond (p x) (x ∷ ps) ps) + sum_by f (cond (q x) (x ∷ qs) qs)
    by true e true g next = absurd (false≢true (sym (apart x e) ∙ g))
    by true e false g next = rw (e, g) (omega (arith, next, sum_by-cons f x rs, sum_by-cons f x ps))
    by false e true g next = rw (e, g) (omega (arith, next, sum_by-cons f x rs, sum_by-cons f x qs))
    by false e false g next = rw (e, g) next

one_size : (o : Option (List Cell)) → sum_by row_size (option_to_list o) ≡ found_size o
one_size (Some row) =
    let one : sum_by row_size (row ∷ []) ≡ row_size row + sum_by row_size [] = sum_by-cons row_size row [] in
    let none : sum_by row_size [] ≡ 0 = refl in
    omega (arith, one, none)
one_size None = refl

module _ (t : Tables) (es : List Entry) (agrees : Agrees t es) (sound : IsSound t) where
  abbrev rows : List (List Cell)
  rows = t.rows TileCache

  -- the row of an entry has its size
  of_one : (e : Entry) → has_entry es e ≡ true → sum_by row_size (filter (λ row. eq_by_cmp entry_cmp (entry_of row) e) rows) ≡ size_at t e
  of_one e there =
      ap (sum_by row_size) (sym (filter_same (has_key TileCache (tile_key (place_in e))) (λ row. eq_by_cmp entry_cmp (entry_of row) e) rows (λ k d far. of_entry t es agrees sound k d far e there)) ∙ row_alone (place_in e) rows (sound.keys TileCache agrees.keyed))
      ∙ one_size (find (has_key TileCache (tile_key (place_in e))) rows)

  -- the rows of some of the entries have their sizes
  of_some : (gone : List Entry) → ((e : Entry) → has_entry gone e ≡ true → has_entry es e ≡ true) → IsStrictlySortedBy entry_cmp gone → sum_by row_size (filter (λ row. has_entry gone (entry_of row)) rows) ≡ sizes_at t gone
  of_some [] within sorted = none rows
    where
      none : (xs : List (List Cell)) → sum_by row_size (filter (λ row. false) xs) ≡ 0
      none [] = refl
      none (x ∷ xs) = none xs
  of_some (g ∷ gs) within sorted =
      let here : sum_by row_size (filter (λ row. eq_by_cmp entry_cmp (entry_of row) g) rows) ≡ size_at t g = of_one g (within g (or_left (eq_by_cmp entry_cmp g g) (has_entry gs g) (entry_itself g))) in
      let later : sum_by row_size (filter (λ row. has_entry gs (entry_of row)) rows) ≡ sizes_at t gs = of_some gs (λ e h. within e (or_right (eq_by_cmp entry_cmp e g) (has_entry gs e) h)) (sorted_tail entry_cmp g gs sorted) in
      let split : sum_by row_size (filter (λ row. eq_by_cmp entry_cmp (entry_of row) g || has_entry gs (entry_of row)) rows) ≡ sum_by row_size (filter (λ row. eq_by_cmp entry_cmp (entry_of row) g) rows) + sum_by row_size (filter (λ row. has_entry gs (entry_of row)) rows) =
      sum_either row_size (λ row. eq_by_cmp entry_cmp (entry_of row) g) (λ row. has_entry gs (entry_of row)) rows (λ row h. after_first g gs (entry_of row) (sorted_head entry_cmp g gs sorted) h) in
      omega (arith, here, later, split, sum_by-cons (size_at t) g gs)

  pub sizes_left : (n : ℕ) → sum_by row_size (filter (λ row. not (has_entry (take n es) (entry_of row))) rows) + sizes_at t (take n es) ≡ sum_by row_size rows
  sizes_left n =
      let gone : sum_by row_size (filter (λ row. has_entry (take n es) (entry_of row)) rows) ≡ sizes_at t (take n es) = of_some (take n es) within (sorted_take n es agrees.ordered) in
      omega (arith, gone, sum_by-filter_both (λ row. has_entry (take n es) (entry_of row)) (λ row. not (has_entry (take n es) (entry_of row))) (λ row. refl) row_size rows)
    where
      within : (e : Entry) → has_entry (take n es) e ≡ true → has_entry es e ≡ true
      within e h = sym (ap (λ xs. has_entry xs e) (take-append-drop n es)) ∙ (list_any-append (eq_by_cmp entry_cmp e) (take n es) (drop n es) ∙ or_left (has_entry (take n es) e) (has_entry (drop n es) e) h)

  -- where the live size isn't at its end, the sizes of the rows that go are what it falls by
  pub live_left : (n : ℕ) → live_size_of t < 2 ^ 64 - 1 → live_size_of (without (take n es) t) ≡ live_size_of t - min (sizes_at t (take n es)) (2 ^ 64 - 1)
  live_left n below = omega (arith, below, sizes_left n)

-- the live size behind a round, known or asked for
pub next_live : (t u : Tables) (es : List Entry) (size gone left : ℕ) → size ≡ live_size_of t → gone ≡ min (sizes_at t (take 64 es)) (2 ^ 64 - 1) → u ≡ without (take 64 es) t → Agrees t es → IsSound t
    → (size < 2 ^ 64 - 1 → left ≡ size - gone) → (size ≡ 2 ^ 64 - 1 → left ≡ live_size_of u) → left ≡ live_size_of u
next_live t u es size gone left live sizes after agrees sound known asked = by (nat_lt size (2 ^ 64 - 1)) refl
  where
    by : (b : Bool) → nat_lt size (2 ^ 64 - 1) ≡ b → left ≡ live_size_of u
    by true e =
        let below : size < 2 ^ 64 - 1 = ltb-true size (2 ^ 64 - 1) e in
        known below ∙ (ap (λ n. n - gone) live ∙ (ap (λ n. live_size_of t - n) sizes ∙ (sym (live_left t es agrees sound 64 (subst (λ n. n < 2 ^ 64 - 1) live below)) ∙ ap live_size_of (sym after))))
    by false e = asked (omega (arith, ltb-false size (2 ^ 64 - 1) e, live))
