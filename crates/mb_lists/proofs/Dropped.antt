-- Contents that no tile has: how they become marks.
use Rattle.mb_lists.proofs.Common.{ap, arith, behind, Bool, cases_lt, cell_cmp, cell_eq, cond, Content, content_at, drop, drop-cons, eq_by_cmp, false, false≢true, get_or, id_at, inl, inr, is_eq}
use Rattle.mb_lists.proofs.Common.{is_gone, is_lt, is_ok, is_unnamed, IsBinarySearchResult, IsPartitionPoint, IsSearchInRange, IsSortedBy, IsTotalOrder, length, List, list_any, marked, marked_unnamed}
use Rattle.mb_lists.proofs.Common.{not, Ordering, refl, Removed, searchable_from_sorted, slice_get, Some, StoredTile, subst, suc, sym, take, true, zero, ℕ, [], ◌+◌, ◌<◌, ◌∙◌, ◌∷◌, ◌≡◌, ◌≤◌}
use Rattle.std.specs.declared.result.Result.{Result}
use Rattle.std.specs.declared.result.Result.TheVariants.{Ok, Err}
use Rattle.std.proofs.lemmas.List.Folds.{list_any_at, list_any_none}
use Rattle.mb_lists.proofs.Settling.{live_sorted}

-- a search tells whether an item has the key
module _ {K X : Type 0} {R : K → K → Ordering} (total : IsTotalOrder R) (key : X → K) where
  pub found_any : (xs : List X) (q : K) (r : Result ℕ ℕ) → IsSortedBy (λ x y. is_lt (R (key x) (key y))) xs → IsSearchInRange r (length xs) → IsBinarySearchResult (λ x. R (key x) q) xs r → is_ok r ≡ list_any (λ x. eq_by_cmp R (key x) q) xs
  found_any [] q (Ok i) up range at = absurd (omega arith)
  found_any (x ∷ xs) q (Ok i) up range at = sym (list_any_at (λ x. eq_by_cmp R (key x) q) (x ∷ xs) i x range (ap is_eq (at x)))
  found_any xs q (Err i) up range at =
      let parts = at (searchable_from_sorted total key xs q up) in
      sym (list_any_none (λ x. eq_by_cmp R (key x) q) xs (λ k d lt. elim (cases_lt k i) [
        | inl below ↦ ap is_eq (parts.0 k d (omega arith) below)
        | inr from ↦ ap is_eq (parts.1 k d from lt)
      ]))

-- the same contents, but for what became of them
pub record AreLike (contents contents' : List Content) : Type 0 where
  pub len : length contents' ≡ length contents
  pub ids : (j : ℕ) → (content_at contents' j).id ≡ (content_at contents j).id
  pub cells : (j : ℕ) → (content_at contents' j).cell ≡ (content_at contents j).cell

pub like_itself : (contents : List Content) → AreLike contents contents
like_itself contents = record { len = refl; ids = λ j. refl; cells = λ j. refl }

pub like_both : (a b c : List Content) → AreLike a b → AreLike b c → AreLike a c
like_both a b c p q = record { len = q.len ∙ p.len; ids = λ j. q.ids j ∙ p.ids j; cells = λ j. q.cells j ∙ p.cells j }

like_marked : (contents : List Content) (i : ℕ) → AreLike contents (marked contents i)
like_marked contents i = record { len = lens contents i; ids = ids contents i; cells = cells contents i }
  where
    lens : (cs : List Content) (i : ℕ) → length (marked cs i) ≡ length cs
    lens [] i = refl
    lens (c ∷ cs) zero = refl
    lens (c ∷ cs) (suc i) = ap suc (lens cs i)

    ids : (cs : List Content) (i j : ℕ) → (content_at (marked cs i) j).id ≡ (content_at cs j).id
    ids [] i j = refl
    ids (c ∷ cs) zero zero = refl
    ids (c ∷ cs) zero (suc j) = refl
    ids (c ∷ cs) (suc i) zero = refl
    ids (c ∷ cs) (suc i) (suc j) = ids cs i j

    cells : (cs : List Content) (i j : ℕ) → (content_at (marked cs i) j).cell ≡ (content_at cs j).cell
    cells [] i j = refl
    cells (c ∷ cs) zero zero = refl
    cells (c ∷ cs) zero (suc j) = refl
    cells (c ∷ cs) (suc i) zero = refl
    cells (c ∷ cs) (suc i) (suc j) = cells cs i j

-- one that is marked is gone, and each that was gone stays so
marked_here : (contents : List Content) (i : ℕ) → i < length contents → (content_at (marked contents i) i).standing ≡ Removed
marked_here [] i lt = absurd (omega arith)
marked_here (c ∷ cs) zero lt = refl
marked_here (c ∷ cs) (suc i) lt = marked_here cs i (omega arith)

marked_stays : (contents : List Content) (i j : ℕ) → (content_at contents j).standing ≡ Removed → (content_at (marked contents i) j).standing ≡ Removed
marked_stays [] i j h = h
marked_stays (c ∷ cs) zero zero h = refl
marked_stays (c ∷ cs) zero (suc j) h = h
marked_stays (c ∷ cs) (suc i) zero h = h
marked_stays (c ∷ cs) (suc i) (suc j) h = marked_stays cs i j h

marked_other : (contents : List Content) (i j : ℕ) → (i ≡ j → ⊥) → (content_at (marked contents i) j).standing ≡ (content_at contents j).standing
marked_other [] i j h = refl
marked_other (c ∷ cs) zero zero h = absurd (h refl)
marked_other (c ∷ cs) zero (suc j) h = refl
marked_other (c ∷ cs) (suc i) zero h = refl
marked_other (c ∷ cs) (suc i) (suc j) h = marked_other cs i j (λ e. h (ap suc e))

module _ (tiles : List StoredTile) where
  pub unnamed_alike : (contents contents' : List Content) (j : ℕ) → AreLike contents contents' → is_unnamed contents' tiles j ≡ is_unnamed contents tiles j
  unnamed_alike contents contents' j like = λ k. not (list_any (λ t. cell_eq (like.ids t.contents k) (like.ids j k)) tiles)

  abbrev step : List Content → ℕ → List Content
  step contents i = cond (is_unnamed contents tiles i) (marked contents i) contents

  pub like_step : (contents : List Content) (i : ℕ) → AreLike contents (step contents i)
  like_step contents i = by (is_unnamed contents tiles i)
    where
      by : (b : Bool) → AreLike contents (cond b (marked contents i) contents)
      by true = like_marked contents i
      by false = like_itself contents

  pub like_all : (contents : List Content) (order : List ℕ) → AreLike contents (marked_unnamed tiles contents order)
  like_all contents [] = like_itself contents
  like_all contents (i ∷ is) = like_both contents (step contents i) (marked_unnamed tiles (step contents i) is) (like_step contents i) (like_all (step contents i) is)

  step_stays : (contents : List Content) (i j : ℕ) → (content_at contents j).standing ≡ Removed → (content_at (step contents i) j).standing ≡ Removed
  step_stays contents i j h = by (is_unnamed contents tiles i)
    where
      by : (b : Bool) → (content_at (cond b (marked contents i) contents) j).standing ≡ Removed
      by true = marked_stays contents i j h
      by false = h

  all_stay : (contents : List Content) (order : List ℕ) (j : ℕ) → (content_at contents j).standing ≡ Removed → (content_at (marked_unnamed tiles contents order) j).standing ≡ Removed
  all_stay contents [] j h = h
  all_stay contents (i ∷ is) j h = all_stay (step contents i) is j (step_stays contents i j h)

  -- contents that are listed and that no tile has are gone
  pub gone_after : (contents : List Content) (order : List ℕ) (j k : ℕ) → slice_get order k ≡ Some j → j < length contents → is_unnamed contents tiles j ≡ true → (content_at (marked_unnamed tiles contents order) j).standing ≡ Removed
  gone_after contents [] j k at lt h = cc
  gone_after contents (i ∷ is) j zero at lt h =
      let same : i ≡ j = cc in
      all_stay (step contents i) is j (ap (λ n. (content_at (step contents n) j).standing) same ∙ (ap (λ b. (content_at (cond b (marked contents j) contents) j).standing) h ∙ marked_here contents j lt))
  gone_after contents (i ∷ is) j (suc k) at lt h =
      gone_after (step contents i) is j k at (rw (like_step contents i).len lt) (unnamed_alike contents (step contents i) j (like_step contents i) ∙ h)

  step_keeps : (contents : List Content) (i j : ℕ) → is_unnamed contents tiles j ≡ false → (content_at (step contents i) j).standing ≡ (content_at contents j).standing
  step_keeps contents i j h = by (is_unnamed contents tiles i) refl
    where
      by : (b : Bool) → is_unnamed contents tiles i ≡ b → (content_at (cond b (marked contents i) contents) j).standing ≡ (content_at contents j).standing
      by true e = marked_other contents i j (λ same. false≢true (sym h ∙ (ap (is_unnamed contents tiles) (sym same) ∙ e)))
      by false e = refl

  -- contents that a tile has are as they were
  pub kept_after : (contents : List Content) (order : List ℕ) (j : ℕ) → is_unnamed contents tiles j ≡ false → (content_at (marked_unnamed tiles contents order) j).standing ≡ (content_at contents j).standing
  kept_after contents [] j h = refl
  kept_after contents (i ∷ is) j h = kept_after (step contents i) is j (unnamed_alike contents (step contents i) j (like_step contents i) ∙ h) ∙ step_keeps contents i j h

  -- one more index of a list
  pub mark_step : (first contents new : List Content) (order : List ℕ) (i d : ℕ) → i < length order → marked_unnamed tiles contents (drop i order) ≡ marked_unnamed tiles first order → AreLike first contents → new ≡ marked_unnamed tiles contents (get_or order i d ∷ []) → (marked_unnamed tiles new (drop (i + 1) order) ≡ marked_unnamed tiles first order) × AreLike first new
  mark_step first contents new order i d lt rest like e =
      let more : suc i ≡ i + 1 = omega arith in (
        ap (λ cs. marked_unnamed tiles cs (drop (i + 1) order)) e
            ∙ (ap (λ n. marked_unnamed tiles (step contents (get_or order i d)) (drop n order)) (sym more)
            ∙ (ap (marked_unnamed tiles contents) (sym (drop-cons order i d lt))
            ∙ rest)),
        like_both first contents new like (subst (AreLike contents) (sym e) (like_step contents (get_or order i d))),
      )

-- tiles that aren't marks stand in the order of their ids
pub ids_rise : (contents : List Content) (sorted : List StoredTile) (n : ℕ) → IsSortedBy (λ x y. is_lt (behind cell_cmp (λ t. id_at contents t.contents) is_gone x y)) sorted → n ≤ length sorted → IsPartitionPoint (λ t. not (is_gone t) ≡ true) (λ t. not (is_gone t) ≡ false) sorted n → IsSortedBy (λ x y. is_lt (cell_cmp (id_at contents x.contents) (id_at contents y.contents))) (take n sorted)
ids_rise contents sorted n up le point = live_sorted cell_cmp (λ (t : StoredTile). id_at contents t.contents) is_gone sorted n up le point
