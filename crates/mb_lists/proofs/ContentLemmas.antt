-- The indexes of contents that have an id, and what they say of the rows.
use Rattle.mb_lists.proofs.Common.{All, All-head, All-tail, ap, append_assoc, arith, Bool, cond, Content, false, filter, id_at, ids_from, is_content_gone, is_null, is_removed, length, length-append}
use Rattle.mb_lists.proofs.Common.{List, map, not, nothing, refl, slice_get, Some, subst, suc, true, unwrap_or, zero, ℕ, [], ◌++◌, ◌∙◌, ◌∷◌, ◌≡◌}

-- the item after a front
pub at_middle : {X : Type 0} (pre : List X) (x : X) (xs : List X) → slice_get (pre ++ x ∷ xs) (length pre) ≡ Some x
at_middle [] x xs = refl
at_middle (y ∷ pre) x xs = at_middle pre x xs

-- one more item in front
pub longer : (pre : List Content) (c : Content) → length (pre ++ c ∷ []) ≡ suc (length pre)
longer pre c = omega (arith, length-append pre (c ∷ []))

-- the ids under the indexes are the ids that aren't null, in their order
ids_after : (pre cs : List Content) → map (id_at (pre ++ cs)) (ids_from (length pre) cs) ≡ filter (λ c. not (is_null c)) (map (λ c. c.id) cs)
ids_after pre [] = refl
ids_after pre (c ∷ cs) = by (is_null c.id) refl (ids_after (pre ++ c ∷ []) cs)
  where
    rest : map (id_at ((pre ++ c ∷ []) ++ cs)) (ids_from (length (pre ++ c ∷ [])) cs) ≡ filter (λ c. not (is_null c)) (map (λ c. c.id) cs) → map (id_at (pre ++ c ∷ cs)) (ids_from (suc (length pre)) cs) ≡ filter (λ c. not (is_null c)) (map (λ c. c.id) cs)
    rest ih = subst (λ n. map (id_at (pre ++ c ∷ cs)) (ids_from n cs) ≡ filter (λ c. not (is_null c)) (map (λ c. c.id) cs)) (longer pre c)
        (subst (λ l. map (id_at l) (ids_from (length (pre ++ c ∷ [])) cs) ≡ filter (λ c. not (is_null c)) (map (λ c. c.id) cs)) (append_assoc pre (c ∷ []) cs) ih)

    here : id_at (pre ++ c ∷ cs) (length pre) ≡ c.id
    here = ap (λ o. (unwrap_or o nothing).id) (at_middle pre c cs)

    by : (b : Bool) → is_null c.id ≡ b → map (id_at ((pre ++ c ∷ []) ++ cs)) (ids_from (length (pre ++ c ∷ [])) cs) ≡ filter (λ c. not (is_null c)) (map (λ c. c.id) cs) → map (id_at (pre ++ c ∷ cs)) (cond b (ids_from (suc (length pre)) cs) (length pre ∷ ids_from (suc (length pre)) cs)) ≡ cond (not b) (c.id ∷ filter (λ c. not (is_null c)) (map (λ c. c.id) cs)) (filter (λ c. not (is_null c)) (map (λ c. c.id) cs))
    by true e ih = rest ih
    by false e ih = ap (λ i. i ∷ map (id_at (pre ++ c ∷ cs)) (ids_from (suc (length pre)) cs)) here ∙ ap (λ l. c.id ∷ l) (rest ih)

pub ids_listed : (cs : List Content) → map (id_at cs) (ids_from 0 cs) ≡ filter (λ c. not (is_null c)) (map (λ c. c.id) cs)
ids_listed cs = ids_after [] cs

-- no index is of a mark where no contents are
pub alive : (cs : List Content) (i : ℕ) → All (λ c. is_removed c.standing ≡ false) cs → is_content_gone cs i ≡ false
alive [] i h = refl
alive (c ∷ cs) zero h = All-head (λ c. is_removed c.standing ≡ false) c cs h
alive (c ∷ cs) (suc i) h = alive cs i (All-tail (λ c. is_removed c.standing ≡ false) c cs h)

pub none_gone : (cs : List Content) (order : List ℕ) → All (λ c. is_removed c.standing ≡ false) cs → All (λ i. is_content_gone cs i ≡ false) order
none_gone cs order h = λ k d lt. alive cs _ h
