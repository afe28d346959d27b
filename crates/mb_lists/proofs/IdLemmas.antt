-- What the order of ids finds is what the rows of contents have.
use Rattle.mb_lists.proofs.Common.{ap, append_assoc, AreIndexed, at_key, Blob, Bool, Cell, cell_at, cell_cmp, cell_cmp-IsAntisymmetric, cell_eq, cells_total, cond, Content, content_at, content_of}
use Rattle.mb_lists.proofs.Common.{eq_by_cmp_equiv, false, false≢true, find, id_at, ids_from, index_by, Int, is_content_gone, is_null, is_some, IsPermutation-sym, length, List, list_any, None}
use Rattle.mb_lists.proofs.Common.{none-some, nothing, Null, Option, option_and_then, option_map, Other, refl, row_kept, rows_kept, slice_get, Some, subst, suc, sym, Text, true, unwrap_or, ℕ, []}
use Rattle.mb_lists.proofs.Common.{◌++◌, ◌||◌, ◌∙◌, ◌∷◌, ◌≡◌}
use Rattle.mb_lists.proofs.Finding.{found_in}
use Rattle.mb_lists.proofs.ContentLemmas.{alive, at_middle, longer}
use Rattle.mb_lists.proofs.Sorting.{apart_permuted, found_permuted}

-- an id is not a null
not_null : (q c : Cell) → is_null q ≡ false → is_null c ≡ true → cell_eq q c ≡ false
not_null Null c h k = absurd (false≢true (sym h))
not_null (Int n) Null h k = refl
not_null (Text t) Null h k = refl
not_null (Blob b) Null h k = refl
not_null Other Null h k = refl
not_null q (Int n) h k = absurd (false≢true k)
not_null q (Text t) h k = absurd (false≢true k)
not_null q (Blob b) h k = absurd (false≢true k)
not_null q Other h k = absurd (false≢true k)

-- what is found by the indexes, after a front
look_after : (q : Cell) → is_null q ≡ false → (pre cs : List Content) → option_map (content_at (pre ++ cs)) (find (at_key cell_cmp (id_at (pre ++ cs)) q) (ids_from (length pre) cs)) ≡ find (λ c. cell_eq q c.id) cs
look_after q some pre [] = refl
look_after q some pre (c ∷ cs) = by (is_null c.id) refl (look_after q some (pre ++ c ∷ []) cs)
  where
    rest : option_map (content_at ((pre ++ c ∷ []) ++ cs)) (find (at_key cell_cmp (id_at ((pre ++ c ∷ []) ++ cs)) q) (ids_from (length (pre ++ c ∷ [])) cs)) ≡ find (λ c. cell_eq q c.id) cs → option_map (content_at (pre ++ c ∷ cs)) (find (at_key cell_cmp (id_at (pre ++ c ∷ cs)) q) (ids_from (suc (length pre)) cs)) ≡ find (λ c. cell_eq q c.id) cs
    rest ih = subst (λ n. option_map (content_at (pre ++ c ∷ cs)) (find (at_key cell_cmp (id_at (pre ++ c ∷ cs)) q) (ids_from n cs)) ≡ find (λ c. cell_eq q c.id) cs) (longer pre c)
        (subst (λ l. option_map (content_at l) (find (at_key cell_cmp (id_at l) q) (ids_from (length (pre ++ c ∷ [])) cs)) ≡ find (λ c. cell_eq q c.id) cs) (append_assoc pre (c ∷ []) cs) ih)

    it : content_at (pre ++ c ∷ cs) (length pre) ≡ c
    it = ap (λ o. unwrap_or o nothing) (at_middle pre c cs)

    here : at_key cell_cmp (id_at (pre ++ c ∷ cs)) q (length pre) ≡ cell_eq q c.id
    here = ap (λ k. cell_eq q k.id) it

    found : (b : Bool) → cell_eq q c.id ≡ b → option_map (content_at (pre ++ c ∷ cs)) (find (at_key cell_cmp (id_at (pre ++ c ∷ cs)) q) (ids_from (suc (length pre)) cs)) ≡ find (λ c. cell_eq q c.id) cs → option_map (content_at (pre ++ c ∷ cs)) (cond b (Some (length pre)) (find (at_key cell_cmp (id_at (pre ++ c ∷ cs)) q) (ids_from (suc (length pre)) cs))) ≡ cond b (Some c) (find (λ c. cell_eq q c.id) cs)
    found true e r = ap Some it
    found false e r = r

    by : (b : Bool) → is_null c.id ≡ b → option_map (content_at ((pre ++ c ∷ []) ++ cs)) (find (at_key cell_cmp (id_at ((pre ++ c ∷ []) ++ cs)) q) (ids_from (length (pre ++ c ∷ [])) cs)) ≡ find (λ c. cell_eq q c.id) cs → option_map (content_at (pre ++ c ∷ cs)) (find (at_key cell_cmp (id_at (pre ++ c ∷ cs)) q) (cond b (ids_from (suc (length pre)) cs) (length pre ∷ ids_from (suc (length pre)) cs))) ≡ cond (cell_eq q c.id) (Some c) (find (λ c. cell_eq q c.id) cs)
    by true e ih = rest ih ∙ ap (λ b. cond b (Some c) (find (λ c. cell_eq q c.id) cs)) (sym (not_null q c.id some e))
    by false e ih = ap (λ b. option_map (content_at (pre ++ c ∷ cs)) (cond b (Some (length pre)) (find (at_key cell_cmp (id_at (pre ++ c ∷ cs)) q) (ids_from (suc (length pre)) cs)))) here ∙ found (cell_eq q c.id) refl (rest ih)

-- so the index of an id is that of the first contents that have it
pub index_found : (contents : List Content) (live : ℕ) (order : List ℕ) → AreIndexed contents live order → (q : Cell) → is_null q ≡ false → option_map (content_at contents) (index_by contents order q) ≡ find (λ c. cell_eq q c.id) contents
index_found contents live order x q some =
    let apart = apart_permuted cells_total (id_at contents) order (ids_from 0 contents) (IsPermutation-sym (ids_from 0 contents) order x.listed) x.rising.apart in
    ap (option_map (content_at contents)) (by (find (at_key cell_cmp (id_at contents) q) order) ∙ found_permuted cells_total cell_cmp-IsAntisymmetric (id_at contents) q (ids_from 0 contents) order apart x.rising.apart x.listed)
    ∙ look_after q some [] contents
  where
    by : (r : Option ℕ) → option_and_then (λ i. cond (is_content_gone contents i) None (Some i)) r ≡ r
    by None = refl
    by (Some i) = ap (λ b. cond b None (Some i)) (alive contents i x.present)

-- the same of the rows
found_rows : (q : Cell) (contents : List Content) → find (λ row. cell_eq (cell_at 0 row) q) (rows_kept contents) ≡ option_map row_kept (find (λ c. cell_eq q c.id) contents)
found_rows q [] = refl
found_rows q (c ∷ cs) = ap (λ b. cond b (Some (row_kept c)) (find (λ row. cell_eq (cell_at 0 row) q) (rows_kept cs))) ((eq_by_cmp_equiv cells_total).symm c.id q) ∙ by (cell_eq q c.id) (found_rows q cs)
  where
    by : (b : Bool) → find (λ row. cell_eq (cell_at 0 row) q) (rows_kept cs) ≡ option_map row_kept (find (λ c. cell_eq q c.id) cs) → cond b (Some (row_kept c)) (find (λ row. cell_eq (cell_at 0 row) q) (rows_kept cs)) ≡ option_map row_kept (cond b (Some c) (find (λ c. cell_eq q c.id) cs))
    by true ih = refl
    by false ih = ih

any_found : {A : Type 0} (p : A → Bool) (xs : List A) → list_any p xs ≡ is_some (find p xs)
any_found p [] = refl
any_found p (x ∷ xs) = by (p x) refl (any_found p xs)
  where
    by : (b : Bool) → p x ≡ b → list_any p xs ≡ is_some (find p xs) → list_any p (x ∷ xs) ≡ is_some (find p (x ∷ xs))
    by true e ih = rw e refl
    by false e ih = rw e ih

mapped_some : {A B : Type 0} (f : A → B) (o : Option A) → is_some (option_map f o) ≡ is_some o
mapped_some f None = refl
mapped_some f (Some x) = refl

-- whether an id has contents
pub id_present : (contents : List Content) (live : ℕ) (order : List ℕ) → AreIndexed contents live order → (q : Cell) → is_null q ≡ false → list_any (λ row. cell_eq (cell_at 0 row) q) (rows_kept contents) ≡ is_some (index_by contents order q)
id_present contents live order x q some =
    any_found (λ row. cell_eq (cell_at 0 row) q) (rows_kept contents)
    ∙ (ap is_some (found_rows q contents)
    ∙ (mapped_some row_kept (find (λ c. cell_eq q c.id) contents)
    ∙ (ap is_some (sym (index_found contents live order x q some)) ∙ mapped_some (content_at contents) (index_by contents order q))))

abbrev cell_in : Option Content → Cell
cell_in None = Null
cell_in (Some c) = c.cell

row_cell : (o : Option Content) → cell_at 1 (unwrap_or (option_map row_kept o) []) ≡ cell_in o
row_cell None = refl
row_cell (Some c) = refl

cell_found : (contents : List Content) (live : ℕ) (order : List ℕ) → AreIndexed contents live order → (q : Cell) → is_null q ≡ false → content_of (rows_kept contents) q ≡ cell_in (option_map (content_at contents) (index_by contents order q))
cell_found contents live order x q some =
    ap (λ o. cell_at 1 (unwrap_or o [])) (found_rows q contents)
    ∙ (row_cell (find (λ c. cell_eq q c.id) contents) ∙ ap cell_in (sym (index_found contents live order x q some)))

-- the contents of an id by its index
pub cell_under : (contents : List Content) (live : ℕ) (order : List ℕ) → AreIndexed contents live order → (q : Cell) → is_null q ≡ false → (i : ℕ) → index_by contents order q ≡ Some i → content_of (rows_kept contents) q ≡ (content_at contents i).cell
cell_under contents live order x q some i h = cell_found contents live order x q some ∙ ap (λ o. cell_in (option_map (content_at contents) o)) h

pub no_cell_under : (contents : List Content) (live : ℕ) (order : List ℕ) → AreIndexed contents live order → (q : Cell) → is_null q ≡ false → index_by contents order q ≡ None → content_of (rows_kept contents) q ≡ Null
no_cell_under contents live order x q some h = cell_found contents live order x q some ∙ ap (λ o. cell_in (option_map (content_at contents) o)) h

-- the index is of contents with this id, and of some that are there
pub id_under : (contents : List Content) (order : List ℕ) (q : Cell) (i : ℕ) → index_by contents order q ≡ Some i → cell_eq q (id_at contents i) ≡ true
id_under contents order q i h = by (find (at_key cell_cmp (id_at contents) q) order) refl h
  where
    kept : (j : ℕ) (b : Bool) → at_key cell_cmp (id_at contents) q j ≡ true → cond b None (Some j) ≡ Some i → cell_eq q (id_at contents i) ≡ true
    kept j true a h = absurd (none-some i h)
    kept j false a h = let same : j ≡ i = cc in subst (λ k. cell_eq q (id_at contents k) ≡ true) same a

    by : (r : Option ℕ) → find (at_key cell_cmp (id_at contents) q) order ≡ r → option_and_then (λ i. cond (is_content_gone contents i) None (Some i)) r ≡ Some i → cell_eq q (id_at contents i) ≡ true
    by None e h = absurd (none-some i h)
    by (Some j) e h = kept j (is_content_gone contents j) (found_in (at_key cell_cmp (id_at contents) q) order j e).2 h

pub never_past : (contents : List Content) (order : List ℕ) (q : Cell) → is_null q ≡ false → (i : ℕ) → index_by contents order q ≡ Some i → slice_get contents i ≡ None → (X : Type 0) → X
never_past contents order q some i h past X = absurd (false≢true (sym (not_null q (id_at contents i) some (ap (λ o. is_null (unwrap_or o nothing).id) past)) ∙ id_under contents order q i h))

-- whether an id is null or has contents
pub id_named : (contents : List Content) (live : ℕ) (order : List ℕ) → AreIndexed contents live order → (q : Cell) → is_null q ≡ false → is_some (index_by contents order q) ≡ (is_null q || list_any (λ row. cell_eq (cell_at 0 row) q) (rows_kept contents))
id_named contents live order x q some = sym (id_present contents live order x q some) ∙ ap (λ b. b || list_any (λ row. cell_eq (cell_at 0 row) q) (rows_kept contents)) (sym some)

-- the cell at the index
pub cell_at_index : (contents : List Content) (live : ℕ) (order : List ℕ) → AreIndexed contents live order → (q : Cell) → is_null q ≡ false → (i : ℕ) → index_by contents order q ≡ Some i → (null : Cell) → unwrap_or (option_map (λ (c : Content). c.cell) (slice_get contents i)) null ≡ content_of (rows_kept contents) q
cell_at_index contents live order x q some i h null = by (slice_get contents i) refl ∙ sym (cell_under contents live order x q some i h)
  where
    by : (o : Option Content) → slice_get contents i ≡ o → unwrap_or (option_map (λ (c : Content). c.cell) o) null ≡ (unwrap_or (slice_get contents i) nothing).cell
    by (Some c) e = ap (λ o. (unwrap_or o nothing).cell) (sym e)
    by None e = never_past contents order q some i h e _
