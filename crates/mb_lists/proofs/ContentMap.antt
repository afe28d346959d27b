-- The map of contents by id.
use Rattle.mb_lists.proofs.Common.{All, All-head, All-tail, ap, append_assoc, AreIndexed, Bool, Cell, cell_cmp, cell_cmp-IsAntisymmetric, cells_total, cond, cons_option, Content, content_entry}
use Rattle.mb_lists.proofs.Common.{content_value, contents_by_id, contents_held, entries_by, false, false≢true, filter_map, from_entries, id_at, ids_from, is_null, is_removed, IsPermutation-sym, Kept}
use Rattle.mb_lists.proofs.Common.{length, List, None, nothing, Option, option_and_then, option_map, Put, refl, Removed, rows_kept, Some, Standing, subst, suc, sym, true, unless_removed, unwrap_or, ℕ}
use Rattle.mb_lists.proofs.Common.{[], ◌++◌, ◌∙◌, ◌∷◌, ◌≡◌}
use Rattle.mb_lists.proofs.ContentLemmas.{at_middle, longer}
use Rattle.mb_lists.proofs.Sorting.{apart_permuted, map_permuted}

there : (s : Standing) (x : Option Cell) → is_removed s ≡ false → unless_removed s x ≡ x
there Kept x h = refl
there Put x h = refl
there Removed x h = absurd (false≢true (sym h))

-- the entries of the indexes after a front are those of the rows
entries_after : (pre cs : List Content) → All (λ c. is_removed c.standing ≡ false) cs → entries_by (id_at (pre ++ cs)) (content_value (pre ++ cs)) (ids_from (length pre) cs) ≡ filter_map content_entry (rows_kept cs)
entries_after pre [] h = refl
entries_after pre (c ∷ cs) h = by (is_null c.id) refl (entries_after (pre ++ c ∷ []) cs (All-tail (λ c. is_removed c.standing ≡ false) c cs h))
  where
    rest : entries_by (id_at ((pre ++ c ∷ []) ++ cs)) (content_value ((pre ++ c ∷ []) ++ cs)) (ids_from (length (pre ++ c ∷ [])) cs) ≡ filter_map content_entry (rows_kept cs) → entries_by (id_at (pre ++ c ∷ cs)) (content_value (pre ++ c ∷ cs)) (ids_from (suc (length pre)) cs) ≡ filter_map content_entry (rows_kept cs)
    rest ih = subst (λ n. entries_by (id_at (pre ++ c ∷ cs)) (content_value (pre ++ c ∷ cs)) (ids_from n cs) ≡ filter_map content_entry (rows_kept cs)) (longer pre c)
        (subst (λ l. entries_by (id_at l) (content_value l) (ids_from (length (pre ++ c ∷ [])) cs) ≡ filter_map content_entry (rows_kept cs)) (append_assoc pre (c ∷ []) cs) ih)

    here : option_map {U = Cell × Cell} (λ v. (id_at (pre ++ c ∷ cs) (length pre), v)) (content_value (pre ++ c ∷ cs) (length pre)) ≡ Some (c.id, c.cell)
    here =
        ap (λ o. option_map {U = Cell × Cell} (λ v. ((unwrap_or o nothing).id, v)) (option_and_then (λ (k : Content). unless_removed k.standing (Some k.cell)) o)) (at_middle pre c cs)
        ∙ ap (option_map {U = Cell × Cell} (λ v. (c.id, v))) (there c.standing (Some c.cell) (All-head (λ c. is_removed c.standing ≡ false) c cs h))

    by : (b : Bool) → is_null c.id ≡ b → entries_by (id_at ((pre ++ c ∷ []) ++ cs)) (content_value ((pre ++ c ∷ []) ++ cs)) (ids_from (length (pre ++ c ∷ [])) cs) ≡ filter_map content_entry (rows_kept cs) → entries_by (id_at (pre ++ c ∷ cs)) (content_value (pre ++ c ∷ cs)) (cond b (ids_from (suc (length pre)) cs) (length pre ∷ ids_from (suc (length pre)) cs)) ≡ cons_option (cond (is_null c.id) None (Some (c.id, c.cell))) (filter_map content_entry (rows_kept cs))
    by true e ih = rest ih ∙ ap (λ b. cons_option (cond b None (Some (c.id, c.cell))) (filter_map content_entry (rows_kept cs))) (sym e)
    by false e ih = ap (λ o. cons_option o (entries_by (id_at (pre ++ c ∷ cs)) (content_value (pre ++ c ∷ cs)) (ids_from (suc (length pre)) cs))) here ∙ (ap (λ l. (c.id, c.cell) ∷ l) (rest ih) ∙ ap (λ b. cons_option (cond b None (Some (c.id, c.cell))) (filter_map content_entry (rows_kept cs))) (sym e))

-- what the order of ids holds is what the rows hold
pub contents_are : (contents : List Content) (live : ℕ) (order : List ℕ) → AreIndexed contents live order → contents_held contents order ≡ contents_by_id (rows_kept contents)
contents_are contents live order x =
    let apart = apart_permuted cells_total (id_at contents) order (ids_from 0 contents) (IsPermutation-sym (ids_from 0 contents) order x.listed) x.rising.apart in
    map_permuted cells_total cell_cmp-IsAntisymmetric (id_at contents) (content_value contents) (ids_from 0 contents) order apart x.rising.apart x.listed
    ∙ ap (from_entries {R = cell_cmp}) (entries_after [] contents x.present)
