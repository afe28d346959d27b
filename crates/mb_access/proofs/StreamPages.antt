-- The rows that are still to come, page by page.
use Rattle.mb_access.proofs.Common.{ap, arith, Cell, drop, drop-drop, length, List, suc, sym, take, zero, ℕ, [], ◌++◌, ◌+◌, ◌-◌, ◌∙◌, ◌∷◌, ◌≡◌, ◌≤◌}
use Rattle.std.proofs.lemmas.List.{drop_all}

abbrev Rows : Type 0
Rows = List (List Cell)

-- a front of a list is a front of it, and what is left of the list behind that
seam : (n limit : ℕ) (xs : Rows) → limit ≤ n → take n xs ≡ take limit xs ++ take (n - length (take limit xs)) (drop (length (take limit xs)) xs)
seam n zero xs h = let same : n ≡ n - 0 = omega arith in ap (λ k. take k xs) same
seam n (suc limit) [] h = let same : n ≡ n - 0 = omega arith in let none : Rows = [] in ap (λ k. take k none) same
seam zero (suc limit) (x ∷ xs) h = absurd (omega (arith, h))
seam (suc n) (suc limit) (x ∷ xs) h =
    let less : limit ≤ n = omega (arith, h) in
    let same : n - length (take limit xs) ≡ suc n - suc (length (take limit xs)) = omega arith in
    ap (λ (l : Rows). x ∷ l) (seam n limit xs less) ∙ ap (λ k. x ∷ (take limit xs ++ take k (drop (length (take limit xs)) xs))) same

-- a page that was read in the place of one that was used up, of the rows from a number on up to another
module _ (table old page : Rows) (at from rows limit : ℕ) (used : length old ≤ at) (is : page ≡ take limit (drop from table)) where
  abbrev rest : Rows
  rest = take (rows - (from + length page)) (drop (from + length page) table)

  pub page_read : limit ≤ rows - from → page ++ rest ≡ drop at old ++ take (rows - from) (drop from table)
  page_read h =
      let behind : rows - (from + length page) ≡ (rows - from) - length page = omega arith in
      ap (λ n. page ++ take n (drop (from + length page) table)) behind
      ∙ (ap (λ (l : Rows). page ++ take ((rows - from) - length page) l) (sym (drop-drop (length page) from table))
      ∙ (ap (λ (p : Rows). p ++ take ((rows - from) - length p) (drop (length p) (drop from table))) is
      ∙ (sym (seam (rows - from) limit (drop from table) h)
      ∙ ap (λ (l : Rows). l ++ take (rows - from) (drop from table)) (sym (drop_all at old used)))))
