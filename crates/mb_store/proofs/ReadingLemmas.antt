-- Rows that are read one after another.
use Rattle.mb_store.proofs.Common.{ap, append-nil, append_assoc, arith, Cell, drop, List, rows_of, Stored, suc, sym, take, take-nil, ℕ, [], ◌++◌, ◌-◌, ◌<◌, ◌∙◌, ◌∷◌, ◌≡◌}

-- one more row of a page
pub page_next : (page : List (List Cell)) (left : ℕ) (row : List Cell) (old rest all : List (List Cell)) → 0 < left → old ≡ row ∷ rest → page ++ take left old ≡ all → (page ++ row ∷ []) ++ take (left - 1) rest ≡ all
page_next page left row old rest all some front now =
    let next : left ≡ suc (left - 1) = omega arith in
    append_assoc page (row ∷ []) (take (left - 1) rest)
    ∙ (ap (λ xs. page ++ xs) (sym (ap (take left) front ∙ ap (λ n. take n (row ∷ rest)) next)) ∙ now)

-- no row is wanted any more, or none is there
pub none_wanted : (left : ℕ) (rest : List Stored) → left ≡ 0 → take left (rows_of rest) ≡ []
none_wanted left rest none = ap (λ n. take n (rows_of rest)) none

pub none_there : (left : ℕ) (rest : List Stored) → rest ≡ [] → take left (rows_of rest) ≡ []
none_there left rest none = ap (λ keys. take left (rows_of keys)) none ∙ take-nil left

-- what stays behind the rows that are wanted
pub rest_next : (left : ℕ) (row : Stored) (old rest behind : List Stored) → 0 < left → old ≡ row ∷ rest → drop left old ≡ behind → drop (left - 1) rest ≡ behind
rest_next left row old rest behind some front now =
    let next : left ≡ suc (left - 1) = omega arith in
    sym (ap (drop left) front ∙ ap (λ n. drop n (row ∷ rest)) next) ∙ now

-- a page to which no row comes any more
pub page_whole : (page : List (List Cell)) (left : ℕ) (rest all : List (List Cell)) → take left rest ≡ [] → page ++ take left rest ≡ all → page ≡ all
page_whole page left rest all none now = sym (append-nil page) ∙ (ap (λ xs. page ++ xs) (sym none) ∙ now)
