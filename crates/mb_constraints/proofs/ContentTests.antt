-- What the tests of contents and of their ids say of rows.
use Rattle.mb_constraints.proofs.Common.{All, All-cons, All-head, All-tail, ap, are_distinct, AreContentsInOrder, arith, Bool, Cell, cell_at, cell_cmp, Content, content_from, false, false≢true}
use Rattle.mb_constraints.proofs.Common.{filter, first_refused, Hash, hash_wrong, HashAlgorithm, id_at, ids_from, InvalidDataFormat, is_null, is_removed, Kept, length, List, list_all, map, MbtError}
use Rattle.mb_constraints.proofs.Common.{MbtType, None, Normalized, not, NoUniquenessConstraint, Option, option_or, refl, row_kept, rows_kept, Some, subst, sym, true, unless, wrong_content_hash}
use Rattle.mb_constraints.proofs.Common.{wrong_id, wrong_tile_hash, ℕ, [], ◌&&◌, ◌∙◌, ◌∷◌, ◌≡◌}
use Rattle.std.specs.List.Sorted.{IsPermutation}
use Rattle.std.proofs.lemmas.List.Sorted.{IsPermutation-sym}
use Rattle.mb_lists.specs.Contents.{are_apart, fronts, id_twice}
use Rattle.mb_tables.specs.CellKinds.{content_kind_wrong, has_tile_kinds, is_id, tile_kind_wrong}
use Rattle.mb_lists.proofs.ContentLemmas.{ids_listed}
use Rattle.mb_lists.proofs.Sorting.{apart_permuted, distinct_from_apart}
use Rattle.mb_tables.specs.CellOrder.{cells_total}

fronts_kept : (rows : List (List Cell)) → map (λ (c : Content). c.id) (map content_from rows) ≡ fronts rows
fronts_kept [] = refl
fronts_kept (r ∷ rs) = ap (λ l. cell_at 0 r ∷ l) (fronts_kept rs)

ids_kept : (layout : MbtType) (rows : List (List Cell)) → list_all (λ (c : Content). is_id layout c.id) (map content_from rows) ≡ list_all (λ row. is_id layout (cell_at 0 row)) rows
ids_kept layout [] = refl
ids_kept layout (r ∷ rs) = ap (λ b. is_id layout (cell_at 0 r) && b) (ids_kept layout rs)

abbrev ids_distinct : List Content → Bool
ids_distinct contents = are_distinct cell_cmp (map (id_at contents) (ids_from 0 contents))

distinct_as : (contents : List Content) (rows : List (List Cell)) → contents ≡ map content_from rows → ids_distinct contents ≡ are_apart (fronts rows)
distinct_as contents rows e = ap ids_distinct e ∙ (ap (are_distinct cell_cmp) (ids_listed (map content_from rows)) ∙ ap (λ l. are_distinct cell_cmp (filter (λ c. not (is_null c)) l)) (fronts_kept rows))

pub ids_refused : (contents : List Content) (rows : List (List Cell)) (rest : Option MbtError) → contents ≡ map content_from rows → ids_distinct contents ≡ false → option_or (id_twice rows) rest ≡ Some NoUniquenessConstraint
ids_refused contents rows rest e h = ap (λ b. option_or (unless b NoUniquenessConstraint) rest) (sym (distinct_as contents rows e) ∙ h)

pub ids_pass : (contents : List Content) (live : ℕ) (order : List ℕ) (rows : List (List Cell)) → contents ≡ map content_from rows → AreContentsInOrder contents live order → IsPermutation (ids_from 0 contents) order → id_twice rows ≡ None
ids_pass contents live order rows e o p =
    ap (λ b. unless b NoUniquenessConstraint) (sym (distinct_as contents rows e) ∙ distinct_from_apart cells_total (id_at contents) (ids_from 0 contents) (apart_permuted cells_total (id_at contents) order (ids_from 0 contents) (IsPermutation-sym (ids_from 0 contents) order p) o.apart))

pub kinds_pass : (layout : MbtType) (contents : List Content) (ids rows : List (List Cell)) → contents ≡ map content_from ids → id_twice ids ≡ None → (list_all (has_tile_kinds layout) rows && list_all (λ (c : Content). is_id layout c.id) contents) ≡ true → option_or (id_twice ids) (option_or (tile_kind_wrong layout rows) (content_kind_wrong layout ids)) ≡ None
kinds_pass layout contents ids rows e t h = ap (λ o. option_or o (option_or (tile_kind_wrong layout rows) (content_kind_wrong layout ids))) t ∙ go (list_all (has_tile_kinds layout) rows) (list_all (λ row. is_id layout (cell_at 0 row)) ids) (ap (λ b. list_all (has_tile_kinds layout) rows && b) (sym (ap (list_all (λ (c : Content). is_id layout c.id)) e ∙ ids_kept layout ids)) ∙ h)
  where
    go : (a b : Bool) → (a && b) ≡ true → option_or (unless a InvalidDataFormat) (unless b InvalidDataFormat) ≡ None
    go true true h = refl
    go _ _ h = absurd (false≢true h)

pub kinds_refused : (layout : MbtType) (contents : List Content) (ids rows : List (List Cell)) → contents ≡ map content_from ids → id_twice ids ≡ None → (list_all (has_tile_kinds layout) rows && list_all (λ (c : Content). is_id layout c.id) contents) ≡ false → option_or (id_twice ids) (option_or (tile_kind_wrong layout rows) (content_kind_wrong layout ids)) ≡ Some InvalidDataFormat
kinds_refused layout contents ids rows e t h = ap (λ o. option_or o (option_or (tile_kind_wrong layout rows) (content_kind_wrong layout ids))) t ∙ go (list_all (has_tile_kinds layout) rows) (list_all (λ row. is_id layout (cell_at 0 row)) ids) (ap (λ b. list_all (has_tile_kinds layout) rows && b) (sym (ap (list_all (λ (c : Content). is_id layout c.id)) e ∙ ids_kept layout ids)) ∙ h)
  where
    go : (a b : Bool) → (a && b) ≡ false → option_or (unless a InvalidDataFormat) (unless b InvalidDataFormat) ≡ Some InvalidDataFormat
    go true true h = absurd (false≢true (sym h))
    go _ _ h = refl

-- rows of two cells are kept whole
row_back : (row : List Cell) → length row ≡ 2 → row_kept (content_from row) ≡ row
row_back (a ∷ b ∷ []) h = refl
row_back _ h = absurd (omega (arith, h))

rows_back : (rows : List (List Cell)) → All (λ row. length row ≡ 2) rows → rows_kept (map content_from rows) ≡ rows
rows_back [] h = refl
rows_back (r ∷ rs) h = ap (λ x. x ∷ rows_kept (map content_from rs)) (row_back r (All-head (λ row. length row ≡ 2) r rs h)) ∙ ap (λ l. r ∷ l) (rows_back rs (All-tail (λ row. length row ≡ 2) r rs h))

pub rows_same : (contents : List Content) (rows : List (List Cell)) → contents ≡ map content_from rows → All (λ row. length row ≡ 2) rows → rows_kept contents ≡ rows
rows_same contents rows e h = ap rows_kept e ∙ rows_back rows h

new_rows : (rows : List (List Cell)) → All (λ (c : Content). c.standing ≡ Kept) (map content_from rows)
new_rows [] = λ i d lt. absurd (omega arith)
new_rows (r ∷ rs) = All-cons (λ (c : Content). c.standing ≡ Kept) (content_from r) (map content_from rs) refl (new_rows rs)

pub all_new : (contents : List Content) (rows : List (List Cell)) → contents ≡ map content_from rows → All (λ (c : Content). c.standing ≡ Kept) contents
all_new contents rows e = subst (All (λ (c : Content). c.standing ≡ Kept)) (sym e) (new_rows rows)

pub all_present : (contents : List Content) (rows : List (List Cell)) → contents ≡ map content_from rows → All (λ (c : Content). is_removed c.standing ≡ false) contents
all_present contents rows e = λ i d lt. ap is_removed (all_new contents rows e i d lt)

-- the tests of the digests of contents are those of their rows
one_id : (layout : MbtType) (a : HashAlgorithm) (c : Content) → wrong_content_hash layout a (row_kept c) ≡ wrong_id layout a c
one_id (Normalized view Hash) a c = refl
one_id _ a c = refl

pub ids_tested : (layout : MbtType) (a : HashAlgorithm) (contents : List Content) → first_refused (wrong_content_hash layout a) (rows_kept contents) ≡ first_refused (wrong_id layout a) contents
ids_tested layout a [] = refl
ids_tested layout a (c ∷ cs) = ap (λ o. option_or o (first_refused (wrong_content_hash layout a) (rows_kept cs))) (one_id layout a c) ∙ ap (option_or (wrong_id layout a c)) (ids_tested layout a cs)

-- the tests of digests come after those of places and of references
pub last_tested : (layout : MbtType) (a : HashAlgorithm) (contents : List Content) (rows : List (List Cell)) (places references due : Option MbtError) → places ≡ None → references ≡ None → first_refused (wrong_tile_hash layout a) rows ≡ None → first_refused (wrong_id layout a) contents ≡ due → option_or places (option_or references (hash_wrong layout a (rows_kept contents) rows)) ≡ due
last_tested layout a contents rows places references due p r t h =
    ap (λ o. option_or o (option_or references (hash_wrong layout a (rows_kept contents) rows))) p
    ∙ (ap (λ o. option_or o (hash_wrong layout a (rows_kept contents) rows)) r
    ∙ (ap (λ o. option_or o (first_refused (wrong_content_hash layout a) (rows_kept contents))) t ∙ (ids_tested layout a contents ∙ h)))
