-- What is found in rows with one page more.
use Rattle.tile_streaming.proofs.Common.{ap, AreFindings, bad_tile, Bool, Cell, cell_at, Content, content_from, Err, false, Findings, first_refused, has_tile_kinds, HashAlgorithm, is_id, list_all, list_all-append, List, map, MbtError, MbtType, missing_reference, None, Ok, OnOk, Option, option_or, reference_missing}
use Rattle.tile_streaming.proofs.Common.{refl, Result, Some, sym, tile_bad, true, wrong_content_hash, wrong_id, wrong_tile_hash, [], ◌&&◌, ◌++◌, ◌∙◌, ◌∷◌, ◌≡◌}
use Rattle.mb_tables.specs.declared.kind.MbtType.TheVariants.{Normalized}
use Rattle.mb_tables.specs.declared.kind.NormalizedSchema.TheVariants.{Hash}

or_more : (a b c : Option MbtError) → option_or a (option_or b c) ≡ option_or (option_or a b) c
or_more (Some e) b c = refl
or_more None b c = refl

and_more : (a b c : Bool) → ((a && b) && c) ≡ (a && (b && c))
and_more true b c = refl
and_more false b c = refl

-- the first refusal of two lists, one after the other
pub refused_more : {A : Type 0} (test : A → Option MbtError) (xs ys : List A) → first_refused test (xs ++ ys) ≡ option_or (first_refused test xs) (first_refused test ys)
refused_more test [] ys = refl
refused_more test (x ∷ xs) ys = ap (option_or (test x)) (refused_more test xs ys) ∙ or_more (test x) (first_refused test xs) (first_refused test ys)

-- one page of rows of tiles more
pub findings_more : (layout : MbtType) (a : HashAlgorithm) (contents rows page : List (List Cell)) (old new : Findings)
    → new.kinds ≡ (old.kinds && list_all (has_tile_kinds layout) page)
    → new.bad ≡ option_or old.bad (tile_bad layout contents page)
    → new.missing ≡ option_or old.missing (reference_missing layout contents page)
    → new.hash ≡ option_or old.hash (first_refused (wrong_tile_hash layout a) page)
    → AreFindings layout a contents rows old → AreFindings layout a contents (rows ++ page) new
findings_more layout a contents rows page old new k b m h are =
    let ids = list_all (λ row. is_id layout (cell_at 0 row)) contents in
    let wrong = first_refused (wrong_content_hash layout a) contents in
    record {
      kinds = k ∙ (ap (λ x. x && list_all (has_tile_kinds layout) page) are.kinds ∙ (and_more ids (list_all (has_tile_kinds layout) rows) (list_all (has_tile_kinds layout) page) ∙ ap (λ x. ids && x) (sym (list_all-append (has_tile_kinds layout) rows page))));
      bad = b ∙ (ap (λ o. option_or o (tile_bad layout contents page)) are.bad ∙ sym (refused_more (bad_tile layout contents) rows page));
      missing = m ∙ (ap (λ o. option_or o (reference_missing layout contents page)) are.missing ∙ sym (refused_more (missing_reference layout contents) rows page));
      hash = h ∙ (ap (λ o. option_or o (first_refused (wrong_tile_hash layout a) page)) are.hash ∙ (sym (or_more wrong (first_refused (wrong_tile_hash layout a) rows) (first_refused (wrong_tile_hash layout a) page)) ∙ ap (option_or wrong) (sym (refused_more (wrong_tile_hash layout a) rows page))));
    }

-- the tests of contents are those of their rows
ids_listed : (layout : MbtType) (page : List (List Cell)) → list_all (λ (c : Content). is_id layout c.id) (map content_from page) ≡ list_all (λ row. is_id layout (cell_at 0 row)) page
ids_listed layout [] = refl
ids_listed layout (r ∷ rs) = ap (λ b. is_id layout (cell_at 0 r) && b) (ids_listed layout rs)

one_wrong : (layout : MbtType) (a : HashAlgorithm) (row : List Cell) → wrong_id layout a (content_from row) ≡ wrong_content_hash layout a row
one_wrong (Normalized view Hash) a row = refl
one_wrong _ a row = refl

ids_wrong : (layout : MbtType) (a : HashAlgorithm) (page : List (List Cell)) → first_refused (wrong_id layout a) (map content_from page) ≡ first_refused (wrong_content_hash layout a) page
ids_wrong layout a [] = refl
ids_wrong layout a (r ∷ rs) = ap (λ o. option_or o (first_refused (wrong_id layout a) (map content_from rs))) (one_wrong layout a r) ∙ ap (option_or (wrong_content_hash layout a r)) (ids_wrong layout a rs)

-- before any row of a tile
kinds_before : (a b : Bool) → ((a && true) && b) ≡ ((a && b) && true)
kinds_before true true = refl
kinds_before true false = refl
kinds_before false b = refl

hash_before : (a b : Option MbtError) → option_or (option_or a None) b ≡ option_or (option_or a b) None
hash_before (Some e) b = refl
hash_before None (Some e) = refl
hash_before None None = refl

-- one page of contents more
pub contents_more : (layout : MbtType) (a : HashAlgorithm) (contents page : List (List Cell)) (items : List Content) (old new : Findings)
    → items ≡ map content_from page
    → new.kinds ≡ (old.kinds && list_all (λ (c : Content). is_id layout c.id) items)
    → new.bad ≡ old.bad
    → new.missing ≡ old.missing
    → new.hash ≡ option_or old.hash (first_refused (wrong_id layout a) items)
    → AreFindings layout a contents [] old → AreFindings layout a (contents ++ page) [] new
contents_more layout a contents page items old new is k b m h are =
    let ids : list_all (λ (c : Content). is_id layout c.id) items ≡ list_all (λ row. is_id layout (cell_at 0 row)) page = ap (list_all (λ (c : Content). is_id layout c.id)) is ∙ ids_listed layout page in
    let wrong : first_refused (wrong_id layout a) items ≡ first_refused (wrong_content_hash layout a) page = ap (first_refused (wrong_id layout a)) is ∙ ids_wrong layout a page in
    record {
      kinds = k ∙ (ap (λ x. x && list_all (λ (c : Content). is_id layout c.id) items) are.kinds ∙ (ap (λ x. (list_all (λ row. is_id layout (cell_at 0 row)) contents && true) && x) ids ∙ (kinds_before (list_all (λ row. is_id layout (cell_at 0 row)) contents) (list_all (λ row. is_id layout (cell_at 0 row)) page) ∙ ap (λ x. x && true) (sym (list_all-append (λ row. is_id layout (cell_at 0 row)) contents page)))));
      bad = b ∙ are.bad;
      missing = m ∙ are.missing;
      hash = h ∙ (ap (λ o. option_or o (first_refused (wrong_id layout a) items)) are.hash ∙ (ap (option_or (option_or (first_refused (wrong_content_hash layout a) contents) None)) wrong ∙ (hash_before (first_refused (wrong_content_hash layout a) contents) (first_refused (wrong_content_hash layout a) page) ∙ ap (λ o. option_or o None) (sym (refused_more (wrong_content_hash layout a) contents page)))));
    }

pub ok_then : {A E P Q : Type 0} (r : Result A E) → (P → Q) → OnOk r P → OnOk r Q
ok_then (Ok x) f h = f h
ok_then (Err e) f h = tt

pub ok_both : {A E P Q R : Type 0} (r : Result A E) → (P → Q → R) → OnOk r P → OnOk r Q → OnOk r R
ok_both (Ok x) f h k = f h k
ok_both (Err e) f h k = tt
