-- Paths, one after another: the first format, and how many are those of tiles.
use Rattle.mb_tree.proofs.Common.{ap, arith, cons_option, false, false≢true, filter_map, get_or, is_some, length, length-append, List, None, Option, refl, Some, sym, take, take_more, tile_path}
use Rattle.mb_tree.proofs.Common.{TilePath, true, ℕ, [], ◌++◌, ◌+◌, ◌<◌, ◌∙◌, ◌∷◌, ◌≡◌}

-- one more path
cons_join : (o : Option TilePath) (ts us : List TilePath) → cons_option o (ts ++ us) ≡ cons_option o ts ++ us
cons_join (Some t) ts us = refl
cons_join None ts us = refl

paths_join : (ps qs : List (List ℕ)) → filter_map tile_path (ps ++ qs) ≡ filter_map tile_path ps ++ filter_map tile_path qs
paths_join [] qs = refl
paths_join (p ∷ ps) qs = ap (cons_option (tile_path p)) (paths_join ps qs) ∙ cons_join (tile_path p) (filter_map tile_path ps) (filter_map tile_path qs)

taken_more : (paths : List (List ℕ)) (i : ℕ) (path : List ℕ) → i < length paths → path ≡ get_or paths i path → length (filter_map tile_path (take (i + 1) paths)) ≡ length (filter_map tile_path (take i paths)) + length (cons_option (tile_path path) [])
taken_more paths i path lt at =
    ap (λ ps. length (filter_map tile_path ps)) (take_more paths i path lt ∙ ap (λ p. take i paths ++ p ∷ []) (sym at))
    ∙ (ap length (paths_join (take i paths) (path ∷ []))
    ∙ length-append (filter_map tile_path (take i paths)) (cons_option (tile_path path) []))

pub one_counted : (paths : List (List ℕ)) (i count : ℕ) (path : List ℕ) (t : TilePath) → i < length paths → path ≡ get_or paths i path → count ≡ length (filter_map tile_path (take i paths)) → tile_path path ≡ Some t → count + 1 ≡ length (filter_map tile_path (take (i + 1) paths))
one_counted paths i count path t lt at so is =
    let more = taken_more paths i path lt at in
    let one : length (cons_option (tile_path path) []) ≡ 1 = ap (λ o. length (cons_option o [])) is in
    omega (arith, more, one, so)

pub none_counted : (paths : List (List ℕ)) (i count : ℕ) (path : List ℕ) → i < length paths → path ≡ get_or paths i path → count ≡ length (filter_map tile_path (take i paths)) → tile_path path ≡ None → count ≡ length (filter_map tile_path (take (i + 1) paths))
none_counted paths i count path lt at so is =
    let more = taken_more paths i path lt at in
    let none : length (cons_option (tile_path path) []) ≡ 0 = ap (λ o. length (cons_option o [])) is in
    omega (arith, more, none, so)

pub some_counted : (paths : List (List ℕ)) (i count : ℕ) (path : List ℕ) → i < length paths → path ≡ get_or paths i path → count ≡ length (filter_map tile_path (take i paths)) → is_some (tile_path path) ≡ true → count + 1 ≡ length (filter_map tile_path (take (i + 1) paths))
some_counted paths i count path lt at so h = by (tile_path path) refl h
  where
    by : (o : Option TilePath) → tile_path path ≡ o → is_some o ≡ true → count + 1 ≡ length (filter_map tile_path (take (i + 1) paths))
    by (Some t) e k = one_counted paths i count path t lt at so e
    by None e k = absurd (false≢true k)

pub not_counted : (paths : List (List ℕ)) (i count : ℕ) (path : List ℕ) → i < length paths → path ≡ get_or paths i path → count ≡ length (filter_map tile_path (take i paths)) → is_some (tile_path path) ≡ false → count ≡ length (filter_map tile_path (take (i + 1) paths))
not_counted paths i count path lt at so h = by (tile_path path) refl h
  where
    by : (o : Option TilePath) → tile_path path ≡ o → is_some o ≡ false → count ≡ length (filter_map tile_path (take (i + 1) paths))
    by None e k = none_counted paths i count path lt at so e
    by (Some t) e k = absurd (false≢true (sym k))
