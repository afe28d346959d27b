-- Pages of a list, one after the other.
use Rattle.mb_cache.proofs.Common.{ap, arith, Bool, Cache, Cell, drop, drop-take, false, has_tile_kinds, InvalidDataFormat, length, length-drop, length-take, List, list_all, list_all-append, MbtError}
use Rattle.mb_cache.proofs.Common.{min, refl, SeenRows, SeesRows, Some, subst, sym, take, take-append-drop, take-take, tile_kind_wrong, true, unless, ℕ, ◌&&◌, ◌++◌, ◌+◌, ◌-◌, ◌∙◌, ◌≡◌, ◌≤◌}

pub take_more : {X : Type 0} (n m : ℕ) (xs : List X) → take n xs ++ take m (drop n xs) ≡ take (n + m) xs
take_more n m xs =
    let front : take n (take (n + m) xs) ≡ take n xs = take-take n (n + m) xs (omega arith) in
    ap (λ l. l ++ take m (drop n xs)) (sym front) ∙ (ap (λ l. take n (take (n + m) xs) ++ l) (sym (drop-take n m xs)) ∙ take-append-drop n (take (n + m) xs))

-- a page of as many rows as were asked for, and the rows with it
pub whole_page : (rows page : List (List Cell)) (seen : SeenRows) (count left asked read rest : ℕ) → count ≡ length rows → left ≤ count → asked ≤ left → page ≡ take asked (drop (count - left) rows) → read ≡ length page → (asked ≤ read → rest ≡ left - asked) → SeesRows (take (count - left) rows ++ page) seen → SeesRows (take (count - rest) rows) seen
whole_page rows page seen count left asked read rest all within fits is has next sees =
    let full : length page ≡ min asked (length rows - (count - left)) = ap length is ∙ (length-take asked (drop (count - left) rows) ∙ ap (min asked) (length-drop (count - left) rows)) in
    let enough : asked ≤ read = omega (arith, full, has, all, within, fits) in
    let far : count - left + asked ≡ count - rest = omega (arith, within, fits, next enough) in
    subst (λ l. SeesRows l seen) (ap (λ l. take (count - left) rows ++ l) is ∙ (take_more (count - left) asked rows ∙ ap (λ n. take n rows) far)) sees

-- a cell of a page that isn't of its kind is one of all rows
pub page_wrong : (n m : ℕ) (rows page : List (List Cell)) (e : MbtError) → page ≡ take m (drop n rows) → tile_kind_wrong Cache page ≡ Some e → tile_kind_wrong Cache rows ≡ Some e
page_wrong n m rows page e is wrong =
    by (list_all (has_tile_kinds Cache) page) refl wrong
  where
    p : List Cell → Bool
    p = has_tile_kinds Cache

    split : list_all p rows ≡ (list_all p (take n rows) && (list_all p page && list_all p (drop m (drop n rows))))
    split =
        ap (list_all p) (sym (take-append-drop n rows)) ∙ (list_all-append p (take n rows) (drop n rows)
        ∙ ap (λ b. list_all p (take n rows) && b) (ap (list_all p) (sym (take-append-drop m (drop n rows))) ∙ (list_all-append p (take m (drop n rows)) (drop m (drop n rows)) ∙ ap (λ l. list_all p l && list_all p (drop m (drop n rows))) (sym is))))

    none : (a b : Bool) → (a && (false && b)) ≡ false
    none true b = refl
    none false b = refl

    by : (b : Bool) → list_all p page ≡ b → unless b InvalidDataFormat ≡ Some e → tile_kind_wrong Cache rows ≡ Some e
    by true f h = cc
    by false f h = ap (λ b. unless b InvalidDataFormat) (split ∙ (ap (λ b. list_all p (take n rows) && (b && list_all p (drop m (drop n rows)))) f ∙ none (list_all p (take n rows)) (list_all p (drop m (drop n rows))))) ∙ h
