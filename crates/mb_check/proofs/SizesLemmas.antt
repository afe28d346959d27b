-- Sizes of tiles, one after another, and what they tell of a zoom.
use Rattle.mb_check.proofs.Common.{add-one, ap, arith, below, blob_cell, Bool, bytes_of, capped, Cell, cond, cons_option, drop, drop_all, entries, false, filter_map, fold, get_or, greatest}
use Rattle.mb_check.proofs.Common.{greatest_with, IfSome, info_by, info_of, known, least, least_with, len, len-entries, length, List, map, max, min, no_sizes, None, Option, option_map, Place}
use Rattle.mb_check.proofs.Common.{place_at, refl, size_at, sizes_at, slice_get, Some, subst, suc, sum, sum_by, sym, take, take_all, take_more, TileSet, true, unwrap_or, with_size, with_sizes}
use Rattle.mb_check.proofs.Common.{with_tile, zero, zoom_infos, ZoomInfo, ℕ, [], ◌++◌, ◌+◌, ◌-◌, ◌<◌, ◌==◌, ◌^◌, ◌∙◌, ◌∷◌, ◌≡◌, ◌≤◌}
use Rattle.std.proofs.Math.Seq.{drop-cons}
use Rattle.std.proofs.lemmas.Bool.{eqb-true}
use Rattle.std.proofs.lemmas.List.Elements.{filter_map-append}
use Rattle.std.proofs.lemmas.List.Sums.{sum_by-cons, sum_by_push}
use Rattle.std.proofs.lemmas.Option.{get_or_from_slice_get, none-some, slice_get-get_or, slice_get_within}
use Rattle.mb_check.specs.declared.sizes.Sizes.{Sizes}
use Rattle.tile_ids.specs.Coord.{Coord}

abbrev pub Entry : Type 0
Entry = Place × Option (List ℕ)

pub drop_at : {X : Type 0} (xs : List X) (i : ℕ) (x : X) → slice_get xs i ≡ Some x → drop i xs ≡ x ∷ drop (i + 1) xs
drop_at xs i x at =
    let within : i < length xs = slice_get_within xs i x at in
    let here : get_or xs i x ≡ x = get_or_from_slice_get xs i x x at in
    drop-cons xs i x within ∙ (ap (λ y. y ∷ drop (suc i) xs) here ∙ ap (λ n. x ∷ drop n xs) (sym (add-one i)))

-- one more tile of a zoom, or of another
with_cons : (s : Sizes) (q : ℕ) (e : Entry) (es : List Entry) → with_sizes s (sizes_at q (e ∷ es)) ≡ with_sizes (with_tile s (size_at q e)) (sizes_at q es)
with_cons s q e es = by (size_at q e)
  where
    by : (o : Option (Option ℕ)) → with_sizes s (cons_option o (sizes_at q es)) ≡ with_sizes (with_tile s o) (sizes_at q es)
    by None = refl
    by (Some x) = refl

-- the sizes of each zoom, with those of the tiles that are left, are those with all tiles
pub record AreTaken (first sizes : List Sizes) (es : List Entry) (i : ℕ) : Type 0 where
  pub taken : (q : ℕ) → q < 32 → with_sizes (get_or sizes q no_sizes) (sizes_at q (drop i es)) ≡ with_sizes (get_or first q no_sizes) (sizes_at q es)

pub one_taken : (first old new : List Sizes) (es : List Entry) (i : ℕ) → i < length es → IfSome (slice_get es i) (λ e. (q : ℕ) → q < 32 → get_or new q no_sizes ≡ with_tile (get_or old q no_sizes) (size_at q e)) → AreTaken first old es i → AreTaken first new es (i + 1)
one_taken first old new es i within step a = record { taken = λ q lt. by (slice_get es i) refl step q lt }
  where
    by : (o : Option Entry) → slice_get es i ≡ o → IfSome o (λ e. (q : ℕ) → q < 32 → get_or new q no_sizes ≡ with_tile (get_or old q no_sizes) (size_at q e)) → (q : ℕ) → q < 32 → with_sizes (get_or new q no_sizes) (sizes_at q (drop (i + 1) es)) ≡ with_sizes (get_or first q no_sizes) (sizes_at q es)
    by None at s q lt = absurd (none-some _ (sym at ∙ slice_get-get_or es i (record { zoom = 0; column = 0; row = 0 }, None) within))
    by (Some e) at s q lt =
        ap (λ x. with_sizes x (sizes_at q (drop (i + 1) es))) (s q lt)
        ∙ (sym (with_cons (get_or old q no_sizes) q e (drop (i + 1) es))
        ∙ (ap (λ xs. with_sizes (get_or old q no_sizes) (sizes_at q xs)) (sym (drop_at es i e at))
        ∙ a.taken q lt))

pub all_taken : (first sizes : List Sizes) (es : List Entry) (i : ℕ) → length es ≤ i → AreTaken first sizes es i → (q : ℕ) → q < 32 → get_or sizes q no_sizes ≡ with_sizes (get_or first q no_sizes) (sizes_at q es)
all_taken first sizes es i end a q lt = sym (ap (λ xs. with_sizes (get_or sizes q no_sizes) (sizes_at q xs)) (drop_all i es end)) ∙ a.taken q lt

-- counts and sums that stop
more_capped : (a b n : ℕ) → capped (capped (a + b) + n) ≡ capped (a + (b + n))
more_capped a b n = omega arith

counts : (s : Sizes) (xs : List (Option ℕ)) → s.tile_count ≤ 2 ^ 64 - 1 → (with_sizes s xs).tile_count ≡ capped (s.tile_count + length xs)
counts s [] h = omega arith
counts s (None ∷ xs) h = counts (with_size s None) xs (omega arith) ∙ omega arith
counts s (Some n ∷ xs) h = counts (with_size s (Some n)) xs (omega arith) ∙ omega arith

totals : (s : Sizes) (xs : List (Option ℕ)) → s.total ≤ 2 ^ 64 - 1 → (with_sizes s xs).total ≡ capped (s.total + sum (known xs))
totals s [] h = omega arith
totals s (None ∷ xs) h = totals (with_size s None) xs h
totals s (Some n ∷ xs) h = totals (with_size s (Some n)) xs (omega arith) ∙ (more_capped s.total n (sum (known xs)) ∙ ap (λ t. capped (s.total + t)) (sym (sum_by-cons (λ x. x) n (known xs))))

-- the least and the greatest, one after another
pub least_all : Option ℕ → List ℕ → Option ℕ
least_all o [] = o
least_all o (n ∷ ns) = least_all (least_with o n) ns

least_some : (m : ℕ) (ns : List ℕ) → least_all (Some m) ns ≡ Some (fold min m ns)
unfolding least_all
least_some m [] = refl
least_some m (n ∷ ns) = least_some (min m n) ns

pub least_none : (ns : List ℕ) → least_all None ns ≡ least ns
unfolding least_all
least_none [] = refl
least_none (n ∷ ns) = least_some n ns

pub greatest_all : Option ℕ → List ℕ → Option ℕ
greatest_all o [] = o
greatest_all o (n ∷ ns) = greatest_all (greatest_with o n) ns

greatest_some : (m : ℕ) (ns : List ℕ) → greatest_all (Some m) ns ≡ Some (fold max m ns)
unfolding greatest_all
greatest_some m [] = refl
greatest_some m (n ∷ ns) = greatest_some (max m n) ns

pub greatest_none : (ns : List ℕ) → greatest_all None ns ≡ greatest ns
unfolding greatest_all
greatest_none [] = refl
greatest_none (n ∷ ns) = greatest_some n ns

pub least_step : {X : Type 0} (f : X → ℕ) (o : Option ℕ) (xs : List X) (i : ℕ) (d : X) → i < length xs → least_all (least_with o (f (get_or xs i d))) (map f (drop (i + 1) xs)) ≡ least_all o (map f (drop i xs))
unfolding least_all
least_step f o xs i d within = ap (λ ys. least_all o (map f ys)) (sym (drop-cons xs i d within ∙ ap (λ n. get_or xs i d ∷ drop n xs) (sym (add-one i))))

pub greatest_step : {X : Type 0} (f : X → ℕ) (o : Option ℕ) (xs : List X) (i : ℕ) (d : X) → i < length xs → greatest_all (greatest_with o (f (get_or xs i d))) (map f (drop (i + 1) xs)) ≡ greatest_all o (map f (drop i xs))
unfolding greatest_all
greatest_step f o xs i d within = ap (λ ys. greatest_all o (map f ys)) (sym (drop-cons xs i d within ∙ ap (λ n. get_or xs i d ∷ drop n xs) (sym (add-one i))))

pub least_end : {X : Type 0} (f : X → ℕ) (o : Option ℕ) (xs : List X) (i : ℕ) → length xs ≤ i → least_all o (map f (drop i xs)) ≡ least_all None (map f xs) → o ≡ least (map f xs)
unfolding least_all
least_end f o xs i end same = sym (ap (λ ys. least_all o (map f ys)) (drop_all i xs end)) ∙ (same ∙ least_none (map f xs))

pub greatest_end : {X : Type 0} (f : X → ℕ) (o : Option ℕ) (xs : List X) (i : ℕ) → length xs ≤ i → greatest_all o (map f (drop i xs)) ≡ greatest_all None (map f xs) → o ≡ greatest (map f xs)
unfolding greatest_all
greatest_end f o xs i end same = sym (ap (λ ys. greatest_all o (map f ys)) (drop_all i xs end)) ∙ (same ∙ greatest_none (map f xs))

leasts : (s : Sizes) (xs : List (Option ℕ)) → (with_sizes s xs).least ≡ least_all s.least (known xs)
unfolding least_all
leasts s [] = refl
leasts s (None ∷ xs) = leasts (with_size s None) xs
leasts s (Some n ∷ xs) = leasts (with_size s (Some n)) xs

greatests : (s : Sizes) (xs : List (Option ℕ)) → (with_sizes s xs).greatest ≡ greatest_all s.greatest (known xs)
unfolding greatest_all
greatests s [] = refl
greatests s (None ∷ xs) = greatests (with_size s None) xs
greatests s (Some n ∷ xs) = greatests (with_size s (Some n)) xs

-- what sizes tell of a zoom
abbrev told : ℕ → ℕ → Option ℕ → Option ℕ → ℕ → ZoomInfo
told zoom count low high total = record { zoom = zoom; tile_count = count; min_tile_size = unwrap_or low 0; max_tile_size = unwrap_or high 0; total_size = total }

info_same : (zoom : ℕ) (xs : List (Option ℕ)) → length xs < 2 ^ 64 → info_by zoom (with_sizes no_sizes xs) ≡ info_of zoom xs
info_same zoom [] h = refl
info_same zoom (x ∷ xs) h =
    ap (λ n. cond (n == 0) None (Some (told zoom n (with_sizes no_sizes (x ∷ xs)).least (with_sizes no_sizes (x ∷ xs)).greatest (with_sizes no_sizes (x ∷ xs)).total))) count
    ∙ (ap (λ o. cond (length (x ∷ xs) == 0) None (Some (told zoom (length (x ∷ xs)) o (with_sizes no_sizes (x ∷ xs)).greatest (with_sizes no_sizes (x ∷ xs)).total))) (leasts no_sizes (x ∷ xs) ∙ least_none (known (x ∷ xs)))
    ∙ (ap (λ o. cond (length (x ∷ xs) == 0) None (Some (told zoom (length (x ∷ xs)) (least (known (x ∷ xs))) o (with_sizes no_sizes (x ∷ xs)).total))) (greatests no_sizes (x ∷ xs) ∙ greatest_none (known (x ∷ xs)))
    ∙ (ap (λ t. cond (length (x ∷ xs) == 0) None (Some (told zoom (length (x ∷ xs)) (least (known (x ∷ xs))) (greatest (known (x ∷ xs))) t))) total
    ∙ there (length (x ∷ xs) == 0) refl)))
  where
    count : (with_sizes no_sizes (x ∷ xs)).tile_count ≡ length (x ∷ xs)
    count = counts no_sizes (x ∷ xs) (omega arith) ∙ omega arith

    total : (with_sizes no_sizes (x ∷ xs)).total ≡ capped (sum (known (x ∷ xs)))
    total = totals no_sizes (x ∷ xs) (omega arith) ∙ omega arith

    there : (b : Bool) → (length (x ∷ xs) == 0) ≡ b → cond b None (Some (told zoom (length (x ∷ xs)) (least (known (x ∷ xs))) (greatest (known (x ∷ xs))) (capped (sum (known (x ∷ xs)))))) ≡ info_of zoom (x ∷ xs)
    there false e = refl
    there true e = let none : length (x ∷ xs) ≡ 0 = eqb-true (length (x ∷ xs)) 0 e in absurd (omega arith)

few : (q : ℕ) (es : List Entry) → length (sizes_at q es) ≤ length es
few q [] = omega arith
few q (e ∷ es) = by (size_at q e) (few q es)
  where
    by : (o : Option (Option ℕ)) → length (sizes_at q es) ≤ length es → length (cons_option o (sizes_at q es)) ≤ length (e ∷ es)
    by None h = omega arith
    by (Some x) h = omega arith

-- what is told of the zooms below a number
pub infos_same : (es : List Entry) (sizes : List Sizes) → length es < 2 ^ 64 → ((q : ℕ) → q < 32 → get_or sizes q no_sizes ≡ with_sizes no_sizes (sizes_at q es)) → (n : ℕ) → n ≤ 32 → filter_map (λ zoom. info_by zoom (get_or sizes zoom no_sizes)) (below n) ≡ filter_map (λ zoom. info_of zoom (sizes_at zoom es)) (below n)
unfolding below
infos_same es sizes h same zero le = refl
infos_same es sizes h same (suc n) le =
    filter_map-append by_sizes (below n) (n ∷ [])
    ∙ (ap (λ l. l ++ filter_map by_sizes (n ∷ [])) (infos_same es sizes h same n (omega arith))
    ∙ (ap (λ o. filter_map by_tiles (below n) ++ cons_option o []) one
    ∙ sym (filter_map-append by_tiles (below n) (n ∷ []))))
  where
    by_sizes : ℕ → Option ZoomInfo
    by_sizes zoom = info_by zoom (get_or sizes zoom no_sizes)

    by_tiles : ℕ → Option ZoomInfo
    by_tiles zoom = info_of zoom (sizes_at zoom es)

    one : info_by n (get_or sizes n no_sizes) ≡ info_of n (sizes_at n es)
    one = ap (info_by n) (same n (omega arith)) ∙ info_same n (sizes_at n es) (let l = few n es in omega (arith, l))

-- one more zoom is looked at
pub one_info : (f : ℕ → Option ZoomInfo) (n : ℕ) (infos : List ZoomInfo) (o : Option ZoomInfo) → f n ≡ o → infos ≡ filter_map f (below n) → infos ++ cons_option o [] ≡ filter_map f (below (n + 1))
unfolding below
one_info f n infos o at so = ap (λ l. l ++ cons_option o []) so ∙ (ap (λ p. filter_map f (below n) ++ cons_option p []) (sym at) ∙ (sym (filter_map-append f (below n) (n ∷ [])) ∙ ap (λ k. filter_map f (below k)) (sym (add-one n))))

-- the bytes of all tiles, with those of one more
pub total_more : (es : List Entry) (i total next size : ℕ) (given : Option ℕ) (coord : Coord) (cell : Cell) → i < length es → IfSome (slice_get es i) (λ e. (e.0 ≡ place_at coord) × (blob_cell e.1 ≡ cell)) → ((contents : Option (List ℕ)) → blob_cell contents ≡ cell → given ≡ option_map length contents) → size ≡ unwrap_or given 0 → next ≡ capped (total + size) → total ≡ capped (sum_by (λ e. length (bytes_of e.1)) (take i es)) → next ≡ capped (sum_by (λ e. length (bytes_of e.1)) (take (i + 1) es))
total_more es i total next size given coord cell within at sized sizes nexts before = by (slice_get es i) refl at
  where
    f : Entry → ℕ
    f e = length (bytes_of e.1)

    bytes : (o : Option (List ℕ)) → unwrap_or (option_map length o) 0 ≡ length (bytes_of o)
    bytes None = refl
    bytes (Some b) = refl

    by : (o : Option Entry) → slice_get es i ≡ o → IfSome o (λ e. (e.0 ≡ place_at coord) × (blob_cell e.1 ≡ cell)) → next ≡ capped (sum_by (λ e. length (bytes_of e.1)) (take (i + 1) es))
    by None at h = absurd (none-some _ (sym at ∙ slice_get-get_or es i (record { zoom = 0; column = 0; row = 0 }, None) within))
    by (Some e) at h =
        let here : get_or es i e ≡ e = get_or_from_slice_get es i e e at in
        let more : sum_by (λ e. length (bytes_of e.1)) (take (i + 1) es) ≡ sum_by (λ e. length (bytes_of e.1)) (take i es) + length (bytes_of e.1) = ap (sum_by (λ e. length (bytes_of e.1))) (take_more es i e within ∙ ap (λ x. take i es ++ x ∷ []) here) ∙ sum_by_push (λ e. length (bytes_of e.1)) (take i es) e in
        let is : size ≡ length (bytes_of e.1) = sizes ∙ (ap (λ o. unwrap_or o 0) (sized e.1 h.1) ∙ bytes e.1) in
        omega (arith, more, is, nexts, before)

pub total_end : (es : List Entry) (i total : ℕ) → length es ≤ i → total ≡ capped (sum_by (λ e. length (bytes_of e.1)) (take i es)) → total ≡ capped (sum_by (λ e. length (bytes_of e.1)) es)
total_end es i total end h = h ∙ ap (λ xs. capped (sum_by (λ e. length (bytes_of e.1)) xs)) (take_all i es end)

-- the zooms of a set, by sizes that begin with none
pub zooms_same : (tiles : TileSet) (first sizes : List Sizes) → len tiles < 2 ^ 64 → ((q : ℕ) → q < 32 → get_or first q no_sizes ≡ no_sizes) → ((q : ℕ) → q < 32 → get_or sizes q no_sizes ≡ with_sizes (get_or first q no_sizes) (sizes_at q (entries tiles))) → filter_map (λ zoom. info_by zoom (get_or sizes zoom no_sizes)) (below 31) ≡ zoom_infos tiles
unfolding zoom_infos
zooms_same tiles first sizes bound none all = infos_same (entries tiles) sizes (subst (λ n. n < 2 ^ 64) (len-entries tiles) bound) (λ q lt. all q lt ∙ ap (λ s. with_sizes s (sizes_at q (entries tiles))) (none q lt)) 31 (omega arith)
