-- The tests of loading over the rows of a cache, by their parts: kinds of tile rows, metadata, places.
use Rattle.mb_cache.proofs.Common.{algorithm_of, algorithm_unknown, ap, are_distinct, AreEntries, bad_tile, Bool, BTreeSet, Cache, Cell, cell_at, cons_option, Entry, eq_by_cmp, Err, false, filter_map}
use Rattle.mb_cache.proofs.Common.{first_refused, hash_wrong, holds, IfErr, IfOk, in_has_place, InvalidTileIndex, is_eq, is_some, Less, List, list_any, map, MbtError, name_kind_wrong, name_twice}
use Rattle.mb_cache.proofs.Common.{names_refused, nat_cmp, None, none-some, not, NoUniquenessConstraint, Ok, Option, option_or, Ordering, ordering_then, Place, place_cmp, place_of, place_twice, refl}
use Rattle.mb_cache.proofs.Common.{Result, row_place, row_refusal, SeenTiles, SeesTiles, Some, spot_at, spot_cmp, spot_of, StoreFault, subst, sym, Tests, tile_bad, tile_in, tile_kind_wrong, tile_of}
use Rattle.mb_cache.proofs.Common.{tiles_refused, true, unless, ℕ, [], ◌&&◌, ◌∙◌, ◌∷◌, ◌≡◌}
use Rattle.mb_constraints.specs.References.{reference_missing}

-- a test that refuses nothing
none_refused : {A : Type 0} (xs : List A) → first_refused {A = A} (λ x. None) xs ≡ None
none_refused [] = refl
none_refused (x ∷ xs) = none_refused xs

in_parts : (a b c d e f g h : Option MbtError) → f ≡ None → g ≡ None → option_or a (option_or b (option_or c (option_or d (option_or e (option_or f (option_or g (option_or h None))))))) ≡ option_or a (option_or (option_or (option_or b c) d) (option_or e h))
in_parts None None None None None (Some x) g h p q = cc
in_parts None None None None None None (Some x) h p q = cc
in_parts None None None None None None None (Some x) p q = refl
in_parts _ _ _ _ _ _ _ _ p q = refl

-- references and stored digests refuse no row of a cache
pub by_parts : (metadata rows : List (List Cell)) → row_refusal metadata rows ≡ option_or (tile_kind_wrong Cache rows) (option_or (names_refused metadata) (tiles_refused rows))
by_parts metadata rows =
    in_parts (tile_kind_wrong Cache rows) (name_kind_wrong metadata) (name_twice metadata) (algorithm_unknown metadata) (tile_bad Cache [] rows) (reference_missing Cache [] rows) (hash_wrong Cache (algorithm_of metadata) [] rows) (place_twice Cache [] rows)
    (none_refused rows) (ap (λ o. option_or o None) (none_refused rows))

-- places as three numbers are equal as places are
same_spot : (p q : Place) → eq_by_cmp spot_cmp (spot_at p) (spot_at q) ≡ eq_by_cmp place_cmp p q
same_spot p q = ap is_eq (by (nat_cmp p.zoom q.zoom))
  where
    by : (r : Ordering) → ordering_then (ordering_then r (nat_cmp p.column q.column)) (nat_cmp p.row q.row) ≡ ordering_then r (ordering_then (nat_cmp p.column q.column) (nat_cmp p.row q.row))
    by Less = refl
    by _ = refl

distinct_spots : (rows : List (List Cell)) → are_distinct spot_cmp (map spot_of rows) ≡ are_distinct place_cmp (map row_place rows)
distinct_spots [] = refl
distinct_spots (r ∷ rs) = ap (λ b. not b && are_distinct spot_cmp (map spot_of rs)) (there rs) ∙ ap (λ b. not (list_any (eq_by_cmp place_cmp (row_place r)) (map row_place rs)) && b) (distinct_spots rs)
  where
    there : (xs : List (List Cell)) → list_any (eq_by_cmp spot_cmp (spot_of r)) (map spot_of xs) ≡ list_any (eq_by_cmp place_cmp (row_place r)) (map row_place xs)
    there [] = refl
    there (x ∷ xs) = rw (same_spot (row_place r) (row_place x), there xs) refl

-- rows none of which is bad have their places
abbrev AreGood : List (List Cell) → Type 0
AreGood rows = tile_bad Cache [] rows ≡ None

places_of : (rows : List (List Cell)) → AreGood rows → map (λ (t : Place × Option (List ℕ)). t.0) (filter_map (tile_in Cache []) rows) ≡ map row_place rows
places_of [] good = refl
places_of (r ∷ rs) good = by (tile_in Cache [] r) refl (bad_tile Cache [] r) refl good (places_of rs)
  where
    by : (o : Option (Place × Option (List ℕ))) → tile_in Cache [] r ≡ o → (b : Option MbtError) → bad_tile Cache [] r ≡ b → option_or (bad_tile Cache [] r) (first_refused (bad_tile Cache []) rs) ≡ None → (AreGood rs → map (λ (t : Place × Option (List ℕ)). t.0) (filter_map (tile_in Cache []) rs) ≡ map row_place rs) → map (λ (t : Place × Option (List ℕ)). t.0) (cons_option (tile_in Cache [] r) (filter_map (tile_in Cache []) rs)) ≡ row_place r ∷ map row_place rs
    by (Some t) e None f h next =
        let k = rw f at h in
        rw (e) (ap (λ l. t.0 ∷ l) (next k) ∙ ap (λ p. p ∷ map row_place rs) (sym (at_place (in_has_place Cache [] r t e))))
      where
        at_place : place_of r ≡ Some t.0 → row_place r ≡ t.0
        at_place g = rw g refl
    by (Some t) e (Some x) f h next = let k = rw f at h in cc
    by None e None f h next = absurd (cc_none (holds _ _ f))
      where
        cc_none : is_some (tile_in Cache [] r) ≡ true → ⊥
        cc_none g = let k = rw e at g in cc
    by None e (Some x) f h next = let k = rw f at h in cc

twice_is : (rows : List (List Cell)) (apart : Bool) → AreGood rows → apart ≡ are_distinct spot_cmp (map spot_of rows) → tiles_refused rows ≡ unless apart NoUniquenessConstraint
twice_is rows apart good is = ap (λ o. option_or o (place_twice Cache [] rows)) good ∙ ap (λ b. unless b NoUniquenessConstraint) (ap (are_distinct place_cmp) (places_of rows good) ∙ (sym (distinct_spots rows) ∙ sym is))

-- the refusal of a bad row is none of a store
pub bad_no_fault : (rows : List (List Cell)) (e : MbtError) → tile_bad Cache [] rows ≡ Some e → e ≡ StoreFault → ⊥
bad_no_fault [] e h k = none-some e h
bad_no_fault (r ∷ rs) e h k = by (is_some (tile_of r (cell_at 6 r))) h (λ g. bad_no_fault rs e g k)
  where
    by : (b : Bool) → option_or (unless b (InvalidTileIndex (cell_at 0 r) (cell_at 1 r) (cell_at 2 r))) (first_refused (bad_tile Cache []) rs) ≡ Some e → (tile_bad Cache [] rs ≡ Some e → ⊥) → ⊥
    by true g next = next g
    by false g next = let is : InvalidTileIndex (cell_at 0 r) (cell_at 1 r) (cell_at 2 r) ≡ e = cc in apart (is ∙ k)
      where
        apart : InvalidTileIndex (cell_at 0 r) (cell_at 1 r) (cell_at 2 r) ≡ StoreFault → ⊥
        apart f = cc

-- what becomes of rows none of which is bad
pub tiles_tested : (rows : List (List Cell)) (tiles : SeenTiles) (r : Result (BTreeSet Entry) MbtError) → AreGood rows → SeesTiles rows tiles → IfOk r (λ es. (tiles.apart ≡ true) × (es.keys ≡ tiles.entries.keys)) → IfErr r (λ e. (tiles.apart ≡ false) × (e ≡ NoUniquenessConstraint)) → Tests (tiles_refused rows) r
tiles_tested rows tiles (Ok es) good sees ok err = twice_is rows tiles.apart good sees.apart ∙ ap (λ b. unless b NoUniquenessConstraint) ok.0
tiles_tested rows tiles (Err e) good sees ok err = (λ free. twice_is rows tiles.apart good sees.apart ∙ (ap (λ b. unless b NoUniquenessConstraint) err.0 ∙ ap Some (sym err.1)), λ fault. apart (sym err.1 ∙ fault))
  where
    apart : NoUniquenessConstraint ≡ StoreFault → ⊥
    apart f = cc

pub entries_held : (rows : List (List Cell)) (tiles : SeenTiles) (r : Result (BTreeSet Entry) MbtError) → SeesTiles rows tiles → IfOk r (λ es. (tiles.apart ≡ true) × (es.keys ≡ tiles.entries.keys)) → IfOk r (λ es. AreEntries rows es.keys)
entries_held rows tiles (Ok es) sees ok = subst (AreEntries rows) (sym ok.1) sees.entries
entries_held rows tiles (Err e) sees ok = tt

-- behind kinds and metadata that pass, the tests over places are left
pub tiles_left : (metadata rows : List (List Cell)) → tile_kind_wrong Cache rows ≡ None → names_refused metadata ≡ None → tiles_refused rows ≡ row_refusal metadata rows
tiles_left metadata rows kinds names = sym (by_parts metadata rows ∙ (ap (λ o. option_or o (option_or (names_refused metadata) (tiles_refused rows))) kinds ∙ ap (λ o. option_or o (tiles_refused rows)) names))

pub kinds_first : (metadata rows : List (List Cell)) (e : MbtError) → tile_kind_wrong Cache rows ≡ Some e → row_refusal metadata rows ≡ Some e
kinds_first metadata rows e wrong = by_parts metadata rows ∙ ap (λ o. option_or o (option_or (names_refused metadata) (tiles_refused rows))) wrong
