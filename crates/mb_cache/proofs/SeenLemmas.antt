-- What rows of a cache come to with one row more, and with one page more.
use Rattle.mb_cache.proofs.Common.{and_from, ap, append_assoc, are_distinct, bad_tile, Bool, Cache, Cell, cond, Entry, entry_cmp, entry_of, eq_by_cmp, eq_by_cmp_equiv, Err, false, false≢true}
use Rattle.mb_cache.proofs.Common.{first_refused, get_or, has_entry, has_tile_kinds, holds, InvalidDataFormat, is_some, IsEquivalence, IsStrictlySortedBy, IsTotalOrder, length, List, list_all}
use Rattle.mb_cache.proofs.Common.{list_all-append, list_any, list_any-append, map, map-append, MbtError, nat_cmp_total, None, none-some, not, Ok, OnOk, Option, option_or, Ordering, refl, Result}
use Rattle.mb_cache.proofs.Common.{SeenRows, SeenTiles, SeesRows, SeesTiles, slice_get-get_or, Some, spot_cmp, spot_of, subst, sym, take, take_more, tile_bad, tile_kind_wrong, true, unless, ℕ, []}
use Rattle.mb_cache.proofs.Common.{◌&&◌, ◌++◌, ◌+◌, ◌<◌, ◌||◌, ◌∙◌, ◌∷◌, ◌≡◌}
use Rattle.std.proofs.lemmas.Cmp.{on_total, then_total}
use Rattle.mb_cache.proofs.EntryLemmas.{equal_entries}
use Rattle.mb_constraints.proofs.TilesKept.{passed}

abbrev Rows : Type 0
Rows = List (List Cell)

spots_total : IsTotalOrder spot_cmp
spots_total = then_total (then_total (on_total (λ (s : ℕ × ℕ × ℕ). s.0) nat_cmp_total) (on_total (λ (s : ℕ × ℕ × ℕ). s.1) nat_cmp_total)) (on_total (λ (s : ℕ × ℕ × ℕ). s.2) nat_cmp_total)

equal_spots : IsEquivalence (eq_by_cmp spot_cmp)
equal_spots = eq_by_cmp_equiv spots_total

pub any_map : {X Y : Type 0} (p : Y → Bool) (f : X → Y) (xs : List X) → list_any p (map f xs) ≡ list_any (λ x. p (f x)) xs
any_map p f [] = refl
any_map p f (x ∷ xs) = ap (λ b. p (f x) || b) (any_map p f xs)

-- a key more, of one element more
has_more : {K X : Type 0} (R : K → K → Ordering) (equal : IsEquivalence (eq_by_cmp R)) (f : X → K) (old new : List K) (k : K) (xs : List X) (x : X) → k ≡ f x → ((e : K) → list_any (eq_by_cmp R e) new ≡ cond (eq_by_cmp R k e) true (list_any (eq_by_cmp R e) old)) → ((e : K) → list_any (eq_by_cmp R e) old ≡ list_any (λ y. eq_by_cmp R e (f y)) xs) → (e : K) → list_any (eq_by_cmp R e) new ≡ list_any (λ y. eq_by_cmp R e (f y)) (xs ++ x ∷ [])
has_more R equal f old new k xs x is updated was e =
    let one : eq_by_cmp R k e ≡ eq_by_cmp R e (f x) = equal.symm k e ∙ ap (eq_by_cmp R e) is in
    updated e ∙ (either (eq_by_cmp R k e) (list_any (eq_by_cmp R e) old) ∙ (ap (λ b. b || (eq_by_cmp R k e || false)) (was e) ∙ (ap (λ b. list_any (λ y. eq_by_cmp R e (f y)) xs || (b || false)) one ∙ sym (list_any-append (λ y. eq_by_cmp R e (f y)) xs (x ∷ [])))))
  where
    either : (a b : Bool) → cond a true b ≡ (b || (a || false))
    either true true = refl
    either true false = refl
    either false true = refl
    either false false = refl

-- keys with one key more are distinct where they were and it is none of them
distinct_more : {K : Type 0} (R : K → K → Ordering) (equal : IsEquivalence (eq_by_cmp R)) (ks : List K) (k : K) → are_distinct R (ks ++ k ∷ []) ≡ (are_distinct R ks && not (list_any (eq_by_cmp R k) ks))
distinct_more R equal [] k = refl
distinct_more R equal (x ∷ ks) k =
    ap (λ b. not b && are_distinct R (ks ++ k ∷ [])) (list_any-append (eq_by_cmp R x) ks (k ∷ []))
    ∙ (ap (λ b. not (list_any (eq_by_cmp R x) ks || (b || false)) && are_distinct R (ks ++ k ∷ [])) (equal.symm x k)
    ∙ (ap (λ b. not (list_any (eq_by_cmp R x) ks || (eq_by_cmp R k x || false)) && b) (distinct_more R equal ks k)
    ∙ parts (list_any (eq_by_cmp R x) ks) (eq_by_cmp R k x) (list_any (eq_by_cmp R k) ks) (are_distinct R ks)))
  where
    parts : (a b c d : Bool) → (not (a || (b || false)) && (d && not c)) ≡ ((not a && d) && not (b || c))
    parts false true c true = refl
    parts _ _ c _ = refl

-- the tile of one row more
pub tile_more : (rows : Rows) (row : List Cell) (old new : SeenTiles) (s : ℕ × ℕ × ℕ) (k : Entry) (added : Bool) → s ≡ spot_of row → k ≡ entry_of row → added ≡ not (list_any (eq_by_cmp spot_cmp s) old.places.keys)
    → ((q : ℕ × ℕ × ℕ) → list_any (eq_by_cmp spot_cmp q) new.places.keys ≡ cond (eq_by_cmp spot_cmp s q) true (list_any (eq_by_cmp spot_cmp q) old.places.keys)) → new.apart ≡ (old.apart && added)
    → ((e : Entry) → has_entry new.entries.keys e ≡ cond (eq_by_cmp entry_cmp k e) true (has_entry old.entries.keys e)) → IsStrictlySortedBy entry_cmp new.entries.keys → SeesTiles rows old → SeesTiles (rows ++ row ∷ []) new
tile_more rows row old new s k added spot entry fresh placed apart updated ordered sees =
    let there : list_any (eq_by_cmp spot_cmp s) old.places.keys ≡ list_any (eq_by_cmp spot_cmp (spot_of row)) (map spot_of rows) =
    sees.places s ∙ (ap (λ q. list_any (λ r. eq_by_cmp spot_cmp q (spot_of r)) rows) spot ∙ sym (any_map (eq_by_cmp spot_cmp (spot_of row)) spot_of rows)) in
    record {
      entries = record { members = has_more entry_cmp equal_entries entry_of old.entries.keys new.entries.keys k rows row entry updated sees.entries.members; ordered = ordered };
      places = has_more spot_cmp equal_spots spot_of old.places.keys new.places.keys s rows row spot placed sees.places;
      apart =
          apart ∙ (ap (λ b. b && added) sees.apart ∙ (ap (λ b. are_distinct spot_cmp (map spot_of rows) && b) (fresh ∙ ap not there)
          ∙ (sym (distinct_more spot_cmp equal_spots (map spot_of rows) (spot_of row)) ∙ ap (are_distinct spot_cmp) (sym (map-append spot_of rows (row ∷ []))))));
    }

-- the tiles of the next of some rows, none of which is bad
pub row_good : (xs : Rows) (i : ℕ) (x : List Cell) → first_refused (bad_tile Cache []) xs ≡ None → i < length xs → x ≡ get_or xs i x → bad_tile Cache [] x ≡ None
row_good xs i x good lt at = passed (bad_tile Cache []) xs good i x (slice_get-get_or xs i x lt ∙ ap Some (sym at))

pub tiles_next : (xs : Rows) (i : ℕ) (x : List Cell) (start old new : SeenTiles) → i < length xs → x ≡ get_or xs i x → ((before : Rows) → SeesTiles before start → SeesTiles (before ++ take i xs) old) → ((rows : Rows) → SeesTiles rows old → SeesTiles (rows ++ x ∷ []) new) → (before : Rows) → SeesTiles before start → SeesTiles (before ++ take (i + 1) xs) new
tiles_next xs i x start old new lt at was step before sees =
    let next : (before ++ take i xs) ++ x ∷ [] ≡ before ++ take (i + 1) xs = append_assoc before (take i xs) (x ∷ []) ∙ ap (λ l. before ++ l) (ap (λ y. take i xs ++ y ∷ []) at ∙ sym (take_more xs i x lt)) in
    subst (λ l. SeesTiles l new) next (step (before ++ take i xs) (was before sees))

-- the first refusal of two lists, one after the other
pub refused_more : {A : Type 0} (test : A → Option MbtError) (xs ys : List A) → first_refused test (xs ++ ys) ≡ option_or (first_refused test xs) (first_refused test ys)
refused_more test [] ys = refl
refused_more test (x ∷ xs) ys = ap (option_or (test x)) (refused_more test xs ys) ∙ first (test x)
  where
    first : (a : Option MbtError) → option_or a (option_or (first_refused test xs) (first_refused test ys)) ≡ option_or (option_or a (first_refused test xs)) (first_refused test ys)
    first (Some e) = refl
    first None = refl

pub ok_then : {A E P Q : Type 0} (r : Result A E) → (P → Q) → OnOk r P → OnOk r Q
ok_then (Ok x) f h = f h
ok_then (Err e) f h = tt

pub is_none : (o : Option MbtError) → is_some o ≡ false → o ≡ None
is_none None h = refl
is_none (Some bad) h = absurd (false≢true (sym h))

module _ (rows page : Rows) (kinds : tile_kind_wrong Cache page ≡ None) where
  kinds_more : tile_kind_wrong Cache rows ≡ None → tile_kind_wrong Cache (rows ++ page) ≡ None
  kinds_more h = ap (λ b. unless b InvalidDataFormat) (list_all-append (has_tile_kinds Cache) rows page ∙ and_from (list_all (has_tile_kinds Cache) rows) (list_all (has_tile_kinds Cache) page) (holds _ _ h) (holds _ _ kinds))

  bad_more : tile_bad Cache [] (rows ++ page) ≡ option_or (tile_bad Cache [] rows) (tile_bad Cache [] page)
  bad_more = refused_more (bad_tile Cache []) rows page

  -- behind a bad row
  pub bad_stays : (seen : SeenRows) → is_some seen.bad ≡ true → SeesRows rows seen → SeesRows (rows ++ page) seen
  bad_stays seen there sees = by seen.bad refl there
    where
      by : (o : Option MbtError) → seen.bad ≡ o → is_some o ≡ true → SeesRows (rows ++ page) seen
      by None e h = absurd (false≢true h)
      by (Some bad) e h = record {
        kinds = kinds_more sees.kinds;
        bad = e ∙ sym (bad_more ∙ ap (λ o. option_or o (tile_bad Cache [] page)) (sym sees.bad ∙ e));
        tiles = λ none. absurd (none-some bad (sym none ∙ e));
      }

  after_none : (seen : SeenRows) → is_some seen.bad ≡ false → SeesRows rows seen → tile_bad Cache [] (rows ++ page) ≡ tile_bad Cache [] page
  after_none seen none sees = bad_more ∙ ap (λ o. option_or o (tile_bad Cache [] page)) (sym sees.bad ∙ is_none seen.bad none)

  -- at the first page with a bad row
  pub bad_found : (old new : SeenRows) (bad : MbtError) → is_some old.bad ≡ false → Some bad ≡ tile_bad Cache [] page → new.bad ≡ Some bad → SeesRows rows old → SeesRows (rows ++ page) new
  bad_found old new bad none found is sees = record {
    kinds = kinds_more sees.kinds;
    bad = is ∙ (found ∙ sym (after_none old none sees));
    tiles = λ nothing. absurd (none-some bad (sym nothing ∙ is));
  }

  -- while none is bad
  pub page_taken : (old new : SeenRows) → is_some old.bad ≡ false → None ≡ tile_bad Cache [] page → new.bad ≡ old.bad → (SeesTiles rows old.tiles → SeesTiles (rows ++ page) new.tiles) → SeesRows rows old → SeesRows (rows ++ page) new
  page_taken old new none fine same taken sees =
      let nothing : old.bad ≡ None = is_none old.bad none in
      record {
        kinds = kinds_more sees.kinds;
        bad = same ∙ (nothing ∙ (fine ∙ sym (after_none old none sees)));
        tiles = λ e. taken (sees.tiles nothing);
      }
