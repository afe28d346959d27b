-- What the readers of a loaded set find.
use Rattle.mb_lists.proofs.Common.{All, All-get_or, ap, AreContentsInOrder, AreInOrder, AreNamesInOrder, arith, at_key, Blob, blob_cell, Bool, cases_lt, Cell, cell_cmp, cell_cmp-IsAntisymmetric}
use Rattle.mb_lists.proofs.Common.{cells_total, cond, Content, content_at, content_value, contents_held, contents_of, entries, false, false≢true, find, get, get_or, get_or_from_slice_get, id_at}
use Rattle.mb_lists.proofs.Common.{IfSome, inl, inr, Int, is_content_gone, is_gone, is_name_gone, is_null, is_removed, is_some, is_text, IsName, IsTile, Kept, len, length, List, live_at, name_of}
use Rattle.mb_lists.proofs.Common.{name_value, names_held, nat_cmp, nat_list_cmp_total, None, none-some, nothing, Null, Option, option_and_then, option_map, Ordering, Other, Place, place_at}
use Rattle.mb_lists.proofs.Common.{place_cmp, place_of, places_total, Put, refl, Removed, slice_cmp, slice_get, slice_get-get_or, slice_get_past, slice_get_within, Some, Standing, StoredName}
use Rattle.mb_lists.proofs.Common.{StoredTile, subst, sym, Text, text_cell, text_of, tile_dates, tile_id, tile_value, tiles_held, true, unless_removed, unwrap_or, ℕ, ◌<◌, ◌∙◌, ◌≡◌}
use Rattle.mb_lists.proofs.Finding.{found_in}
use Rattle.mb_lists.proofs.NameLemmas.{names_antisymmetric}
use Rattle.mb_lists.proofs.Places.{places_antisymmetric}
use Rattle.mb_lists.proofs.Readers.{entry_at, found_at, live_count}

-- what is removed has no value, and nothing else is changed
pub removed_none : {A : Type 0} (s : Standing) (x : Option A) → is_removed s ≡ true → unless_removed s x ≡ None
removed_none Removed x h = refl
removed_none Kept x h = absurd (false≢true h)
removed_none Put x h = absurd (false≢true h)

pub standing_same : {A : Type 0} (s : Standing) (x : Option A) → is_removed s ≡ false → unless_removed s x ≡ x
standing_same Kept x h = refl
standing_same Put x h = refl
standing_same Removed x h = absurd (false≢true (sym h))

-- what is found stands in the list, and is no mark
pub live_has : {K X : Type 0} (R : K → K → Ordering) (key : X → K) (gone : X → Bool) (P : X → Type 0) (q : K) (xs : List X) (x : X) → All P xs → live_at R key gone q xs ≡ Some x → P x × (gone x ≡ false)
live_has {X = X} R key gone P q xs x all h = by (find (at_key R key q) xs) refl h
  where
    one : (y : X) (b : Bool) → gone y ≡ b → P y → cond b None (Some y) ≡ Some x → P x × (gone x ≡ false)
    one y true e p h = absurd (none-some x h)
    one y false e p h = let same : y ≡ x = cc in subst (λ z. P z × (gone z ≡ false)) same (p, e)

    by : (o : Option X) → find (at_key R key q) xs ≡ o → option_and_then (λ y. cond (gone y) None (Some y)) o ≡ Some x → P x × (gone x ≡ false)
    by None e h = absurd (none-some x h)
    by (Some y) e h =
        let f = found_in (at_key R key q) xs y e in
        one y (gone y) refl (subst P (get_or_from_slice_get xs f.0 y y f.1) (All-get_or P xs f.0 y (slice_get_within xs f.0 y f.1) all)) h

-- tiles
blob_back : (c : Cell) → is_some (contents_of c) ≡ true → Some c ≡ option_map blob_cell (contents_of c)
blob_back Null h = refl
blob_back (Blob b) h = refl
blob_back (Int n) h = absurd (false≢true h)
blob_back (Text t) h = absurd (false≢true h)
blob_back Other h = absurd (false≢true h)

blob_of : (c : Cell) → is_some (contents_of c) ≡ true → blob_cell (unwrap_or (contents_of c) None) ≡ c
blob_of Null h = refl
blob_of (Blob b) h = refl
blob_of (Int n) h = absurd (false≢true h)
blob_of (Text t) h = absurd (false≢true h)
blob_of Other h = absurd (false≢true h)

cell_there : (o : Option Content) → is_some (contents_of (unwrap_or o nothing).cell) ≡ true → option_map (λ (c : Content). c.cell) o ≡ Some (unwrap_or o nothing).cell
cell_there (Some c) h = refl
cell_there None h = absurd (false≢true h)

pub tile_cell : (contents : List Content) (t : StoredTile) → IsTile contents t → is_gone t ≡ false → option_map (λ (c : Content). c.cell) (slice_get contents t.contents) ≡ option_map blob_cell (tile_value contents t)
tile_cell contents t is live =
    cell_there (slice_get contents t.contents) (is live)
    ∙ (blob_back (content_at contents t.contents).cell (is live) ∙ ap (option_map blob_cell) (sym (standing_same t.standing (contents_of (content_at contents t.contents).cell) live)))

pub tile_there : (contents : List Content) (t : StoredTile) → IsTile contents t → is_gone t ≡ false → is_some (tile_value contents t) ≡ true
tile_there contents t is live = ap is_some (standing_same t.standing (contents_of (content_at contents t.contents).cell) live) ∙ is live

tiles_away : (contents : List Content) (t : StoredTile) → is_gone t ≡ true → tile_value contents t ≡ None
tiles_away contents t h = removed_none t.standing _ h

ids_away : (contents : List Content) (t : StoredTile) → is_gone t ≡ true → tile_id contents t ≡ None
ids_away contents t h = removed_none t.standing _ h

dates_away : (t : StoredTile) → is_gone t ≡ true → tile_dates t ≡ None
dates_away t h = removed_none t.standing t.dates h

module _ (contents : List Content) (live : ℕ) (tiles : List StoredTile) (order : AreInOrder live tiles) where
  pub tile_some : (q : Place) (t : StoredTile) → All (IsTile contents) tiles → live_at place_cmp place_of is_gone q tiles ≡ Some t → option_map (λ (c : Content). c.cell) (slice_get contents t.contents) ≡ option_map blob_cell (get (tiles_held (tile_value contents) tiles) q)
  tile_some q t all h =
      let p = live_has place_cmp place_of is_gone (IsTile contents) q tiles t all h in
      tile_cell contents t p.0 p.1 ∙ ap (option_map blob_cell) (sym (found_at places_total places_antisymmetric place_of is_gone (tile_value contents) (tiles_away contents) live tiles q order ∙ ap (option_and_then (tile_value contents)) h))

  pub tile_none : (q : Place) → live_at place_cmp place_of is_gone q tiles ≡ None → None ≡ option_map blob_cell (get (tiles_held (tile_value contents) tiles) q)
  tile_none q h = ap (option_map blob_cell) (sym (found_at places_total places_antisymmetric place_of is_gone (tile_value contents) (tiles_away contents) live tiles q order ∙ ap (option_and_then (tile_value contents)) h))

  pub id_some : (q : Place) (t : StoredTile) → live_at place_cmp place_of is_gone q tiles ≡ Some t → cond (is_null (id_at contents t.contents)) None (Some (id_at contents t.contents)) ≡ get (tiles_held (tile_id contents) tiles) q
  id_some q t h =
      let p = live_has place_cmp place_of is_gone (λ t. Unit {0}) q tiles t (λ i d lt. tt) h in
      sym (found_at places_total places_antisymmetric place_of is_gone (tile_id contents) (ids_away contents) live tiles q order ∙ (ap (option_and_then (tile_id contents)) h ∙ standing_same t.standing (cond (is_null (id_at contents t.contents)) None (Some (id_at contents t.contents))) p.1))

  pub id_none : (q : Place) → live_at place_cmp place_of is_gone q tiles ≡ None → None ≡ get (tiles_held (tile_id contents) tiles) q
  id_none q h = sym (found_at places_total places_antisymmetric place_of is_gone (tile_id contents) (ids_away contents) live tiles q order ∙ ap (option_and_then (tile_id contents)) h)

  pub dates_found : (q : Place) (t : StoredTile) → live_at place_cmp place_of is_gone q tiles ≡ Some t → t.dates ≡ get (tiles_held tile_dates tiles) q
  dates_found q t h =
      let p = live_has place_cmp place_of is_gone (λ t. Unit {0}) q tiles t (λ i d lt. tt) h in
      sym (found_at places_total places_antisymmetric place_of is_gone tile_dates dates_away live tiles q order ∙ (ap (option_and_then tile_dates) h ∙ standing_same t.standing t.dates p.1))

  pub dates_missing : (q : Place) → live_at place_cmp place_of is_gone q tiles ≡ None → None ≡ get (tiles_held tile_dates tiles) q
  dates_missing q h = sym (found_at places_total places_antisymmetric place_of is_gone tile_dates dates_away live tiles q order ∙ ap (option_and_then tile_dates) h)

-- contents by id
contents_away : (contents : List Content) (i : ℕ) → is_content_gone contents i ≡ true → content_value contents i ≡ None
contents_away contents i h = by (slice_get contents i) h
  where
    by : (o : Option Content) → is_removed (unwrap_or o nothing).standing ≡ true → option_and_then (λ (c : Content). unless_removed c.standing (Some c.cell)) o ≡ None
    by None h = refl
    by (Some c) h = removed_none c.standing (Some c.cell) h

content_kept : (contents : List Content) (i : ℕ) → is_content_gone contents i ≡ false → content_value contents i ≡ option_map (λ (c : Content). c.cell) (slice_get contents i)
content_kept contents i h = by (slice_get contents i) h
  where
    by : (o : Option Content) → is_removed (unwrap_or o nothing).standing ≡ false → option_and_then (λ (c : Content). unless_removed c.standing (Some c.cell)) o ≡ option_map (λ (c : Content). c.cell) o
    by None h = refl
    by (Some c) h = standing_same c.standing (Some c.cell) h

module _ (contents : List Content) (live : ℕ) (order : List ℕ) (rising : AreContentsInOrder contents live order) where
  pub content_some : (q : Cell) (i : ℕ) → live_at cell_cmp (id_at contents) (is_content_gone contents) q order ≡ Some i → option_map (λ (c : Content). c.cell) (slice_get contents i) ≡ get (contents_held contents order) q
  content_some q i h =
      let p = live_has cell_cmp (id_at contents) (is_content_gone contents) (λ t. Unit {0}) q order i (λ i d lt. tt) h in
      sym (found_at cells_total cell_cmp-IsAntisymmetric (id_at contents) (is_content_gone contents) (content_value contents) (contents_away contents) live order q rising ∙ (ap (option_and_then (content_value contents)) h ∙ content_kept contents i p.1))

  pub content_none : (q : Cell) → live_at cell_cmp (id_at contents) (is_content_gone contents) q order ≡ None → None ≡ get (contents_held contents order) q
  content_none q h = sym (found_at cells_total cell_cmp-IsAntisymmetric (id_at contents) (is_content_gone contents) (content_value contents) (contents_away contents) live order q rising ∙ ap (option_and_then (content_value contents)) h)

-- names
text_back : (c : Cell) → is_text c ≡ true → text_cell (text_of c) ≡ c
text_back Null h = refl
text_back (Text t) h = refl
text_back (Int n) h = absurd (false≢true h)
text_back (Blob b) h = absurd (false≢true h)
text_back Other h = absurd (false≢true h)

names_away : (n : StoredName) → is_name_gone n ≡ true → name_value n ≡ None
names_away n h = removed_none n.standing _ h

module _ (live : ℕ) (names : List StoredName) (order : AreNamesInOrder live names) where
  pub name_found : (q : List ℕ) (n : StoredName) → live_at (slice_cmp nat_cmp) name_of is_name_gone q names ≡ Some n → get (names_held names) q ≡ Some (text_of n.value)
  name_found q n h =
      let p = live_has (slice_cmp nat_cmp) name_of is_name_gone (λ t. Unit {0}) q names n (λ i d lt. tt) h in
      found_at nat_list_cmp_total names_antisymmetric name_of is_name_gone name_value names_away live names q order ∙ (ap (option_and_then name_value) h ∙ standing_same n.standing (Some (text_of n.value)) p.1)

  pub name_missing : (q : List ℕ) → live_at (slice_cmp nat_cmp) name_of is_name_gone q names ≡ None → get (names_held names) q ≡ None
  name_missing q h = found_at nat_list_cmp_total names_antisymmetric name_of is_name_gone name_value names_away live names q order ∙ ap (option_and_then name_value) h

  pub name_some : (q : List ℕ) (n : StoredName) → All IsName names → live_at (slice_cmp nat_cmp) name_of is_name_gone q names ≡ Some n → Some n.value ≡ option_map text_cell (get (names_held names) q)
  name_some q n all h =
      let p = live_has (slice_cmp nat_cmp) name_of is_name_gone IsName q names n all h in
      sym (ap (option_map text_cell) (name_found q n h) ∙ ap Some (text_back n.value p.0))

-- how many tiles there are, and the tile at an index
module _ (contents : List Content) (live : ℕ) (tiles : List StoredTile) (order : AreInOrder live tiles) (all : All (IsTile contents) tiles) where
  each_there : (i : ℕ) (e : StoredTile) → i < live → is_some (tile_value contents (get_or tiles i e)) ≡ true
  each_there i e lt = let le = order.bound in tile_there contents (get_or tiles i e) (all i e (omega (arith, le, lt))) (order.live i e lt)

  pub tiles_count : len (tiles_held (tile_value contents) tiles) ≡ live
  tiles_count = live_count places_total places_antisymmetric place_of is_gone (tile_value contents) (tiles_away contents) None live tiles order each_there

  shown : (i : ℕ) (t : StoredTile) → i < live → t ≡ get_or tiles i t → is_some (contents_of (content_at contents t.contents).cell) ≡ true
  shown i t lt same = let le = order.bound in subst (λ z. is_some (contents_of (content_at contents z.contents).cell) ≡ true) (sym same) (all i t (omega (arith, le, lt)) (order.live i t lt))

  pub tile_within : (i : ℕ) (t : StoredTile) → i < live → t ≡ get_or tiles i t → t.contents < length contents
  tile_within i t lt same = elim (cases_lt t.contents (length contents)) [
    | inl a ↦ a
    | inr b ↦ absurd (false≢true (sym (ap (λ o. is_some (contents_of (unwrap_or o nothing).cell)) (slice_get_past contents t.contents b)) ∙ shown i t lt same))
  ]

  pub tile_read : (i : ℕ) (t : StoredTile) (k : Content) → i < live → t ≡ get_or tiles i t → k ≡ get_or contents t.contents k → IfSome (slice_get (entries (tiles_held (tile_value contents) tiles)) i) (λ e. (e.0 ≡ place_at t.coord) × (blob_cell e.1 ≡ k.cell))
  tile_read i t k lt same is =
      let le = order.bound in
      let lives : is_gone t ≡ false = ap is_gone same ∙ order.live i t lt in
      let it : content_at contents t.contents ≡ k = ap (λ o. unwrap_or o nothing) (slice_get-get_or contents t.contents k (tile_within i t lt same)) ∙ sym is in
      let value : tile_value contents t ≡ contents_of k.cell = standing_same t.standing (contents_of (content_at contents t.contents).cell) lives ∙ ap (λ (c : Content). contents_of c.cell) it in
      let some : is_some (contents_of k.cell) ≡ true = ap (λ (c : Content). is_some (contents_of c.cell)) (sym it) ∙ shown i t lt same in
      let at : slice_get (entries (tiles_held (tile_value contents) tiles)) i ≡ Some (place_of t, unwrap_or (tile_value contents t) None) = entry_at places_total places_antisymmetric place_of is_gone (tile_value contents) (tiles_away contents) None live tiles i t order each_there lt ∙ ap (λ z. Some (place_of z, unwrap_or (tile_value contents z) None)) (sym same) in
      subst (λ (o : Option (Place × Option (List ℕ))). IfSome o (λ e. (e.0 ≡ place_at t.coord) × (blob_cell e.1 ≡ k.cell))) (sym at) (refl, ap (λ o. blob_cell (unwrap_or o None)) value ∙ blob_of k.cell some)

-- how many names there are, and the name at an index
module _ (live : ℕ) (names : List StoredName) (order : AreNamesInOrder live names) where
  name_there : (i : ℕ) (e : StoredName) → i < live → is_some (name_value (get_or names i e)) ≡ true
  name_there i e lt = let le = order.bound in ap is_some (standing_same (get_or names i e).standing (Some (text_of (get_or names i e).value)) (order.live i e lt))

  pub names_count : len (names_held names) ≡ live
  names_count = live_count nat_list_cmp_total names_antisymmetric name_of is_name_gone name_value names_away None live names order name_there

  pub name_read : (i : ℕ) (n : StoredName) → All IsName names → i < live → n ≡ get_or names i n → IfSome (slice_get (entries (names_held names)) i) (λ e. (e.0 ≡ n.name) × (text_cell e.1 ≡ n.value))
  name_read i n all lt same =
      let le = order.bound in
      let lives : is_name_gone n ≡ false = ap is_name_gone same ∙ order.live i n lt in
      let text : is_text n.value ≡ true = ap (λ (z : StoredName). is_text z.value) same ∙ all i n (omega (arith, le, lt)) in
      let at : slice_get (entries (names_held names)) i ≡ Some (n.name, unwrap_or (name_value n) None) = entry_at nat_list_cmp_total names_antisymmetric name_of is_name_gone name_value names_away None live names i n order name_there lt ∙ ap (λ (z : StoredName). Some (z.name, unwrap_or (name_value z) None)) (sym same) in
      subst (λ (o : Option (List ℕ × Option (List ℕ))). IfSome o (λ e. (e.0 ≡ n.name) × (text_cell e.1 ≡ n.value))) (sym at) (refl, ap (λ o. text_cell (unwrap_or o None)) (standing_same n.standing (Some (text_of n.value)) lives) ∙ text_back n.value text)
