-- Steps of copying tiles of another set.
use Rattle.mb_loaded.proofs.Common.{Adds, All, All-push, All-weaker, ap, append-nil, AreCopies, arith, Blob, Bool, Cell, cell_id, Content, content_at, contents_of, Coord, Copying, dates_for, drop}
use Rattle.mb_loaded.proofs.Common.{drop_more, Edits, entry_of, false, false≢true, get_or, HashAlgorithm, HasId, Held, held_copying, held_of, id_of, inl, inr, is_gone, is_null, is_some, IsCopied}
use Rattle.mb_loaded.proofs.Common.{IsCopying, IsDated, IsPutAt, IsTile, length, length-set, List, listed, MbtType, newest_ids, newest_names, newest_tiles, None, none-some, nothing, Null, Option}
use Rattle.mb_loaded.proofs.Common.{PatchType, Place, place_at, place_of, Put, put_content, Puts, refl, removed_tile, Removes, replicate, same_Some, set, slice_get, slice_get-get_or, slice_get_within}
use Rattle.mb_loaded.proofs.Common.{Some, standing_same, StoredName, StoredTile, subst, suc, sym, tile_copied, tile_mark, tile_patched, tiles_copied, true, unwrap_or, with_tile, zero, ℕ, [], ◌++◌}
use Rattle.mb_loaded.proofs.Common.{◌+◌, ◌-◌, ◌<◌, ◌∙◌, ◌∷◌, ◌≡◌, ◌≢◌, ◌≤◌, ◌⊎◌}
use Rattle.mb_loaded.proofs.DatedLemmas.{dates_some}
use Rattle.mb_loaded.proofs.CopyViews.{held_at}
use Rattle.mb_loaded.proofs.EditViews.{gone_dated, gone_whole, held_gone, held_more}
use Rattle.mb_loaded.proofs.MoreContents.{at_end, at_left, id_kept, tile_contents, tile_kept}

-- facts of lists that are equal to others
pub tiles_moved : (cs cs' : List Content) (ts ts' : List StoredTile) → cs' ≡ cs → ts' ≡ ts → All (IsTile cs) ts → All (IsTile cs') ts'
tiles_moved cs cs' ts ts' c t h = subst (λ (z : List Content). All (IsTile z) ts') (sym c) (subst (λ (z : List StoredTile). All (IsTile cs) z) (sym t) h)

pub ids_moved : (cs cs' : List Content) (is is' : List ℕ) → cs' ≡ cs → is' ≡ is → All (HasId cs) is → All (HasId cs') is'
ids_moved cs cs' is is' c i h = subst (λ (z : List Content). All (HasId z) is') (sym c) (subst (λ (z : List ℕ). All (HasId cs) z) (sym i) h)

pub dated_moved : (l l' : MbtType) (ts ts' : List StoredTile) → l' ≡ l → ts' ≡ ts → All (IsDated l) ts → All (IsDated l') ts'
dated_moved l l' ts ts' e t h = subst (λ (z : MbtType). All (IsDated z) ts') (sym e) (subst (λ (z : List StoredTile). All (IsDated l) z) (sym t) h)

-- bytes that were put at an index stay there
stays_put : (old new : Copying) (i : ℕ) (bytes : List ℕ) → new.layout ≡ old.layout → new.algorithm ≡ old.algorithm
    → ((x : Content) → slice_get old.contents.items i ≡ Some x → slice_get new.contents.items i ≡ Some x)
    → IsPutAt old i bytes → IsPutAt new i bytes
stays_put old new i bytes l a contents h = record {
  content = contents (put_content (cell_id old.layout old.algorithm (Blob bytes)) bytes) h.content
      ∙ (ap (λ (z : MbtType). Some (put_content (cell_id z old.algorithm (Blob bytes)) bytes)) (sym l) ∙ ap (λ (z : HashAlgorithm). Some (put_content (cell_id new.layout z (Blob bytes)) bytes)) (sym a));
}

module _ (others : List Content) where
  -- new contents
  pub added : (i : ℕ) (id : Cell) (bytes : List ℕ) (old new : Copying) → IsCopying others old → id ≡ cell_id old.layout old.algorithm (Blob bytes) → Adds i id bytes old new → IsCopied others i bytes old new
  added i id bytes old new is given m = record {
    copying = record {
      whole = tiles_moved more new.contents.items old.tiles.items new.tiles.items m.contents m.tiles (All-weaker (IsTile old.contents.items) (IsTile more) (tile_kept old.contents.items c) old.tiles.items is.whole);
      ids = ids_moved more new.contents.items old.order.items new.order.items m.contents m.order (All-weaker (HasId old.contents.items) (HasId more) (id_kept old.contents.items c) old.order.items is.ids);
      dated = dated_moved old.layout new.layout old.tiles.items new.tiles.items m.layout m.tiles is.dated;
      copies = λ k j b at cell. stays_put old new j b m.layout m.algorithm
          (λ x h. ap (λ (z : List Content). slice_get z j) m.contents ∙ at_left old.contents.items (c ∷ []) j x h)
          (is.copies k j b (ap (λ (z : List ℕ). slice_get z k) (sym m.copies) ∙ at) cell);
      each = ap length m.copies ∙ is.each;
    };
    same = record {
      layout = m.layout;
      algorithm = m.algorithm;
      held = λ p names.
          moved p names
          ∙ held_more old.layout old.algorithm p old.contents.items old.order.items old.tiles.items names is.whole is.ids c;
    };
    at = record {
      content = ap (λ (z : List Content). slice_get z i) m.contents
          ∙ (ap (slice_get more) m.index
          ∙ (at_end old.contents.items c
          ∙ (ap (λ (z : Cell). Some (put_content z bytes)) given
          ∙ (ap (λ (z : MbtType). Some (put_content (cell_id z old.algorithm (Blob bytes)) bytes)) (sym m.layout)
          ∙ ap (λ (z : HashAlgorithm). Some (put_content (cell_id new.layout z (Blob bytes)) bytes)) (sym m.algorithm)))));
    };
  }
    where
      c : Content
      c = put_content id bytes

      more : List Content
      more = old.contents.items ++ c ∷ []

      moved : (p : Option PatchType) (names : List StoredName) → held_copying p names new ≡ held_of old.layout old.algorithm p more (newest_ids more old.order.items) (newest_tiles old.tiles.items) (newest_names names)
      moved p names = λ k. held_of (m.layout k) (m.algorithm k) p (m.contents k) (newest_ids (m.contents k) (m.order k)) (newest_tiles (m.tiles k)) (newest_names names)

  -- a copy that is known
  pub known_copy : (i index n : ℕ) (bytes : List ℕ) (l : Copying) → IsCopying others l → slice_get l.copies.items index ≡ Some n → n ≡ suc i → (content_at others index).cell ≡ Blob bytes → IsCopied others i bytes l l
  known_copy i index n bytes l is at one cell = record {
    copying = is;
    same = record { layout = refl; algorithm = refl; held = λ p names. refl };
    at = is.copies index i bytes (at ∙ ap Some one) cell;
  }

  set_found : {X : Type 0} (xs : List X) (i k : ℕ) (x y : X) → slice_get (set xs i x) k ≡ Some y → ((k ≡ i) × (x ≡ y)) ⊎ (slice_get xs k ≡ Some y)
  set_found [] i k x y h = absurd (none-some y h)
  set_found (z ∷ xs) zero zero x y h = inl (refl, same_Some x y h)
  set_found (z ∷ xs) (suc i) (suc k) x y h = elim (set_found xs i k x y h) [ inl p ↦ inl (ap suc p.0, p.1) | inr q ↦ inr q ]
  set_found (z ∷ xs) _ _ x y h = inr h

  blob_same : (x y : List ℕ) → Blob x ≡ Blob y → x ≡ y
  blob_same x y h = cc

  next_same : (i j : ℕ) → suc i ≡ suc j → i ≡ j
  next_same i j h = omega (arith, h)

  -- a copy that is listed at its place
  pub listed_copy : (i index n : ℕ) (bytes : List ℕ) (old mid new : Copying) → new ≡ record mid { copies = new.copies } → new.copies.items ≡ set mid.copies.items index n → n ≡ suc i → (content_at others index).cell ≡ Blob bytes → IsCopied others i bytes old mid → IsCopied others i bytes old new
  listed_copy i index n bytes old mid new same set_is one cell h = subst (IsCopied others i bytes old) (sym same) (record {
    copying = record {
      whole = h.copying.whole;
      ids = h.copying.ids;
      dated = h.copying.dated;
      copies = λ k j b at other. elim (set_found mid.copies.items index k n (suc j) (ap (λ (z : List ℕ). slice_get z k) (sym set_is) ∙ at)) as (λ _. IsPutAt (record mid { copies = new.copies }) j b) [
        | inl p ↦
            let b_is : bytes ≡ b = blob_same bytes b (sym cell ∙ (ap (λ (z : ℕ). (content_at others z).cell) (sym p.0) ∙ other)) in
            let j_is : i ≡ j = next_same i j (sym one ∙ p.1) in
            subst (λ (z : ℕ). IsPutAt (record mid { copies = new.copies }) z b) j_is (subst (IsPutAt (record mid { copies = new.copies }) i) b_is (record { content = h.at.content }))
        | inr q ↦ let was = h.copying.copies k j b q other in record { content = was.content }
      ];
      each = ap length set_is ∙ (length-set mid.copies.items index n ∙ h.copying.each);
    };
    same = record { layout = h.same.layout; algorithm = h.same.algorithm; held = h.same.held };
    at = record { content = h.at.content };
  })

  -- a tile with contents of the set
  pub put_there : (coord : Coord) (i : ℕ) (bytes : List ℕ) (null : Bool) (old new : Copying) → IsCopying others old → IsPutAt old i bytes → null ≡ is_null (cell_id old.layout old.algorithm (Blob bytes)) → Puts coord i null old new → IsCopying others new × Edits (λ h. with_tile h (place_at coord) bytes) old new
  put_there coord i bytes null old new is at n m = (
    record {
      whole = tiles_moved old.contents.items new.contents.items (old.tiles.items ++ t ∷ []) new.tiles.items m.contents m.tiles (All-push (IsTile old.contents.items) old.tiles.items t is.whole (λ live. ap (λ (o : Option Content). is_some (contents_of (unwrap_or o nothing).cell)) at.content));
      ids = ids_moved old.contents.items new.contents.items (old.order.items ++ listed null i) new.order.items m.contents m.order (by_null null refl);
      dated = dated_moved old.layout new.layout (old.tiles.items ++ t ∷ []) new.tiles.items m.layout m.tiles (All-push (IsDated old.layout) old.tiles.items t is.dated (λ live. dates_some old.layout));
      copies = λ k j b there cell. stays_put old new j b m.layout m.algorithm
          (λ x h. ap (λ (z : List Content). slice_get z j) m.contents ∙ h)
          (is.copies k j b (ap (λ (z : List ℕ). slice_get z k) (sym m.copies) ∙ there) cell);
      each = ap length m.copies ∙ is.each;
    },
    record {
      layout = m.layout;
      algorithm = m.algorithm;
      held = λ p names.
          moved p names
          ∙ (ap (λ (z : Bool). held_of old.layout old.algorithm p old.contents.items (newest_ids old.contents.items (old.order.items ++ listed z i)) (newest_tiles (old.tiles.items ++ t ∷ [])) (newest_names names)) n
          ∙ held_at old.layout old.algorithm p old.contents.items old.order.items old.tiles.items names coord bytes i at.content);
    },
  )
    where
      t : StoredTile
      t = record { coord = coord; contents = i; dates = dates_for old.layout; standing = Put }

      by_null : (b : Bool) → null ≡ b → All (HasId old.contents.items) (old.order.items ++ listed b i)
      by_null true e = subst (All (HasId old.contents.items)) (sym (append-nil old.order.items)) is.ids
      by_null false e = All-push (HasId old.contents.items) old.order.items i is.ids (ap (λ (o : Option Content). is_null (unwrap_or o nothing).id) at.content ∙ (sym n ∙ e))

      moved : (p : Option PatchType) (names : List StoredName) → held_copying p names new ≡ held_of old.layout old.algorithm p old.contents.items (newest_ids old.contents.items (old.order.items ++ listed null i)) (newest_tiles (old.tiles.items ++ t ∷ [])) (newest_names names)
      moved p names = λ k. held_of (m.layout k) (m.algorithm k) p (m.contents k) (newest_ids (m.contents k) (m.order k)) (newest_tiles (m.tiles k)) (newest_names names)

  -- a mark
  pub removed_there : (coord : Coord) (old new : Copying) → IsCopying others old → Removes coord old new → IsCopying others new × Edits (λ h. removed_tile h (place_at coord)) old new
  removed_there coord old new is m = (
    record {
      whole = tiles_moved old.contents.items new.contents.items (old.tiles.items ++ tile_mark coord ∷ []) new.tiles.items m.contents m.tiles (gone_whole old.layout old.algorithm None old.contents.items old.order.items old.tiles.items [] coord (old.tiles.items ++ tile_mark coord ∷ []) is.whole refl);
      ids = ids_moved old.contents.items new.contents.items old.order.items new.order.items m.contents m.order is.ids;
      dated = dated_moved old.layout new.layout (old.tiles.items ++ tile_mark coord ∷ []) new.tiles.items m.layout m.tiles (gone_dated old.layout old.algorithm None old.contents.items old.order.items old.tiles.items [] coord (old.tiles.items ++ tile_mark coord ∷ []) is.dated refl);
      copies = λ k j b there cell. stays_put old new j b m.layout m.algorithm
          (λ x h. ap (λ (z : List Content). slice_get z j) m.contents ∙ h)
          (is.copies k j b (ap (λ (z : List ℕ). slice_get z k) (sym m.copies) ∙ there) cell);
      each = ap length m.copies ∙ is.each;
    },
    record {
      layout = m.layout;
      algorithm = m.algorithm;
      held = λ p names.
          moved p names
          ∙ held_gone old.layout old.algorithm p old.contents.items old.order.items old.tiles.items names coord (old.tiles.items ++ tile_mark coord ∷ []) refl;
    },
  )
    where
      moved : (p : Option PatchType) (names : List StoredName) → held_copying p names new ≡ held_of old.layout old.algorithm p old.contents.items (newest_ids old.contents.items old.order.items) (newest_tiles (old.tiles.items ++ tile_mark coord ∷ [])) (newest_names names)
      moved p names = λ k. held_of (m.layout k) (m.algorithm k) p (m.contents k) (newest_ids (m.contents k) (m.order k)) (newest_tiles (m.tiles k)) (newest_names names)

-- edits one after the other
pub both_edits : (f g : Held → Held) (old mid new : Copying) → Edits f old mid → Edits g mid new → Edits (λ h. g (f h)) old new
both_edits f g old mid new a b = record {
  layout = b.layout ∙ a.layout;
  algorithm = b.algorithm ∙ a.algorithm;
  held = λ p names. b.held p names ∙ ap g (a.held p names);
}

-- the contents that a tile names
pub named_content : (others : List Content) (t : StoredTile) (d : Content) → IsTile others t → is_gone t ≡ false → content_at others t.contents ≡ get_or others t.contents d
named_content others t d is live =
    let there = tile_contents others t is live in
    ap (λ (o : Option Content). unwrap_or o nothing) (slice_get-get_or others t.contents d (slice_get_within others t.contents there.0 there.1))

-- what is copied of a tile
entry_is : (others : List Content) (t : StoredTile) (cell : Cell) → is_gone t ≡ false → (content_at others t.contents).cell ≡ cell → entry_of others t ≡ (place_of t, unwrap_or (contents_of cell) None)
entry_is others t cell live at = ap (λ (o : Option (Option (List ℕ))). (place_of t, unwrap_or o None)) (standing_same t.standing (contents_of (content_at others t.contents).cell) live ∙ ap contents_of at)

pub tile_put : (others : List Content) (t : StoredTile) (bytes : List ℕ) (id : Cell) (copy : ℕ) (null : Bool) (old mid new : Copying) → is_gone t ≡ false → (content_at others t.contents).cell ≡ Blob bytes → id ≡ id_of old.layout old.algorithm others t → null ≡ is_null id → IsCopied others copy bytes old mid → Puts t.coord copy null mid new → IsCopying others new × Edits (tile_copied others t) old new
tile_put others t bytes id copy null old mid new live cell is n copied put =
    let null_is : null ≡ is_null (cell_id mid.layout mid.algorithm (Blob bytes)) =
    n ∙ (ap is_null (is ∙ ap (cell_id old.layout old.algorithm) cell)
    ∙ (ap (λ (l : MbtType). is_null (cell_id l old.algorithm (Blob bytes))) (sym copied.same.layout) ∙ ap (λ (a : HashAlgorithm). is_null (cell_id mid.layout a (Blob bytes))) (sym copied.same.algorithm))) in
    let done = put_there others t.coord copy bytes null mid new copied.copying copied.at null_is put in (
      done.0,
      both_edits (λ h. h) (tile_copied others t) old mid new copied.same (subst (λ (e : Place × Option (List ℕ)). Edits (λ h. tile_patched h e) mid new) (sym (entry_is others t (Blob bytes) live cell)) done.1),
    )

no_bytes : (c : Cell) → is_some (contents_of c) ≡ true → ((b : List ℕ) → c ≢ Blob b) → unwrap_or (contents_of c) None ≡ None
no_bytes Null h away = refl
no_bytes (Blob b) h away = absurd (away b refl)
no_bytes _ h away = absurd (false≢true h)

pub tile_removed : (others : List Content) (t : StoredTile) (cell : Cell) (old new : Copying) → IsTile others t → is_gone t ≡ false → (content_at others t.contents).cell ≡ cell → ((b : List ℕ) → cell ≢ Blob b) → IsCopying others old → Removes t.coord old new → IsCopying others new × Edits (tile_copied others t) old new
tile_removed others t cell old new whole live at away is gone =
    let done = removed_there others t.coord old new is gone in
    let none : unwrap_or (contents_of cell) None ≡ None = no_bytes cell (ap (λ (c : Cell). is_some (contents_of c)) (sym at) ∙ whole live) away in
    let entry : entry_of others t ≡ (place_of t, None) = entry_is others t cell live at ∙ ap (λ (o : Option (List ℕ)). (place_of t, o)) none in (
      done.0,
      subst (λ (e : Place × Option (List ℕ)). Edits (λ h. tile_patched h e) old new) (sym entry) done.1,
    )

-- the tile before those that were copied
pub one_copied : (others : List Content) (tiles : List StoredTile) (n : ℕ) (t : StoredTile) (first old new : Copying) → 0 < n → n ≤ length tiles → t ≡ get_or tiles (n - 1) t
    → Edits (tiles_copied others (drop n tiles)) first old → Edits (tile_copied others t) old new
    → Edits (tiles_copied others (drop (n - 1) tiles)) first new
one_copied others tiles n t first old new some within at done made =
    let next : (n - 1) + 1 ≡ n = omega (arith, some) in
    let front : drop (n - 1) tiles ≡ t ∷ drop n tiles = drop_more tiles (n - 1) t (omega (arith, some, within)) ∙ (ap (λ (x : StoredTile). x ∷ drop ((n - 1) + 1) tiles) (sym at) ∙ ap (λ (k : ℕ). t ∷ drop k tiles) next) in
    subst (λ (ts : List StoredTile). Edits (tiles_copied others ts) first new) (sym front)
    (both_edits (tiles_copied others (drop n tiles)) (tile_copied others t) first old new done made)

-- no copy stands in a list of zeros
pub none_copied_there : (n k i : ℕ) → slice_get (replicate n 0) k ≡ Some (suc i) → ⊥
none_copied_there zero k i h = none-some (suc i) h
none_copied_there (suc n) zero i h = absurd (omega (arith, same_Some 0 (suc i) h))
none_copied_there (suc n) (suc k) i h = none_copied_there n k i h

-- before the first copy
pub no_copy : (others : List Content) (l : Copying) (n : ℕ) → l.copies.items ≡ replicate n 0 → AreCopies others l
no_copy others l n e = λ k i bytes at cell. absurd (none_copied_there n k i (ap (λ (z : List ℕ). slice_get z k) (sym e) ∙ at))
