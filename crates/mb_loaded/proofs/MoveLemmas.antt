-- Steps of moving tiles of another set.
use Rattle.mb_loaded.proofs.Common.{ap, AreLeft, arith, Blob, Bool, cases_eq, Cell, Content, content_at, contents_of, Copying, Edits, Err, false, false≢true, HashAlgorithm, held_of, id_of, inl, inr}
use Rattle.mb_loaded.proofs.Common.{is_gone, is_null, is_some, IsCopied, IsCopying, IsTile, length, length-set, List, MbtType, newest_ids, newest_names, newest_tiles, nothing, Null, Ok, OnOk, Option}
use Rattle.mb_loaded.proofs.Common.{PatchType, Puts, refl, Removes, replicate, Result, same_Some, set, slice_get, Some, StoredName, StoredTile, subst, suc, sym, taken, tile_copied, true, unwrap_or, ℕ}
use Rattle.mb_loaded.proofs.Common.{◌+◌, ◌-◌, ◌<◌, ◌∙◌, ◌≡◌, ◌≢◌}
use Rattle.mb_loaded.proofs.CopyLemmas.{known_copy, none_copied_there, tile_put, tile_removed}
use Rattle.mb_loaded.proofs.TakenLemmas.{set_apart, set_here}

null_cell : (c : Cell) → is_some (contents_of c) ≡ true → ((b : List ℕ) → c ≢ Blob b) → c ≡ Null
null_cell Null h away = refl
null_cell (Blob b) h away = absurd (away b refl)
null_cell _ h away = absurd (false≢true h)

not_suc : (i : ℕ) → suc i ≡ 0 → ⊥
not_suc i e = omega (arith, e)

-- a set whose lists have the same items
pub same_held : (layout : MbtType) (a : HashAlgorithm) (p : Option PatchType) (cs cs' : List Content) (order : List ℕ) (ts ts' : List StoredTile) (names : List StoredName) → cs' ≡ cs → ts' ≡ ts → held_of layout a p cs' (newest_ids cs' order) (newest_tiles ts') (newest_names names) ≡ held_of layout a p cs (newest_ids cs order) (newest_tiles ts) (newest_names names)
same_held layout a p cs cs' order ts ts' names c t = λ k. held_of layout a p (c k) (newest_ids (c k) order) (newest_tiles (t k)) (newest_names names)

-- before the first one is moved
pub none_moved : (others : List Content) (copies : List ℕ) (n : ℕ) → copies ≡ replicate n 0 → AreLeft others others copies
none_moved others copies n e = record { each = refl; left = λ k at. refl; moved = λ k i at. absurd (none_copied_there n k i (ap (λ (z : List ℕ). slice_get z k) (sym e) ∙ at)) }

-- what follows of what a call promises
pub on_ok : {A E : Type 0} (r : Result A E) (P Q : Type 0) → (P → Q) → OnOk r P → OnOk r Q
on_ok (Ok x) P Q f h = f h
on_ok (Err e) P Q f h = h

module _ (others now : List Content) (t : StoredTile) (id : Cell) (old : Copying) (live : is_gone t ≡ false) (is : IsCopying others old) (left : AreLeft others now old.copies.items) (whole : IsTile others t) (given : id ≡ id_of old.layout old.algorithm others t) where
  -- contents that were moved before
  pub moved_before : (n : ℕ) (null : Bool) (new : Copying) → slice_get old.copies.items t.contents ≡ Some n → 0 < n → null ≡ is_null id → Puts t.coord (n - 1) null old new → IsCopying others new × AreLeft others now new.copies.items × Edits (tile_copied others t) old new
  moved_before n null new at some null_is puts =
      let n_is : n ≡ suc (n - 1) = omega (arith, some) in
      let there = left.moved t.contents (n - 1) (at ∙ ap Some n_is) in
      let done = tile_put others t there.0 id (n - 1) null old old new live there.1 given null_is (known_copy others (n - 1) t.contents n there.0 old is at n_is there.1) puts in
      (done.0, subst (AreLeft others now) (sym puts.copies) left, done.1)

  -- contents that are moved now
  pub moved_now : (bytes : List ℕ) (i : ℕ) (null : Bool) (mid new : Copying) (now' : List Content) → t.contents < length old.copies.items → slice_get old.copies.items t.contents ≡ Some 0 → (content_at now t.contents).cell ≡ Blob bytes → now' ≡ set now t.contents taken
      → null ≡ is_null id → ((content_at others t.contents).cell ≡ Blob bytes → IsCopied others i bytes old mid) → mid.copies.items ≡ set old.copies.items t.contents (i + 1) → Puts t.coord i null mid new
      → IsCopying others new × AreLeft others now' new.copies.items × Edits (tile_copied others t) old new
  moved_now bytes i null mid new now' within at blob now_is null_is copied noted puts =
      let cell : (content_at others t.contents).cell ≡ Blob bytes = sym (left.left t.contents at) ∙ blob in
      let done = tile_put others t bytes id i null old mid new live cell given null_is (copied cell) puts in
      let copies : new.copies.items ≡ set old.copies.items t.contents (suc i) = puts.copies ∙ (noted ∙ ap (set old.copies.items t.contents) (omega arith)) in (
        done.0,
        subst (AreLeft others now') (sym copies) (subst (λ (z : List Content). AreLeft others z (set old.copies.items t.contents (suc i))) (sym now_is) (record {
          each = length-set now t.contents taken ∙ left.each;
          left = λ k zero_at. elim (cases_eq k t.contents) [
            | inl e ↦ absurd (not_suc i (same_Some (suc i) 0 (sym (set_here old.copies.items t.contents (suc i) within) ∙ (ap (slice_get (set old.copies.items t.contents (suc i))) (sym e) ∙ zero_at))))
            | inr ne ↦
                ap (λ (o : Option Content). (unwrap_or o nothing).cell) (set_apart now t.contents k taken ne)
                ∙ left.left k (sym (set_apart old.copies.items t.contents k (suc i) ne) ∙ zero_at)
          ];
          moved = λ k j suc_at. elim (cases_eq k t.contents) [
            | inl e ↦ (bytes, ap (λ (z : ℕ). (content_at others z).cell) e ∙ cell)
            | inr ne ↦ left.moved k j (sym (set_apart old.copies.items t.contents k (suc i) ne) ∙ suc_at)
          ];
        })),
        done.1,
      )

  -- null, in place of which null is left
  pub null_left : (cell : Cell) (new : Copying) (now' : List Content) → t.contents < length now → slice_get old.copies.items t.contents ≡ Some 0 → (content_at now t.contents).cell ≡ cell → ((b : List ℕ) → cell ≢ Blob b) → now' ≡ set now t.contents taken → Removes t.coord old new
      → IsCopying others new × AreLeft others now' new.copies.items × Edits (tile_copied others t) old new
  null_left cell new now' within at cell_is away now_is gone =
      let there : (content_at others t.contents).cell ≡ cell = sym (left.left t.contents at) ∙ cell_is in
      let null : cell ≡ Null = null_cell cell (ap (λ (c : Cell). is_some (contents_of c)) (sym there) ∙ whole live) away in
      let done = tile_removed others t cell old new whole live there away is gone in (
        done.0,
        subst (AreLeft others now') (sym gone.copies) (subst (λ (z : List Content). AreLeft others z old.copies.items) (sym now_is) (record {
          each = length-set now t.contents taken ∙ left.each;
          left = λ k zero_at. elim (cases_eq k t.contents) [
            | inl e ↦
                ap (λ (z : ℕ). (content_at (set now t.contents taken) z).cell) e
                ∙ (ap (λ (o : Option Content). (unwrap_or o nothing).cell) (set_here now t.contents taken within)
                ∙ (sym null ∙ (sym there ∙ ap (λ (z : ℕ). (content_at others z).cell) (sym e))))
            | inr ne ↦
                ap (λ (o : Option Content). (unwrap_or o nothing).cell) (set_apart now t.contents k taken ne)
                ∙ left.left k zero_at
          ];
          moved = left.moved;
        })),
        done.1,
      )
