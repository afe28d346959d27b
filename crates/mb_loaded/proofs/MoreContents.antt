-- More contents change nothing for those that are kept.
use Rattle.mb_loaded.proofs.Common.{ap, Bool, cond, Content, content_at, contents_of, false, false≢true, HasId, is_gone, is_null, is_some, IsTile, length, List, None, nothing, Option, refl}
use Rattle.mb_loaded.proofs.Common.{removed_none, slice_get, Some, StoredTile, suc, sym, true, unless_removed, unwrap_or, zero, ℕ, [], ◌++◌, ◌∙◌, ◌∷◌, ◌≡◌}

pub at_left : {X : Type 0} (xs ys : List X) (k : ℕ) (x : X) → slice_get xs k ≡ Some x → slice_get (xs ++ ys) k ≡ Some x
at_left [] ys k x h = cc
at_left (z ∷ xs) ys zero x h = h
at_left (z ∷ xs) ys (suc k) x h = at_left xs ys k x h

pub at_end : {X : Type 0} (xs : List X) (x : X) → slice_get (xs ++ x ∷ []) (length xs) ≡ Some x
at_end [] x = refl
at_end (y ∷ xs) x = at_end xs x

-- contents that aren't those past the end are there
there : (P : Content → Bool) → P nothing ≡ false → (contents : List Content) (i : ℕ) → P (content_at contents i) ≡ true → (x : Content) × (slice_get contents i ≡ Some x)
there P none contents i h = by (slice_get contents i) refl h
  where
    by : (o : Option Content) → slice_get contents i ≡ o → P (unwrap_or o nothing) ≡ true → (x : Content) × (slice_get contents i ≡ Some x)
    by (Some x) e h = (x, e)
    by None e h = absurd (false≢true (sym none ∙ h))

pub tile_contents : (contents : List Content) (t : StoredTile) → IsTile contents t → is_gone t ≡ false → (x : Content) × (slice_get contents t.contents ≡ Some x)
tile_contents contents t h live = there (λ c. is_some (contents_of c.cell)) refl contents t.contents (h live)

flip : (b : Bool) → b ≡ false → cond b false true ≡ true
flip false h = refl
flip true h = absurd (false≢true (sym h))

pub listed_contents : (contents : List Content) (i : ℕ) → HasId contents i → (x : Content) × (slice_get contents i ≡ Some x)
listed_contents contents i h = there (λ c. cond (is_null c.id) false true) refl contents i (flip _ h)

module _ (contents : List Content) (c : Content) where
  same_at : (i : ℕ) (x : Content) → slice_get contents i ≡ Some x → slice_get (contents ++ c ∷ []) i ≡ slice_get contents i
  same_at i x h = at_left contents (c ∷ []) i x h ∙ sym h

  -- of a tile
  pub tile_same : {A : Type 0} (f : Option Content → Option A) (t : StoredTile) → IsTile contents t → unless_removed t.standing (f (slice_get (contents ++ c ∷ []) t.contents)) ≡ unless_removed t.standing (f (slice_get contents t.contents))
  tile_same f t h = by (is_gone t) refl
    where
      by : (b : Bool) → is_gone t ≡ b → unless_removed t.standing (f (slice_get (contents ++ c ∷ []) t.contents)) ≡ unless_removed t.standing (f (slice_get contents t.contents))
      by true e = removed_none t.standing (f (slice_get (contents ++ c ∷ []) t.contents)) e ∙ sym (removed_none t.standing (f (slice_get contents t.contents)) e)
      by false e = let x = tile_contents contents t h e in ap (λ o. unless_removed t.standing (f o)) (same_at t.contents x.0 x.1)

  -- of an index with an id
  pub listed_same : {A : Type 0} (f : Option Content → A) (i : ℕ) → HasId contents i → f (slice_get (contents ++ c ∷ []) i) ≡ f (slice_get contents i)
  listed_same f i h = let x = listed_contents contents i h in ap f (same_at i x.0 x.1)

  pub tile_kept : (t : StoredTile) → IsTile contents t → IsTile (contents ++ c ∷ []) t
  tile_kept t h = λ live. let x = tile_contents contents t h live in ap (λ o. is_some (contents_of (unwrap_or o nothing).cell)) (same_at t.contents x.0 x.1) ∙ h live

  pub id_kept : (i : ℕ) → HasId contents i → HasId (contents ++ c ∷ []) i
  id_kept i h = listed_same (λ o. is_null (unwrap_or o nothing).id) i h ∙ h
