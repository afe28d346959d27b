-- A tile that got other times is the latest of its place.
use Rattle.mb_lists.proofs.Common.{AreInOrder, get_or, is_gone, IsAt, IsGap, Kept, List, live_at, None, Option, Place, place_cmp, place_of, places_total, redated, Redates, refl, set, slice_index_or}
use Rattle.mb_lists.proofs.Common.{Some, StoredTile, subst, sym, ℕ, ◌≡◌}
use Rattle.mb_lists.specs.declared.dates.Dates.{Dates}
use Rattle.mb_lists.proofs.Ordered.{at_live, gap_live}
use Rattle.mb_lists.proofs.Places.{places_antisymmetric}
use Rattle.mb_lists.proofs.StandsLemmas.{over}

module _ (live : ℕ) (tiles : List StoredTile) where
  pub redated_at : (tiles' : List StoredTile) (i : ℕ) (q : Place) (d : Dates) → IsAt place_cmp place_of live tiles q i → AreInOrder live tiles → ((t : StoredTile) → tiles' ≡ set tiles i (redated d (slice_index_or tiles i t))) → AreInOrder live tiles' × Redates d (live_at place_cmp place_of is_gone q tiles) tiles tiles'
  redated_at tiles' i q d at o e =
      let none : StoredTile = record { coord = record { z = 0; x = 0; y = 0 }; contents = 0; dates = None; standing = Kept } in
      let t : StoredTile = get_or tiles i none in
      let here : IsAt place_cmp place_of live tiles (place_of (redated d t)) i = subst (λ p. IsAt place_cmp place_of live tiles p i) (sym (at.has_key none)) at in
      let r = over places_total places_antisymmetric place_of is_gone live tiles i (redated d t) here refl o in (
        subst (AreInOrder live) (sym (e none)) r.0,
        subst (λ (o : Option StoredTile). Redates d o tiles tiles') (sym (at_live places_total places_antisymmetric place_of is_gone live tiles q i none at o)) (subst (Redates d (Some t) tiles) (sym (e none)) r.1),
      )

  pub redated_not : (q : Place) (i : ℕ) (d : Dates) → IsGap place_cmp place_of live tiles q i → AreInOrder live tiles → Redates d (live_at place_cmp place_of is_gone q tiles) tiles tiles
  redated_not q i d gap o = subst (λ (o : Option StoredTile). Redates d o tiles tiles) (sym (gap_live places_total places_antisymmetric place_of is_gone live tiles q i gap o)) refl
