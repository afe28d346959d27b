-- Lists that are empty, or not.
use Rattle.mb_copy.proofs.Common.{Bool, box_holds, false, false≢true, length, List, list_any, Option, Place, place_passes, refl, sym, zoom_passes, ℕ, [], ◌==◌, ◌∙◌, ◌∷◌, ◌≡◌}
use Rattle.mb_copy.specs.declared.tile_box.TileBox.{TileBox}

pub listed : (levels : List ℕ) (least greatest : Option ℕ) (zoom : ℕ) → (levels ≡ [] → ⊥) → list_any (λ level. level == zoom) levels ≡ zoom_passes levels least greatest zoom
listed [] least greatest zoom some = absurd (some refl)
listed (l ∷ ls) least greatest zoom some = refl

pub held : (boxes : List TileBox) (p : Place) → (boxes ≡ [] → ⊥) → list_any (box_holds p) boxes ≡ place_passes boxes p
held [] p some = absurd (some refl)
held (b ∷ bs) p some = refl

pub not_empty : {A : Type 0} (xs : List A) (b : Bool) → b ≡ (length xs == 0) → b ≡ false → xs ≡ [] → ⊥
not_empty [] b is none e = absurd (false≢true (sym none ∙ is))
not_empty (x ∷ xs) b is none e = cc
