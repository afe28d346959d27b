-- Laws of patched sets.
use Rattle.mb_edit.proofs.Common.{ap, contains_key, false, false≢true, get, is_some, List, None, Option, patched, patched_at, Place, places_antisymmetric, places_total, refl, same_map, Some, sym}
use Rattle.mb_edit.proofs.Common.{TileSet, ℕ, ◌∙◌, ◌≡◌}
use Rattle.mb_edit.proofs.PatchedLemmas.{get-patched_by}

-- the bytes themselves
abbrev kept : List ℕ → Option (Option (List ℕ))
kept bytes = Some (Some bytes)

pub get-patched : (tiles patch : TileSet) (place : Place) → get (patched tiles patch) place ≡ patched_at kept (get patch place) (get tiles place)
get-patched tiles patch place = get-patched_by kept place patch tiles

twice : (o had : Option (Option (List ℕ))) → patched_at kept o (patched_at kept o had) ≡ patched_at kept o had
twice (Some None) had = refl
twice _ had = refl

pub patched-patched : (tiles patch : TileSet) → patched (patched tiles patch) patch ≡ patched tiles patch
patched-patched tiles patch = same_map places_total places_antisymmetric _ _ (λ place.
    get-patched (patched tiles patch) patch place
    ∙ (ap (patched_at kept (get patch place)) (get-patched tiles patch place)
    ∙ (twice (get patch place) (get tiles place)
    ∙ sym (get-patched tiles patch place))))

unnamed : (o had : Option (Option (List ℕ))) → is_some o ≡ false → patched_at kept o had ≡ had
unnamed None had h = refl
unnamed (Some x) had h = absurd (false≢true (sym h))

pub get-unnamed : (tiles patch : TileSet) (place : Place) → contains_key patch place ≡ false → get (patched tiles patch) place ≡ get tiles place
get-unnamed tiles patch place h = get-patched tiles patch place ∙ unnamed (get patch place) (get tiles place) h
