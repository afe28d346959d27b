-- An update of zooms edits no other names.
use Rattle.mb_metadata.proofs.Common.{AreEdited, Bool, codes, cond, contains_key, decimal, false, is_edited, is_set, List, MbtError, NameEdit, Names, None, Ok, Option, option_to_list, refl, Result}
use Rattle.mb_metadata.proofs.Common.{Some, span, State, state_of, state_updated, subst, sym, Tables, Text, true, update_edits, zoom_at, zoom_edits, zooms_of, ℕ, ◌++◌, ◌∙◌, ◌≡◌}
use Rattle.mb_metadata.specs.declared.zoom_choice.UpdateZoomType.{UpdateZoomType}
use Rattle.mb_metadata.specs.declared.zoom_choice.UpdateZoomType.TheVariants.{Reset}

-- whichever of two edits of these names there are, the name of the algorithm isn't edited
two_names : (x y : Bool) (t u : Option (List ℕ)) → is_edited (option_to_list (cond x (Some (record { name = codes "minzoom"; text = t })) None) ++ option_to_list (cond y (Some (record { name = codes "maxzoom"; text = u })) None)) (Text (codes "hash_algorithm")) ≡ false
two_names true true t u = refl
two_names true false t u = refl
two_names false true t u = refl
two_names false false t u = refl

unnamed : (mode : UpdateZoomType) (names : Names) (zooms : Option (ℕ × ℕ)) → is_edited (zoom_edits mode names zooms) (Text (codes "hash_algorithm")) ≡ false
unnamed mode names (Some zooms) = two_names (is_set mode false (zoom_at names (codes "minzoom")) zooms.0) (is_set mode true (zoom_at names (codes "maxzoom")) zooms.1) (Some (decimal zooms.0)) (Some (decimal zooms.1))
unnamed Reset names None = two_names (contains_key names (codes "minzoom")) (contains_key names (codes "maxzoom")) None None
unnamed _ names None = refl

pub ok_same : (s r : State) → ◌≡◌ {A = Result State MbtError} (Ok s) (Ok r) → s ≡ r
ok_same s r e = cc

-- the tables load again
pub update_loads : (mode : UpdateZoomType) (old mid new : Tables) (s r : State) (es : List NameEdit) → state_of old ≡ Ok s → state_of old ≡ Ok r → es ≡ update_edits mode s → AreEdited s es mid new → state_of new ≡ Ok (state_updated mode r)
update_loads mode old mid new s r es e f is edited =
    let are : AreEdited s (update_edits mode s) mid new = subst (λ (xs : List NameEdit). AreEdited s xs mid new) is edited in
    subst (λ (x : State). state_of new ≡ Ok (state_updated mode x)) (ok_same s r (sym e ∙ f)) (are.unnamed (unnamed mode s.metadata (span (zooms_of s.tiles))))
