-- An object without members.
use Rattle.mb_metadata.proofs.Common.{arith, Bool, Entry, false_from_ne_true, is_bare, length, List, members_view, object, refl, true, [], ◌↔◌, ◌∷◌, ◌≡◌}

pub bare : (es : List Entry) (b : Bool) → ((b ≡ true) ↔ (length es ≡ 0)) → b ≡ is_bare (object (members_view es))
bare [] b h = h.1 refl
bare (e ∷ es) b h = false_from_ne_true b (λ t. let none : length (e ∷ es) ≡ 0 = h.0 t in absurd (omega arith))
