-- Settings of names and values.
use Rattle.tileset_script.proofs.Common.{ap, arith, bounds_of, bytes_eq, center_of, codes, false, if◌then◌else◌, length, List, None, refl, setting_of, some_part, words_of, ℕ, [], ◌<◌, ◌∷◌, ◌≡◌, ◌≢◌}

-- an option of another name has one value
unset : (name : List ℕ) (words : List (List ℕ)) → 0 < length words → length words ≢ 1 → bytes_eq name (codes "center") ≡ false → bytes_eq name (codes "bounds") ≡ false → setting_of name words ≡ None
unset name [] some one c b = absurd (omega arith)
unset name (v ∷ []) some one c b = absurd (one refl)
unset name (v ∷ w ∷ []) some one c b = ap (λ t. if t then center_of v w else None) c
unset name (v ∷ w ∷ x ∷ []) some one c b = refl
unset name (v ∷ w ∷ x ∷ y ∷ []) some one c b = ap (λ t. if t then bounds_of v w x y else None) b
unset name (v ∷ w ∷ x ∷ y ∷ z ∷ words) some one c b = refl

pub no_setting : (name values : List ℕ) → length (words_of values) ≢ 1 → bytes_eq name (codes "center") ≡ false → bytes_eq name (codes "bounds") ≡ false → setting_of name (words_of values) ≡ None
no_setting name values one c b = unset name (words_of values) (some_part 32 values) one c b
