-- Adds that are added one after another.
use Rattle.pm_writer.proofs.Common.{add_to, AddFits, ap, AreFew, drop, drop_more, get_or, length, List, Options, refl, subst, sym, take, take-append-drop, take_more, ℕ, [], ◌++◌, ◌+◌, ◌<◌, ◌∙◌, ◌∷◌}
use Rattle.pm_writer.proofs.Common.{◌≡◌, ◌≢◌}
use Rattle.pm_writer.proofs.Few.{add_fits}

-- a filled add stands behind those before it
pub add_filled : (adds : List (ℕ × List ℕ)) (id : ℕ) (bytes : List ℕ) → bytes ≢ [] → add_to adds id bytes ≡ adds ++ (id, bytes) ∷ []
add_filled adds id [] n = absurd (n refl)
add_filled adds id (b ∷ bytes) n = refl

-- after the add at i the first i + 1 are there
pub added_at : (adds : List (ℕ × List ℕ)) (i : ℕ) (d : ℕ × List ℕ) → i < length adds → (get_or adds i d).1 ≢ [] → add_to (take i adds) (get_or adds i d).0 (get_or adds i d).1 ≡ take (i + 1) adds
added_at adds i d h n = add_filled (take i adds) (get_or adds i d).0 (get_or adds i d).1 n ∙ sym (take_more adds i d h)

-- each of few and short adds fits behind those before it
pub add_fits_at : (o : Options) (adds : List (ℕ × List ℕ)) (i : ℕ) (d : ℕ × List ℕ) → i < length adds → AreFew o adds → AddFits o (take i adds) (get_or adds i d).0 (get_or adds i d).1
add_fits_at o adds i d h few =
    let parts : adds ≡ take i adds ++ get_or adds i d ∷ drop (i + 1) adds = sym (take-append-drop i adds) ∙ ap (λ z. take i adds ++ z) (drop_more adds i d h) in
    add_fits o (take i adds) (drop (i + 1) adds) (get_or adds i d).0 (get_or adds i d).1 (subst (AreFew o) parts few)
