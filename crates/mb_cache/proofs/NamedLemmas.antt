-- The algorithm that rows of metadata name.
use Rattle.mb_cache.proofs.Common.{ap, AreNamesInOrder, Cell, codes, get, is_name_gone, List, live_at, name_of, names_held, names_of, nat_cmp, None, Option, option_and_then, Some, stored_algorithm}
use Rattle.mb_cache.proofs.Common.{sym, text_of, ℕ, ◌∙◌, ◌≡◌}
use Rattle.std.specs.Cmp.Lexicographic.{slice_cmp}
use Rattle.mb_constraints.proofs.AlgorithmLemmas.{stored_is}
use Rattle.mb_lists.proofs.ReaderLemmas.{name_found, name_missing}
use Rattle.mb_lists.specs.declared.entries.StoredName.{StoredName}

under_name : (live : ℕ) (names : List StoredName) → AreNamesInOrder live names → (q : List ℕ) (o : Option StoredName) → o ≡ live_at (slice_cmp nat_cmp) name_of is_name_gone q names → option_and_then (λ (n : StoredName). text_of n.value) o ≡ option_and_then {U = List ℕ} (λ text. text) (get (names_held names) q)
under_name live names order q (Some n) h = ap (λ (o : Option (Option (List ℕ))). option_and_then {U = List ℕ} (λ text. text) o) (sym (name_found live names order q n (sym h)))
under_name live names order q None h = ap (λ (o : Option (Option (List ℕ))). option_and_then {U = List ℕ} (λ text. text) o) (sym (name_missing live names order q (sym h)))

-- the text of the entry under the name of the algorithm is the stored one
pub algorithm_stored : (live : ℕ) (names : List StoredName) → AreNamesInOrder live names → (metadata : List (List Cell)) (o : Option StoredName) (text : Option (List ℕ)) → o ≡ live_at (slice_cmp nat_cmp) name_of is_name_gone (codes "hash_algorithm") names → names_held names ≡ names_of metadata → text ≡ option_and_then (λ (n : StoredName). text_of n.value) o → text ≡ stored_algorithm metadata
algorithm_stored live names order metadata o text found same is = is ∙ (under_name live names order (codes "hash_algorithm") o found ∙ stored_is names metadata same)
