-- The algorithm that a name stands for.
use Rattle.mb_constraints.proofs.Common.{ap, Bool, Cell, codes, false, filter_map, find, HashAlgorithm, IfSome, List, names_held, None, none-some, Option, option_and_then, refl, Some, sym, true, ℕ}
use Rattle.mb_constraints.proofs.Common.{◌∙◌, ◌≡◌}
use Rattle.std.specs.Cmp.Lexicographic.{nat_list_cmp_total}
use Rattle.std.specs.FinMap.{get, get-from_entries}
use Rattle.std.specs.Str.{bytes_eq}
use Rattle.std.proofs.lemmas.Slice.Eq.{bytes_eq-Decides}
use Rattle.mb_lists.proofs.Finding.{find_none}
use Rattle.mb_lists.specs.Metadata.{name_entry, names_of}
use Rattle.mb_lists.specs.declared.entries.StoredName.{StoredName}
use Rattle.mb_constraints.specs.Algorithm.{algorithms, stored_algorithm}
use Rattle.tile_hash.specs.Digest.{name_of}
use Rattle.tile_hash.specs.declared.algorithm.HashAlgorithm.TheVariants.{Md5}

-- each name is found
own_name : (a : HashAlgorithm) → find (λ b. bytes_eq (name_of a) (name_of b)) algorithms ≡ Some a
own_name Md5 = refl
own_name _ = refl

-- an answer that has the name, where one has it, is the one that is found
pub named_is : (low : List ℕ) (r : Option HashAlgorithm) → IfSome r (λ a. low ≡ name_of a) → ((a : HashAlgorithm) → low ≡ name_of a → r ≡ Some a) → r ≡ find (λ a. bytes_eq low (name_of a)) algorithms
named_is low (Some a) h k = sym (ap (λ l. find (λ b. bytes_eq l (name_of b)) algorithms) h ∙ own_name a)
named_is low None h k = sym (find_none (λ a. bytes_eq low (name_of a)) algorithms (λ i a at. other a))
  where
    other : (a : HashAlgorithm) → bytes_eq low (name_of a) ≡ false
    other a = by (bytes_eq low (name_of a)) refl
      where
        by : (b : Bool) → bytes_eq low (name_of a) ≡ b → bytes_eq low (name_of a) ≡ false
        by false e = e
        by true e = absurd (none-some a (k a ((bytes_eq-Decides low (name_of a)).0 e)))

-- the stored algorithm is found under its name
pub stored_is : (names : List StoredName) (metadata : List (List Cell)) → names_held names ≡ names_of metadata → option_and_then {U = List ℕ} (λ text. text) (get (names_held names) (codes "hash_algorithm")) ≡ stored_algorithm metadata
stored_is names metadata h = ap (λ (o : Option (Option (List ℕ))). option_and_then {U = List ℕ} (λ text. text) o) (ap (λ m. get m (codes "hash_algorithm")) h ∙ get-from_entries nat_list_cmp_total (filter_map name_entry metadata) (codes "hash_algorithm"))
