-- A finite map that is seen through the list of its entries, and what an edit of the list at the
-- place of a key does to it.
use Rattle.tile_json.proofs.Common.{ap, Bool, empty_of_len, entries, entries-from_sorted, entries-insert, false, find, FinMap, from_sorted, get-entries, get_or, insert, is_sorted, is_sorted-put, IsAt}
use Rattle.tile_json.proofs.Common.{IsGap, IsTotalOrder, len-entries, length, List, None, Ordering, put, refl, same_entries_map, set, Some, subst, sym, T, true, ℕ, [], ◌<◌, ◌∙◌, ◌≡◌, ◌≤◌}
use Rattle.std.specs.FinMap as map
use Rattle.tile_json.proofs.PlaceLemmas.{put_over, put_between, place_within, find_there, find_missing}

holds : (b : Bool) → b ≡ true → T b
holds b h = subst T (sym h) tt

is_true : (b : Bool) → T b → b ≡ true
is_true true h = refl
is_true false h = absurd h

module _ {K V : Type 0} {R : K → K → Ordering} (es : List (K × V)) (m : FinMap R V) (sorted : is_sorted R es ≡ true) (is : from_sorted es ≡ m) where
  pub entries_are : entries m ≡ es
  entries_are = ap entries (sym is) ∙ entries-from_sorted R es (holds _ sorted)

  pub len_is : map.len m ≡ length es
  len_is = len-entries m ∙ ap length entries_are

  module _ (o : IsTotalOrder R) (k : K) where
    get_is : map.get m k ≡ find R k es
    get_is = get-entries m k ∙ ap (find R k) entries_are

    there : (i : ℕ) → IsAt (R k) (entries m) i → IsAt (R k) es i
    there i = subst (λ l. IsAt (R k) l i) entries_are

    between : (i : ℕ) → IsGap (R k) (entries m) i → IsGap (R k) es i
    between i = subst (λ l. IsGap (R k) l i) entries_are

    pub found_below : (i : ℕ) → IsAt (R k) (entries m) i → i < length es
    found_below i at = (there i at).0

    pub gap_within : (i : ℕ) → IsGap (R k) (entries m) i → i ≤ length es
    gap_within i gap = place_within R k es i (between i gap)

    -- the entry that was read at the key's place has the value of the key
    pub get_found : (i : ℕ) (read : K × V) → IsAt (R k) (entries m) i → read ≡ get_or es i read → Some read.1 ≡ map.get m k
    get_found i read at e = let at' = there i at in ap (λ entry. Some entry.1) e ∙ sym (get_is ∙ find_there R k read es i at'.0 at'.1)

    pub get_missing : (i : ℕ) → IsGap (R k) (entries m) i → map.get m k ≡ None
    get_missing i gap = get_is ∙ find_missing R k o es i sorted (between i gap)

    module _ (v : V) where
      pub sorted_put : is_sorted R (put R k v es) ≡ true
      sorted_put = is_true _ (is_sorted-put R o k v es (holds _ sorted))

      -- the list with an entry put in its place is seen as the map with the entry inserted
      put_is : from_sorted (put R k v es) ≡ map.insert m k v
      put_is = same_entries_map _ _ (entries-from_sorted R _ (holds _ sorted_put) ∙ ap (put R k v) (sym entries_are) ∙ sym (entries-insert o m k v))

      -- a list that has the entry in its place keeps the order, and is seen as the map with the entry inserted
      pub record Inserts (new : List (K × V)) : Type 0 where
        pub in_order : is_sorted R new ≡ true
        pub seen : from_sorted new ≡ map.insert m k v

      inserts : (new : List (K × V)) → new ≡ put R k v es → Inserts new
      inserts new e = record { in_order = ap (is_sorted R) e ∙ sorted_put; seen = ap from_sorted e ∙ put_is }

      pub written_over : (i : ℕ) (read : K × V) → IsAt (R k) (entries m) i → read ≡ get_or es i read → Inserts (set es i (read.0, v))
      written_over i read at e = let at' = there i at in inserts _ (ap (λ entry. set es i (entry.0, v)) e ∙ put_over R k v read es i at'.0 at'.1)

      pub added : (i : ℕ) → IsGap (R k) (entries m) i → Inserts (insert es i (k, v))
      added i gap = inserts _ (put_between R k v es i (between i gap))

-- the map of no entries
pub from_sorted_nil : {K V : Type 0} {R : K → K → Ordering} → from_sorted {K = K} {X = V} {R = R} [] ≡ map.empty
from_sorted_nil = empty_of_len _ (len_is [] _ refl refl)
