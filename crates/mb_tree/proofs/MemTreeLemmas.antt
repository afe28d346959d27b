-- The files of a tree in memory, as its map has them.
use Rattle.mb_tree.proofs.Common.{AllByRecursion, ap, below_all, Bool, BTreeMap, cond, entries-from_sorted, eq_by_cmp, eq_by_cmp_equiv, Err, false, File, files_of_list, find, from_sorted, get}
use Rattle.mb_tree.proofs.Common.{get-from_entries, get-from_sorted, get-insert, get_by, IfOk, insert, is_at, is_eq, is_lt, is_sorted, IsOrdered, Less, List, nat_cmp, nat_list_cmp_total, Ok, Option}
use Rattle.mb_tree.proofs.Common.{Ordering, paths_in, paths_of, refl, Result, same_map, slice_cmp, Some, sym, T, true, Updates, ℕ, [], ◌&&◌, ◌∙◌, ◌∷◌, ◌≡◌}
use Rattle.std.specs.Map.{keys_of, lookup}
use Rattle.std.specs.List.Sorted.{IsStrictlySortedBy}
use Rattle.mb_lists.proofs.NameLemmas.{names_antisymmetric}

abbrev by_bytes : List ℕ → List ℕ → Ordering
by_bytes = slice_cmp nat_cmp

both : (a b : Bool) → T a → T b → T (a && b)
both true b p q = q
both false b p q = absurd p

less : (o : Ordering) → o ≡ Less → T (is_lt o)
less Less e = tt
less _ e = cc

below : (path : List ℕ) (es : List File) → AllByRecursion (λ other. by_bytes path other ≡ Less) (keys_of es) → T (below_all by_bytes path es)
below path [] h = tt
below path (e ∷ es) h = both (is_lt (by_bytes path e.0)) (below_all by_bytes path es) (less (by_bytes path e.0) h.0) (below path es h.1)

pub sorted : (es : List File) → IsStrictlySortedBy by_bytes (keys_of es) → T (is_sorted by_bytes es)
unfolding IsStrictlySortedBy
sorted [] h = tt
sorted (e ∷ es) h = both (below_all by_bytes e.0 es) (is_sorted by_bytes es) (below e.0 es h.0) (sorted es h.1)

found : (path : List ℕ) (es : List File) → lookup (is_at (by_bytes path)) es ≡ find by_bytes path es
found path [] = refl
found path (e ∷ es) = ap (cond (is_eq (by_bytes path e.0)) (Some e.1)) (found path es)

pub got : (m : BTreeMap (List ℕ) (List ℕ)) (path : List ℕ) → get (files_of_list m.entries) path ≡ get_by (by_bytes path) m
got m path = get-from_entries nat_list_cmp_total m.entries path ∙ sym (found path m.entries)

pub paths_are : (m : BTreeMap (List ℕ) (List ℕ)) → IsOrdered by_bytes m → paths_of (files_of_list m.entries) ≡ keys_of m.entries
paths_are m ordered =
    let in_order : T (is_sorted by_bytes m.entries) = sorted m.entries ordered in
    let same : files_of_list m.entries ≡ from_sorted m.entries = same_map nat_list_cmp_total names_antisymmetric (files_of_list m.entries) (from_sorted m.entries) (λ q.
    get-from_entries nat_list_cmp_total m.entries q ∙ sym (get-from_sorted by_bytes m.entries q in_order)) in
    ap paths_of same ∙ ap paths_in (entries-from_sorted by_bytes m.entries in_order)

pub put_is : (m n : BTreeMap (List ℕ) (List ℕ)) (path bytes : List ℕ) → Updates by_bytes m n path (Some bytes) → files_of_list n.entries ≡ insert (files_of_list m.entries) path bytes
put_is m n path bytes step = same_map nat_list_cmp_total names_antisymmetric (files_of_list n.entries) (insert (files_of_list m.entries) path bytes) (λ q.
    got n q
    ∙ (step.0 q
    ∙ (ap (λ b. cond b (Some bytes) (get_by (by_bytes q) m)) ((eq_by_cmp_equiv nat_list_cmp_total).symm path q)
    ∙ (ap (cond (eq_by_cmp by_bytes q path) (Some bytes)) (sym (got m q))
    ∙ sym (get-insert nat_list_cmp_total (files_of_list m.entries) path bytes q)))))

-- a copy of what is found
pub copied : {E : Type 0} (r : Result (List ℕ) E) (found : Option (List ℕ)) (bytes : List ℕ) → found ≡ Some bytes → IfOk r (λ copy. copy ≡ bytes) → IfOk r (λ copy. found ≡ Some copy)
copied (Ok copy) found bytes e h = e ∙ ap Some (sym h)
copied (Err x) found bytes e h = h
