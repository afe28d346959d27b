-- The names without a field of their own, one after another.
use Rattle.mb_metadata.proofs.Common.{and_parts, ap, append-nil, below_all, Bool, Cell, cond, cons_option, Data, entries, entries_sorted, false, filter_map, filter_map-append, find, FinMap}
use Rattle.mb_metadata.proofs.Common.{from_entries, from_entries_push, get_or_from_slice_get, Greater, has_field, IfSome, is_eq, is_lt, is_sorted, length, Less, List, Names, nat_cmp}
use Rattle.mb_metadata.proofs.Common.{nat_cmp-IsAntisymmetric, nat_list_cmp_total, None, none-some, Option, option_and_then, option_map, Ordering, ordering_reverse, other_entry, others_of, refl}
use Rattle.mb_metadata.proofs.Common.{slice_cmp, slice_cmp-IsAntisymmetric, slice_get, slice_get-get_or, Some, string, suc, sym, T, take, take_all, take_more, text_cell, text_of, true, true≢false}
use Rattle.mb_metadata.proofs.Common.{unless_empty, unwrap_or, with_entry, zero, ℕ, [], ◌++◌, ◌+◌, ◌<◌, ◌∙◌, ◌∷◌, ◌≡◌, ◌≤◌}

abbrev pub Entry : Type 0
Entry = List ℕ × Option (List ℕ)

abbrev Fields : Type 0
Fields = FinMap (slice_cmp nat_cmp) Data

abbrev pub R : List ℕ → List ℕ → Ordering
R = slice_cmp nat_cmp

-- another name keeps its name
pub other_name : (e : Entry) (x : List ℕ × Data) → other_entry e ≡ Some x → x.0 ≡ e.0
other_name e x h = by (has_field e.0) (option_and_then unless_empty e.1) h
  where
    by : (b : Bool) (o : Option (List ℕ)) → cond b None (option_map (λ text. (e.0, string text)) o) ≡ Some x → x.0 ≡ e.0
    by false (Some text) h = sym (ap (λ q. (unwrap_or q x).0) h)
    by _ _ h = absurd (none-some x h)

pub is_less : (o : Ordering) → is_lt o ≡ true → o ≡ Less
is_less Less h = refl
is_less _ h = absurd (true≢false (sym h))

above : (x : List ℕ) (es : List Entry) (i : ℕ) (e : Entry) → below_all R x es ≡ true → slice_get es i ≡ Some e → R x e.0 ≡ Less
above x [] i e h at = absurd (none-some e at)
above x (y ∷ es) zero e h at = ap (λ q. R x (unwrap_or q e).0) (sym at) ∙ is_less _ (and_parts _ _ h).0
above x (y ∷ es) (suc i) e h at = above x es i e (and_parts _ _ h).1 at

-- no other name before a place is the one there
none_before : (es : List Entry) (i : ℕ) (e : Entry) → is_sorted R es ≡ true → slice_get es i ≡ Some e → find R e.0 (filter_map other_entry (take i es)) ≡ None
none_before [] i e s at = absurd (none-some e at)
none_before (x ∷ es) zero e s at = refl
none_before (x ∷ es) (suc i) e s at = by (other_entry x) refl (none_before es i e (and_parts _ _ s).1 at)
  where
    greater : R e.0 x.0 ≡ Greater
    greater = nat_list_cmp_total.antisymm e.0 x.0 ∙ ap ordering_reverse (above x.0 es i e (and_parts _ _ s).0 at)

    by : (o : Option (List ℕ × Data)) → other_entry x ≡ o → find R e.0 (filter_map other_entry (take i es)) ≡ None → find R e.0 (cons_option o (filter_map other_entry (take i es))) ≡ None
    by None k rest = rest
    by (Some y) k rest = ap (λ n. cond (is_eq (R e.0 n)) (Some y.1) (find R e.0 (filter_map other_entry (take i es)))) (other_name x y k)
        ∙ (ap (λ r. cond (is_eq r) (Some y.1) (find R e.0 (filter_map other_entry (take i es)))) greater ∙ rest)

pushed : (es : List Entry) (e : Entry) → find R e.0 (filter_map other_entry es) ≡ None → with_entry (others_of es) (other_entry e) ≡ others_of (es ++ e ∷ [])
pushed es e none = by (other_entry e) refl ∙ ap (from_entries {R = R}) (sym (filter_map-append other_entry es (e ∷ [])))
  where
    by : (o : Option (List ℕ × Data)) → other_entry e ≡ o → with_entry (others_of es) o ≡ from_entries {R = R} (filter_map other_entry es ++ cons_option o [])
    by None k = ap (from_entries {R = R}) (sym (append-nil (filter_map other_entry es)))
    by (Some x) k =
        let fresh : find R x.0 (filter_map other_entry es) ≡ None = ap (λ n. find R n (filter_map other_entry es)) (other_name e x k) ∙ none in
        sym (from_entries_push nat_list_cmp_total (slice_cmp-IsAntisymmetric nat_cmp-IsAntisymmetric) (filter_map other_entry es) x.0 x.1 fresh)

pub is_true : (b : Bool) → T b → b ≡ true
is_true true h = refl
is_true false h = absurd h

text_back : (o : Option (List ℕ)) → text_of (text_cell o) ≡ o
text_back None = refl
text_back (Some text) = refl

pub others_more : (names : Names) (i : ℕ) (old new : Fields) (name : List ℕ) (value : Cell) → i < length (entries names) → IfSome (slice_get (entries names) i) (λ e. (e.0 ≡ name) × (text_cell e.1 ≡ value)) → new ≡ with_entry old (other_entry (name, text_of value)) → old ≡ others_of (take i (entries names)) → new ≡ others_of (take (i + 1) (entries names))
others_more names i old new name value within here step before = by (slice_get es i) refl here
  where
    es : List Entry
    es = entries names

    by : (o : Option Entry) → slice_get es i ≡ o → IfSome o (λ e. (e.0 ≡ name) × (text_cell e.1 ≡ value)) → new ≡ others_of (take (i + 1) es)
    by None at h = absurd (none-some _ (sym at ∙ slice_get-get_or es i (name, None) within))
    by (Some e) at h =
        step
        ∙ (ap (λ n. with_entry old (other_entry (n, text_of value))) (sym h.0)
        ∙ (ap (λ v. with_entry old (other_entry (e.0, v))) (ap text_of (sym h.1) ∙ text_back e.1)
        ∙ (ap (λ m. with_entry m (other_entry e)) before
        ∙ (pushed (take i es) e (none_before es i e (is_true _ (entries_sorted names)) at)
        ∙ ap others_of (sym (take_more es i e within ∙ ap (λ y. take i es ++ y ∷ []) (get_or_from_slice_get es i e e at)))))))

pub others_end : (es : List Entry) (i : ℕ) (fields : Fields) → length es ≤ i → fields ≡ others_of (take i es) → fields ≡ others_of es
others_end es i fields end at = at ∙ ap others_of (take_all i es end)
