-- The edits of entries of a document, one after another.
use Rattle.mb_metadata.proofs.Common.{ap, Data, data_text, get_or_from_slice_get, length, List, map, map-append, NameEdit, put_of, slice_get, Some, sym, take, take_all, take_more, ℕ, [], ◌++◌, ◌+◌}
use Rattle.mb_metadata.proofs.Common.{◌<◌, ◌∙◌, ◌∷◌, ◌≡◌, ◌≤◌}

abbrev Entry : Type 0
Entry = List ℕ × Data

abbrev edit_of : Entry → NameEdit
edit_of e = put_of e.0 (data_text e.1)

pub others_more : (es : List Entry) (i : ℕ) (old new : List NameEdit) (edit : NameEdit) (name text : List ℕ) (d : Data) → i < length es → slice_get es i ≡ Some (name, d) → text ≡ data_text d → edit ≡ put_of name text → new ≡ old ++ edit ∷ [] → old ≡ map (λ e. put_of e.0 (data_text e.1)) (take i es) → new ≡ map (λ e. put_of e.0 (data_text e.1)) (take (i + 1) es)
others_more es i old new edit name text d lt at said is step before =
    step
    ∙ (ap (λ x. old ++ x ∷ []) (is ∙ ap (put_of name) said)
    ∙ (ap (λ xs. xs ++ edit_of (name, d) ∷ []) before
    ∙ (sym (map-append edit_of (take i es) ((name, d) ∷ []))
    ∙ ap (map edit_of) (sym (take_more es i (name, d) lt ∙ ap (λ x. take i es ++ x ∷ []) (get_or_from_slice_get es i (name, d) (name, d) at))))))

pub others_end : (es : List Entry) (i : ℕ) (edits : List NameEdit) → length es ≤ i → edits ≡ map (λ e. put_of e.0 (data_text e.1)) (take i es) → edits ≡ map (λ e. put_of e.0 (data_text e.1)) es
others_end es i edits end h = h ∙ ap (map edit_of) (take_all i es end)
