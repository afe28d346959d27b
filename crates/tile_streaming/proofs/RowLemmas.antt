-- The marks of rows, one row or one page after the other.
use Rattle.tile_streaming.proofs.Common.{ap, append_assoc, cons_option, filter_map, filter_map-append, get_or, length, List, Option, sym, take, take_more, ℕ, [], ◌++◌, ◌+◌, ◌<◌, ◌∙◌, ◌∷◌, ◌≡◌}

-- one more element of a list, and what is given of it
pub one_more : {X Y : Type 0} (f : X → Option Y) (before now next : List Y) (xs : List X) (i : ℕ) (x : X) → i < length xs → x ≡ get_or xs i x → now ≡ before ++ filter_map f (take i xs) → next ≡ now ++ cons_option (f x) [] → next ≡ before ++ filter_map f (take (i + 1) xs)
one_more f before now next xs i x lt at was is =
    let ends : take i xs ++ x ∷ [] ≡ take (i + 1) xs = ap (λ y. take i xs ++ y ∷ []) at ∙ sym (take_more xs i x lt) in
    is ∙ (ap (λ l. l ++ cons_option (f x) []) was
    ∙ (append_assoc before (filter_map f (take i xs)) (cons_option (f x) [])
    ∙ ap (λ l. before ++ l) (sym (filter_map-append f (take i xs) (x ∷ [])) ∙ ap (filter_map f) ends)))
