-- Ranges of bytes that are laid one behind another.
use Rattle.pm_writer.proofs.Common.{ap, append_assoc, arith, content_between, flat_map, Has, length, length-append, List, place_in, range_at, range_of, Some, ℕ, ◌++◌, ◌+◌, ◌<◌, ◌^◌, ◌∙◌, ◌≡◌}

-- the range of a content in the data part
pub content_range : (b front : List ℕ) (cs : List (List ℕ)) (rest x : List ℕ) → b ≡ front ++ (flat_map (λ c. c) cs ++ rest) → length b < 2 ^ 64 → Has cs x → range_of b (length front + place_in cs x) (length x) ≡ Some x
content_range b front cs rest x e fits h =
    let r = content_between x cs h in
    let at : length front + place_in cs x ≡ length (front ++ r.before) = omega (arith, length-append front r.before, r.place) in
    let laid : b ≡ (front ++ r.before) ++ (x ++ (r.behind ++ rest)) = e ∙ (ap (λ z. front ++ (z ++ rest)) r.parts ∙ (simp append_assoc)) in
    ap (λ k. range_of b k (length x)) at ∙ range_at b (front ++ r.before) x (r.behind ++ rest) laid fits
