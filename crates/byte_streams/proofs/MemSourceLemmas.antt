-- What a source in memory gives.
use Rattle.byte_streams.proofs.Common.{ap, arith, drop, length, length-append, List, min, sym, take, ℕ, [], ◌++◌, ◌+◌, ◌-◌, ◌<◌, ◌∙◌, ◌≡◌, ◌≤◌}
use Rattle.std.proofs.lemmas.List.{take-append-drop, length-take-le, length-drop, drop-drop}
use Rattle.std.proofs.Math.ListN.{drop_of_length-le}
use Rattle.std.proofs.Math.Seq.{take-append_seam}

-- the next bytes are put over the front of a buffer, as many as there are and fit
pub next_bytes : (bytes buffer piece : List ℕ) (p n : ℕ) → p ≤ length bytes → n ≡ min (length buffer) (length bytes - p) → length piece ≡ length (take n buffer) → piece ≡ take n (drop p bytes)
    → (n ≤ length (piece ++ drop n buffer)) × (drop p bytes ≡ take n (piece ++ drop n buffer) ++ drop (p + n) bytes) × (n ≡ 0 → 0 < length (piece ++ drop n buffer) → drop p bytes ≡ [])
next_bytes bytes buffer piece p n within least long is =
    let size : length piece ≡ n = long ∙ length-take-le n buffer (omega (arith, least)) in
    let front : take n (piece ++ drop n buffer) ≡ piece = ap (λ k. take k (piece ++ drop n buffer)) (sym size) ∙ take-append_seam piece (drop n buffer) in
    let whole : length (piece ++ drop n buffer) ≡ length buffer = omega (arith, length-append piece (drop n buffer), length-drop n buffer, size, least) in (
      omega (arith, whole, least),
      sym (take-append-drop n (drop p bytes)) ∙ ap (λ f. f ++ drop n (drop p bytes)) (sym is ∙ sym front) ∙ ap (λ r. take n (piece ++ drop n buffer) ++ r) (drop-drop n p bytes),
      λ none room. drop_of_length-le bytes (omega (arith, whole, least, none, room, within)),
    )
