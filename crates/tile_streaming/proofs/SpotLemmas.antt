-- Spots and the marks at them.
use Rattle.tile_streaming.proofs.Common.{All, All-cons, All-get_or, All-nil, ap, append_assoc, arith, get_or, IsNonDecreasingBy, IsPermutation, IsPermutation-map, length, length-append, length-map, List, Mark, refl, subst, suc, sym, take, take_more, ℕ, [], ◌++◌, ◌+◌, ◌<◌, ◌∙◌, ◌∷◌, ◌≡◌, ◌≤◌}
use Rattle.std.proofs.Common.{◌-◌}
use Rattle.std.proofs.lemmas.List.{get_or-append_right, get_or-map, length-take-le}
use Rattle.std.proofs.lemmas.List.Sorted.{All-permutation}
use Rattle.tile_streaming.specs.Finding.{place_with}
use Rattle.tile_streaming.specs.Spots.{AreSpots, mark_at, marks_at, no_mark, rank, spots_from}
use Rattle.tile_streaming.specs.declared.spots.Spot.{Spot}

-- one more spot
pub spots_more : (i : ℕ) (marks : List Mark) (m : Mark) → spots_from i (marks ++ m ∷ []) ≡ spots_from i marks ++ record { rank = rank (place_with m.id); index = i + length marks } ∷ []
spots_more i [] m = ap (λ n. record { rank = rank (place_with m.id); index = n } ∷ []) (omega arith)
spots_more i (n ∷ marks) m =
    let rest = spots_more (suc i) marks m in
    let at : suc i + length marks ≡ i + suc (length marks) = omega arith in
    ap (λ l. record { rank = rank (place_with n.id); index = i } ∷ l) (rest ∙ ap (λ k. spots_from (suc i) marks ++ record { rank = rank (place_with m.id); index = k } ∷ []) at)

spots_long : (i : ℕ) (marks : List Mark) → length (spots_from i marks) ≡ length marks
spots_long i [] = refl
spots_long i (m ∷ marks) = ap suc (spots_long (suc i) marks)

-- a spot's index is one of the marks'
spots_within : (n i : ℕ) (marks : List Mark) → i + length marks ≤ n → All (λ s. s.index < n) (spots_from i marks)
spots_within n i [] h = All-nil (λ s. s.index < n)
spots_within n i (m ∷ marks) h = All-cons (λ (s : Spot). s.index < n) (record { rank = rank (place_with m.id); index = i }) (spots_from (suc i) marks) (omega (arith, h)) (spots_within n (suc i) marks (omega (arith, h)))

-- and its mark is the one there
here : (front : List Mark) (m : Mark) (marks : List Mark) (r : ℕ) → mark_at (front ++ m ∷ marks) (record { rank = r; index = length front }) ≡ m
here front m marks r =
    let at : length front - length front ≡ 0 = omega arith in
    get_or-append_right front (m ∷ marks) (length front) (length front) no_mark refl (omega arith) ∙ ap (λ i. get_or (m ∷ marks) i no_mark) at

moved : (front : List Mark) (m : Mark) (marks : List Mark) → (front ++ m ∷ []) ++ marks ≡ front ++ m ∷ marks
moved front m marks = append_assoc front (m ∷ []) marks

marks_back : (front marks : List Mark) → marks_at (front ++ marks) (spots_from (length front) marks) ≡ marks
marks_back front [] = refl
marks_back front (m ∷ marks) =
    let rest = marks_back (front ++ m ∷ []) marks in
    let count : length (front ++ m ∷ []) ≡ suc (length front) = length-append front (m ∷ []) ∙ omega arith in
    let tail : marks_at (front ++ m ∷ marks) (spots_from (suc (length front)) marks) ≡ marks = sym (ap (λ l. marks_at l (spots_from (suc (length front)) marks)) (moved front m marks)) ∙ (sym (ap (λ n. marks_at ((front ++ m ∷ []) ++ marks) (spots_from n marks)) count) ∙ rest) in
    λ i. here front m marks (rank (place_with m.id)) i ∷ tail i

-- a spot's number is that of its mark
abbrev IsRanked : List Mark → Spot → Type 0
IsRanked marks s = s.rank ≡ rank (place_with (mark_at marks s).id)

spots_ranked : (front marks : List Mark) → All (IsRanked (front ++ marks)) (spots_from (length front) marks)
spots_ranked front [] = All-nil (IsRanked (front ++ []))
spots_ranked front (m ∷ marks) =
    let count : length (front ++ m ∷ []) ≡ suc (length front) = length-append front (m ∷ []) ∙ omega arith in
    let rest = subst (λ n. All (IsRanked ((front ++ m ∷ []) ++ marks)) (spots_from n marks)) count (spots_ranked (front ++ m ∷ []) marks) in
    All-cons (IsRanked (front ++ m ∷ marks)) (record { rank = rank (place_with m.id); index = length front }) (spots_from (suc (length front)) marks)
    (ap (λ (k : Mark). rank (place_with k.id)) (sym (here front m marks (rank (place_with m.id)))))
    (subst (λ l. All (IsRanked l) (spots_from (suc (length front)) marks)) (moved front m marks) rest)

-- the spots of one mark more
pub next_spot : (marks : List Mark) (i r : ℕ) (d : Mark) (old new : List Spot) → i < length marks → r ≡ rank (place_with (get_or marks i d).id) → old ≡ spots_from 0 (take i marks) → new ≡ old ++ record { rank = r; index = i } ∷ [] → new ≡ spots_from 0 (take (i + 1) marks)
next_spot marks i r d old new far ranked before pushed =
    let m = get_or marks i d in
    let long : i ≡ 0 + length (take i marks) = omega (arith, length-take-le i marks (omega (arith, far))) in
    pushed
    ∙ ap (λ l. l ++ record { rank = r; index = i } ∷ []) before
    ∙ ap (λ n. spots_from 0 (take i marks) ++ record { rank = n; index = i } ∷ []) ranked
    ∙ ap (λ k. spots_from 0 (take i marks) ++ record { rank = rank (place_with m.id); index = k } ∷ []) long
    ∙ sym (spots_more 0 (take i marks) m)
    ∙ ap (spots_from 0) (sym (take_more marks i d far))

module _ (marks : List Mark) (spots : List Spot) (are : AreSpots marks spots) where
  pub all_within : All (λ s. s.index < length marks) spots
  all_within = All-permutation (λ (s : Spot). s.index < length marks) (spots_from 0 marks) spots are.same (spots_within (length marks) 0 marks (omega arith))

  -- the marks at spots are all marks
  pub all_marks : IsPermutation marks (marks_at marks spots)
  all_marks = subst (λ l. IsPermutation l (marks_at marks spots)) (marks_back [] marks) (IsPermutation-map (mark_at marks) (spots_from 0 marks) spots are.same)

  ranked : All (IsRanked marks) spots
  ranked = All-permutation (IsRanked marks) (spots_from 0 marks) spots are.same (spots_ranked [] marks)

  -- in the order of the numbers of their places
  pub ranks_rise : IsNonDecreasingBy (λ m. rank (place_with m.id)) (marks_at marks spots)
  ranks_rise i j d least far =
      let long : length (marks_at marks spots) ≡ length spots = length-map spots (mark_at marks) in
      let e : Spot = record { rank = 0; index = 0 } in
      let before : i < length spots = omega (arith, least, far, long) in
      let behind : j < length spots = omega (arith, far, long) in
      let low = at i d e before in
      let high = at j d e behind in
      omega (arith, are.rising i j e least behind, low, high)
    where
      at : (k : ℕ) (d : Mark) (e : Spot) → k < length spots → rank (place_with (get_or (marks_at marks spots) k d).id) ≡ (get_or spots k e).rank
      at k d e within =
          let same : get_or (marks_at marks spots) k d ≡ mark_at marks (get_or spots k e) = get_or-map (mark_at marks) spots k e d within in
          ap (λ (m : Mark). rank (place_with m.id)) same ∙ sym (All-get_or (IsRanked marks) spots k e within ranked)
