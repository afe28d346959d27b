-- The first pieces of an archive on an empty medium.
use Rattle.pm_writer.proofs.Common.{ap, append-nil, arith, begun, BothTold, data_of, get_or, get_or-append, get_or-replicate, if_some_map, IfSome, inl, inr, IsHidden, IsWithin, length}
use Rattle.pm_writer.proofs.Common.{length-replicate, List, Option, Options, refl, subst, suc, sym, take, written, WroteFront, zero, zeros, ℕ, [], ◌++◌, ◌∙◌, ◌∷◌, ◌≡◌, ◌≤◌}
use Rattle.pm_writer.proofs.MediumPieces.{both_now, hidden_behind, hidden_front, written_behind}
use Rattle.pm_writer.proofs.Runs.{le_or}

pub zeros_length : (n : ℕ) → length (zeros n) ≡ n
unfolding zeros
zeros_length n = length-replicate n 0

get_or_past : (xs : List ℕ) (i : ℕ) → length xs ≤ i → get_or xs i 0 ≡ 0
get_or_past [] i h = refl
get_or_past (x ∷ xs) zero h = absurd (omega (arith, h))
get_or_past (x ∷ xs) (suc i) h = get_or_past xs i (omega (arith, h))

pub zeros_are : (n i : ℕ) → get_or (zeros n) i 0 ≡ 0
unfolding zeros
zeros_are n i = elim (le_or n i) [
  | inl past ↦ get_or_past (zeros n) i (omega (arith, past, zeros_length n))
  | inr within ↦ get_or-replicate n i 0 0 within
]

-- the room for the header and the root
pub room_written : (room : List ℕ) (t0 t1 : Option (List ℕ)) → IfSome t0 (λ b. b ≡ []) → BothTold (λ b c. c ≡ written b 0 room) t0 t1 → IfSome t1 (λ b. b ≡ room)
room_written room t0 t1 e h = both_now (λ b. b ≡ []) (λ b. b ≡ room) (λ b c. c ≡ written b 0 room) t0 t1 (λ b c p q. q ∙ (ap (λ z. written z 0 room) p ∙ written_behind [] room 0 refl)) e h

pub room_hidden : (n : ℕ) (room : List ℕ) (t0 t1 : Option (List ℕ)) → room ≡ zeros n → IfSome t0 (λ b. b ≡ []) → BothTold (WroteFront 0 room) t0 t1 → IfSome t1 IsHidden
room_hidden n room t0 t1 z e h =
    both_now (λ b. b ≡ []) IsHidden (WroteFront 0 room) t0 t1
    (λ b c p w. subst IsHidden (sym w.2) (hidden_front room b w.0 (ap (λ y. get_or y 97 0) z ∙ zeros_are n 97) (subst IsHidden (sym p) refl) w.1)) e h

pub room_enough : (room : List ℕ) (t1 : Option (List ℕ)) → room ≡ zeros 16384 → IfSome t1 (λ b. b ≡ room) → IfSome t1 (IsWithin 16384)
room_enough room t1 z h = if_some_map (λ b. b ≡ room) (IsWithin 16384) t1 (λ b p. (let n = zeros_length 16384 in omega (arith, ap length p, ap length z, n))) h

-- the metadata behind it
pub metadata_written : (o : Options) (room metadata : List ℕ) (t1 t2 : Option (List ℕ)) → room ≡ zeros 16384 → metadata ≡ o.metadata → IfSome t1 (λ b. b ≡ room) → BothTold (λ b c. c ≡ written b 16384 metadata) t1 t2 → IfSome t2 (λ b. b ≡ begun o [])
metadata_written o room metadata t1 t2 z m h g =
    both_now (λ b. b ≡ room) (λ b. b ≡ begun o []) (λ b c. c ≡ written b 16384 metadata) t1 t2
    (λ b c p q. q ∙ (written_behind b metadata 16384 (let n = zeros_length 16384 in omega (arith, ap length p, ap length z, n)) ∙ (ap (λ y. y ++ metadata) (p ∙ z) ∙ (ap (λ y. zeros 16384 ++ y) (m ∙ sym (append-nil o.metadata)))))) h g

pub metadata_hidden : (room metadata : List ℕ) (t1 t2 : Option (List ℕ)) → room ≡ zeros 16384 → IfSome t1 (λ b. b ≡ room) → BothTold (WroteFront 16384 metadata) t1 t2 → IfSome t2 IsHidden
metadata_hidden room metadata t1 t2 z h g =
    both_now (λ b. b ≡ room) IsHidden (WroteFront 16384 metadata) t1 t2
    (λ b c p w. subst IsHidden (sym w.2) (hidden_behind b (take w.0 metadata) 16384 (omega arith) (let n = zeros_length 16384 in omega (arith, ap length p, ap length z, n)) (ap (λ y. get_or y 97 0) (p ∙ z) ∙ zeros_are 16384 97))) h g

-- what is begun is hidden
pub begun_hidden : (o : Options) (adds : List (ℕ × List ℕ)) → IsHidden (begun o adds)
begun_hidden o adds = get_or-append (zeros 16384) (o.metadata ++ data_of adds) 0 97 (let n = zeros_length 16384 in omega (arith, n)) ∙ zeros_are 16384 97

pub begun_is_hidden : (o : Options) (adds : List (ℕ × List ℕ)) (told : Option (List ℕ)) → IfSome told (λ b. b ≡ begun o adds) → IfSome told IsHidden
begun_is_hidden o adds told h = if_some_map (λ b. b ≡ begun o adds) IsHidden told (λ b e. subst IsHidden (sym e) (begun_hidden o adds)) h
