-- The bytes after an archive is finished.
use Rattle.pm_writer.proofs.Common.{ap, append_assoc, archive, archive_bytes, arith, begun, BothTold, data_end, data_of, dir_bytes, drop, drop-append-le, drop-replicate, false, finished, has_failed}
use Rattle.pm_writer.proofs.Common.{header_bytes, header_of, ids_of, if_some_map, IfSome, inl, inr, IsHidden, IsHiddenOr, IsOpenTo, IsStateOf, leaf_part, length, List, Option, Options, OptionsFit}
use Rattle.pm_writer.proofs.Common.{parts_of, refl, replicate, rising, subst, sym, WriterState, Writes, zeros, ℕ, ◌++◌, ◌+◌, ◌-◌, ◌∙◌, ◌≡◌, ◌≤◌}
use Rattle.pm_writer.proofs.AddedBytes.{begun_length}
use Rattle.pm_writer.proofs.Beginning.{begun_hidden, zeros_length}
use Rattle.pm_writer.proofs.MediumPieces.{both_now}
use Rattle.pm_writer.proofs.Parts.{root_fits}

zeros_drop : (n k : ℕ) → drop k (zeros n) ≡ zeros (n - k)
unfolding zeros
zeros_drop n k = drop-replicate k n 0

zeros_is : (n : ℕ) → zeros n ≡ replicate n 0
unfolding zeros
zeros_is n = refl

-- behind the root the room is left
room_left : (o : Options) (adds : List (ℕ × List ℕ)) (n : ℕ) → n ≤ 16257 → drop (127 + n) (begun o adds) ≡ replicate (16257 - n) 0 ++ (o.metadata ++ data_of adds)
room_left o adds n small =
    drop-append-le (127 + n) (zeros 16384) (o.metadata ++ data_of adds) (let z = zeros_length 16384 in omega (arith, z, small))
    ∙ ap (λ z. z ++ (o.metadata ++ data_of adds)) (zeros_drop 16384 (127 + n) ∙ (ap zeros (let e : 16384 - (127 + n) ≡ 16257 - n = omega arith in e) ∙ zeros_is (16257 - n)))

pub finished_is : (o : Options) (adds : List (ℕ × List ℕ)) (b below root header : List ℕ) → OptionsFit o → b ≡ begun o adds → below ≡ leaf_part (parts_of o adds) → root ≡ dir_bytes (parts_of o adds).root → header ≡ header_bytes (header_of o (rising (ids_of adds)) (parts_of o adds))
    → finished b below root header ≡ archive o adds
unfolding archive archive_bytes
finished_is o adds b below root header f e l r h =
    let small : length root ≤ 16257 = omega (arith, root_fits o adds f, ap length r) in
    let front = header_bytes (header_of o (rising (ids_of adds)) (parts_of o adds)) in
    let p = dir_bytes (parts_of o adds).root in
    let rest : drop (127 + length root) b ≡ replicate (16257 - length p) 0 ++ (o.metadata ++ data_of adds) = ap (drop (127 + length root)) e ∙ (room_left o adds (length root) small ∙ ap (λ z. replicate (16257 - z) 0 ++ (o.metadata ++ data_of adds)) (ap length r)) in
    ap (λ z. z ++ (root ++ (drop (127 + length root) b ++ below))) h
    ∙ (ap (λ z. front ++ (z ++ (drop (127 + length root) b ++ below))) r
    ∙ (ap (λ z. front ++ (p ++ (z ++ below))) rest
    ∙ (ap (λ z. front ++ (p ++ ((replicate (16257 - length p) 0 ++ (o.metadata ++ data_of adds)) ++ z))) l
    ∙ joined front p (replicate (16257 - length p) 0) o.metadata (data_of adds) (leaf_part (parts_of o adds)))))
  where
    joined : (a b c d e f : List ℕ) → a ++ (b ++ ((c ++ (d ++ e)) ++ f)) ≡ (a ++ (b ++ c)) ++ (d ++ (e ++ f))
    joined a b c d e f = simp append_assoc

-- the bytes before the archive is finished end where its contents do
pub open_to : (o : Options) (adds : List (ℕ × List ℕ)) (told : Option (List ℕ)) (end : ℕ) → end ≡ data_end o adds → IfSome told (λ b. b ≡ begun o adds) → IfSome told (IsOpenTo end)
open_to o adds told end e h = if_some_map (λ b. b ≡ begun o adds) (IsOpenTo end) told (λ b q. record { ends = omega (arith, e, ap length q, begun_length o adds); hidden = subst IsHidden (sym q) (begun_hidden o adds) }) h

pub state_of : (o : Options) (told : Option (List ℕ)) (s : WriterState) (adds : List (ℕ × List ℕ)) → Writes o told s adds → has_failed s ≡ false → IsStateOf o s adds
state_of o told s adds w alive = let h = w.held alive in record { of = w.of; means = h.means; ends = h.ends }

pub whole_told : (o : Options) (adds : List (ℕ × List ℕ)) (t0 t1 : Option (List ℕ)) (below root header : List ℕ) → OptionsFit o → below ≡ leaf_part (parts_of o adds) → root ≡ dir_bytes (parts_of o adds).root → header ≡ header_bytes (header_of o (rising (ids_of adds)) (parts_of o adds))
    → IfSome t0 (λ b. b ≡ begun o adds) → BothTold (λ b c. c ≡ finished b below root header) t0 t1 → IfSome t1 (λ b. b ≡ archive o adds)
whole_told o adds t0 t1 below root header f l r h e g = both_now (λ b. b ≡ begun o adds) (λ b. b ≡ archive o adds) (λ b c. c ≡ finished b below root header) t0 t1 (λ b c p q. q ∙ finished_is o adds b below root header f p l r h) e g

pub shown_told : (o : Options) (adds : List (ℕ × List ℕ)) (t0 t1 : Option (List ℕ)) (below root header : List ℕ) → OptionsFit o → below ≡ leaf_part (parts_of o adds) → root ≡ dir_bytes (parts_of o adds).root → header ≡ header_bytes (header_of o (rising (ids_of adds)) (parts_of o adds))
    → IfSome t0 (λ b. b ≡ begun o adds) → BothTold (λ b c. IsHiddenOr (finished b below root header) c) t0 t1 → IfSome t1 (IsHiddenOr (archive o adds))
shown_told o adds t0 t1 below root header f l r h e g =
    both_now (λ b. b ≡ begun o adds) (IsHiddenOr (archive o adds)) (λ b c. IsHiddenOr (finished b below root header) c) t0 t1
    (λ b c p q. elim q [ inl hidden ↦ inl hidden | inr whole ↦ inr (whole ∙ finished_is o adds b below root header f p l r h) ]) e g
