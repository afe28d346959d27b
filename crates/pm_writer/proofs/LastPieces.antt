-- The pieces that finish an archive, one after another.
use Rattle.pm_writer.proofs.Common.{ap, append-nil, arith, BothTold, drop, Err, finished, get_or, get_or-append, get_or-take, IfSome, inl, inr, IsHidden, IsHiddenOr, IsOpenTo, length, length-append}
use Rattle.pm_writer.proofs.Common.{length-take-le, List, Ok, OnOk, Option, refl, Result, set, subst, suc, sym, take, take-append-drop, written, WroteFront, zero, ℕ, [], ◌++◌, ◌+◌, ◌<◌, ◌∙◌, ◌∷◌, ◌≡◌}
use Rattle.pm_writer.proofs.Common.{◌≤◌}
use Rattle.pm_writer.proofs.MediumPieces.{both_then, both_with, hidden_behind, hidden_front, header_written, label_written, root_written, written_behind, zeroed_hidden}

-- the bytes with the root in front, and the leaves behind
abbrev pub rooted : List ℕ → List ℕ → List ℕ → List ℕ
rooted b leaves root = take 127 b ++ (root ++ (drop (127 + length root) b ++ leaves))

-- what stands after the leaves, and after the root
pub after_leaves : (end : ℕ) (leaves : List ℕ) (t0 t1 : Option (List ℕ)) → IfSome t0 (IsOpenTo end) → BothTold (λ b c. c ≡ written b end leaves) t0 t1
    → BothTold (λ b c. IsOpenTo end b × (c ≡ b ++ leaves)) t0 t1
after_leaves end leaves t0 t1 o h = both_with (IsOpenTo end) (λ b c. c ≡ written b end leaves) (λ b c. IsOpenTo end b × (c ≡ b ++ leaves)) t0 t1 (λ b c p e. (p, e ∙ written_behind b leaves end p.ends)) o h

pub after_root : (end : ℕ) (leaves root : List ℕ) (t0 t1 t2 : Option (List ℕ)) → 16384 ≤ end → length root ≤ 16257 → BothTold (λ b c. IsOpenTo end b × (c ≡ b ++ leaves)) t0 t1 → BothTold (λ b c. c ≡ written b 127 root) t1 t2
    → BothTold (λ b c. IsOpenTo end b × (c ≡ rooted b leaves root)) t0 t2
after_root end leaves root t0 t1 t2 long small h g =
    both_then (λ b c. IsOpenTo end b × (c ≡ b ++ leaves)) (λ b c. c ≡ written b 127 root) (λ b c. IsOpenTo end b × (c ≡ rooted b leaves root)) t0 t1 t2
    (λ b c d p e. (p.0, e ∙ (ap (λ z. written z 127 root) p.1 ∙ root_written b leaves root (omega (arith, long, p.0.ends)) small))) h g

pub after_header : (end : ℕ) (leaves root header : List ℕ) (t0 t2 t3 : Option (List ℕ)) → 16384 ≤ end → length header ≡ 127 → BothTold (λ b c. IsOpenTo end b × (c ≡ rooted b leaves root)) t0 t2 → BothTold (λ b c. c ≡ written b 0 header) t2 t3
    → BothTold (λ b c. c ≡ finished b leaves root header) t0 t3
after_header end leaves root header t0 t2 t3 long size h g =
    both_then (λ b c. IsOpenTo end b × (c ≡ rooted b leaves root)) (λ b c. c ≡ written b 0 header) (λ b c. c ≡ finished b leaves root header) t0 t2 t3
    (λ b c d p e. e ∙ (ap (λ z. written z 0 header) p.1 ∙ header_written header (take 127 b) (root ++ (drop (127 + length root) b ++ leaves)) size (length-take-le 127 b (omega (arith, long, p.0.ends))))) h g

pub after_label : (leaves root header : List ℕ) (t0 t3 t4 : Option (List ℕ)) → length header ≡ 127 → BothTold (λ b c. c ≡ finished b leaves root (set header 97 0)) t0 t3 → BothTold (λ b c. c ≡ written b 97 (get_or header 97 0 ∷ [])) t3 t4
    → BothTold (λ b c. c ≡ finished b leaves root header) t0 t4
after_label leaves root header t0 t3 t4 size h g =
    both_then (λ b c. c ≡ finished b leaves root (set header 97 0)) (λ b c. c ≡ written b 97 (get_or header 97 0 ∷ [])) (λ b c. c ≡ finished b leaves root header) t0 t3 t4
    (λ b c d p e. e ∙ (ap (λ z. written z 97 (get_or header 97 0 ∷ [])) p ∙ label_written header (root ++ (drop (127 + length root) b ++ leaves)) size)) h g

front_hidden : (b rest : List ℕ) → 97 < length b → IsHidden b → IsHidden (b ++ rest)
front_hidden b rest long h = get_or-append b rest 0 97 long ∙ h

pub stops_in_root : (end : ℕ) (whole : List ℕ → List ℕ) (leaves root : List ℕ) (t0 t1 t2 : Option (List ℕ)) → 16384 ≤ end → BothTold (λ b c. IsOpenTo end b × (c ≡ b ++ leaves)) t0 t1 → BothTold (WroteFront 127 root) t1 t2 → BothTold (λ b c. IsHiddenOr (whole b) c) t0 t2
stops_in_root end whole leaves root t0 t1 t2 long h g =
    both_then (λ b c. IsOpenTo end b × (c ≡ b ++ leaves)) (WroteFront 127 root) (λ b c. IsHiddenOr (whole b) c) t0 t1 t2
    (λ b c d p w. inl (subst IsHidden (sym w.2) (hidden_behind c (take w.0 root) 127 (omega arith) (omega (arith, long, p.0.ends, ap length p.1, length-append b leaves)) (subst IsHidden (sym p.1) (front_hidden b leaves (omega (arith, long, p.0.ends)) p.0.hidden))))) h g

pub stops_in_header : (end : ℕ) (whole : List ℕ → List ℕ) (leaves root header : List ℕ) (t0 t2 t3 : Option (List ℕ)) → 16384 ≤ end → length header ≡ 127 → BothTold (λ b c. IsOpenTo end b × (c ≡ rooted b leaves root)) t0 t2
    → BothTold (WroteFront 0 (set header 97 0)) t2 t3 → BothTold (λ b c. IsHiddenOr (whole b) c) t0 t3
stops_in_header end whole leaves root header t0 t2 t3 long size h g =
    both_then (λ b c. IsOpenTo end b × (c ≡ rooted b leaves root)) (WroteFront 0 (set header 97 0)) (λ b c. IsHiddenOr (whole b) c) t0 t2 t3
    (λ b c d p w.
    let zeroed : IsHidden (set header 97 0) = subst IsHidden (append-nil (set header 97 0)) (zeroed_hidden header [] size) in
    let front = length-take-le 127 b (omega (arith, long, p.0.ends)) in
    let old : IsHidden c = subst IsHidden (sym p.1) (front_hidden (take 127 b) (root ++ (drop (127 + length root) b ++ leaves)) (omega (arith, front)) (get_or-take 127 b 97 0 (omega arith) ∙ p.0.hidden)) in
    inl (subst IsHidden (sym w.2) (hidden_front (set header 97 0) c w.0 zeroed old w.1))) h g

nothing : (n : ℕ) → take {A = ℕ} n [] ≡ []
nothing zero = refl
nothing (suc n) = refl

pub stops_in_label : (leaves root header : List ℕ) (t0 t3 t4 : Option (List ℕ)) → length header ≡ 127 → BothTold (λ b c. c ≡ finished b leaves root (set header 97 0)) t0 t3 → BothTold (WroteFront 97 (get_or header 97 0 ∷ [])) t3 t4
    → BothTold (λ b c. IsHiddenOr (finished b leaves root header) c) t0 t4
stops_in_label leaves root header t0 t3 t4 size h g =
    both_then (λ b c. c ≡ finished b leaves root (set header 97 0)) (WroteFront 97 (get_or header 97 0 ∷ [])) (λ b c. IsHiddenOr (finished b leaves root header) c) t0 t3 t4
    (λ b c d p w. stop b c d p w.0 w.1 w.2) h g
  where
    stop : (b c d : List ℕ) → c ≡ finished b leaves root (set header 97 0) → (n : ℕ) → n ≤ length (get_or header 97 0 ∷ []) → d ≡ written c 97 (take n (get_or header 97 0 ∷ [])) → IsHiddenOr (finished b leaves root header) d
    stop b c d p zero w e = inl (subst IsHidden (sym (e ∙ (take-append-drop 97 c ∙ p))) (zeroed_hidden header (root ++ (drop (127 + length root) b ++ leaves)) size))
    stop b c d p (suc n) w e = inr (e ∙ (ap (λ z. written c 97 z) (ap (λ z. get_or header 97 0 ∷ z) (nothing n)) ∙ (ap (λ z. written z 97 (get_or header 97 0 ∷ [])) p ∙ label_written header (root ++ (drop (127 + length root) b ++ leaves)) size)))

pub on_ok_map : {A E : Type 0} (P Q : Type 0) (r : Result A E) → (P → Q) → OnOk r P → OnOk r Q
on_ok_map P Q (Ok x) f h = f h
on_ok_map P Q (Err e) f h = h
