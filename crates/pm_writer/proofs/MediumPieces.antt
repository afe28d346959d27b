-- Pieces written one after another, where the bytes are told.
use Rattle.pm_writer.proofs.Runs.{le_or}
use Rattle.pm_writer.proofs.Common.{ap, append-nil, append_assoc, arith, BothTold, drop, drop-append-le, drop-set-lt, drop_all, drop_at, drop_more, get_or, get_or-append, get_or-append_right}
use Rattle.pm_writer.proofs.Common.{get_or-drop, get_or-set_same, get_or-take, IfSome, inl, inr, is_some, IsHidden, length, length-set, length-take-le, List, None, Ok, Option, refl, set, Some, sym}
use Rattle.pm_writer.proofs.Common.{take, take-append-drop, take-append-le, take-set-le, take_all, WriteLeaves, written, WroteFront, ℕ, [], ◌++◌, ◌+◌, ◌-◌, ◌<◌, ◌∙◌, ◌∷◌, ◌≡◌, ◌≤◌}

pub both_map : (R S : List ℕ → List ℕ → Type 0) (old new : Option (List ℕ)) → ((b c : List ℕ) → R b c → S b c) → BothTold R old new → BothTold S old new
both_map R S None None f h = h
both_map R S None (Some c) f h = absurd h
both_map R S (Some b) None f h = absurd h
both_map R S (Some b) (Some c) f h = f b c h

pub both_then : (R S T : List ℕ → List ℕ → Type 0) (old mid new : Option (List ℕ)) → ((b c d : List ℕ) → R b c → S c d → T b d) → BothTold R old mid → BothTold S mid new → BothTold T old new
both_then R S T None None None f h g = g
both_then R S T None None (Some d) f h g = absurd g
both_then R S T None (Some c) new f h g = absurd h
both_then R S T (Some b) None new f h g = absurd h
both_then R S T (Some b) (Some c) None f h g = absurd g
both_then R S T (Some b) (Some c) (Some d) f h g = f b c d h g

pub both_with : (P : List ℕ → Type 0) (R S : List ℕ → List ℕ → Type 0) (old new : Option (List ℕ)) → ((b c : List ℕ) → P b → R b c → S b c) → IfSome old P → BothTold R old new → BothTold S old new
both_with P R S None None f p h = h
both_with P R S None (Some c) f p h = absurd h
both_with P R S (Some b) None f p h = absurd h
both_with P R S (Some b) (Some c) f p h = f b c p h

pub both_now : (P Q : List ℕ → Type 0) (R : List ℕ → List ℕ → Type 0) (old new : Option (List ℕ)) → ((b c : List ℕ) → P b → R b c → Q c) → IfSome old P → BothTold R old new → IfSome new Q
both_now P Q R None None f p h = tt
both_now P Q R None (Some c) f p h = absurd h
both_now P Q R (Some b) None f p h = absurd h
both_now P Q R (Some b) (Some c) f p h = f b c p h

pub both_tell : (R : List ℕ → List ℕ → Type 0) (old new : Option (List ℕ)) → BothTold R old new → is_some new ≡ is_some old
both_tell R None None h = refl
both_tell R None (Some c) h = absurd h
both_tell R (Some b) None h = absurd h
both_tell R (Some b) (Some c) h = refl

-- all of a piece is a front of it
pub wrote_all : (at : ℕ) (piece b c : List ℕ) → c ≡ written b at piece → WroteFront at piece b c
wrote_all at piece b c e = (length piece, omega arith, e ∙ ap (written b at) (sym (take_all (length piece) piece (omega arith))))

-- what a write leaves, by its answer
pub wrote_it : (at : ℕ) (piece : List ℕ) (u : Unit {0}) (old new : Option (List ℕ)) → WriteLeaves at piece (Ok u) old new → BothTold (λ b c. c ≡ written b at piece) old new
wrote_it at piece u None None h = tt
wrote_it at piece u None (Some c) h = absurd h
wrote_it at piece u (Some b) None h = absurd h
wrote_it at piece u (Some b) (Some c) h = h

pub wrote_by : (at : ℕ) (piece : List ℕ) (u : Unit {0}) (old new : Option (List ℕ)) → WriteLeaves at piece (Ok u) old new → BothTold (WroteFront at piece) old new
wrote_by at piece u old new h = both_map (λ b c. c ≡ written b at piece) (WroteFront at piece) old new (λ b c e. wrote_all at piece b c e) (wrote_it at piece u old new h)

-- a piece behind the bytes
pub written_behind : (b piece : List ℕ) (at : ℕ) → length b ≡ at → written b at piece ≡ b ++ piece
written_behind b piece at e =
    let front : take at b ≡ b = take_all at b (omega (arith, e)) in
    let none : drop (at + length piece) b ≡ [] = drop_all (at + length piece) b (omega (arith, e)) in
    rw (front, none) (ap (λ z. b ++ z) (append-nil piece))

-- a byte before a piece stays
pub byte_before : (b piece : List ℕ) (at k : ℕ) → k < at → at ≤ length b → get_or (written b at piece) k 0 ≡ get_or b k 0
byte_before b piece at k h w =
    get_or-append (take at b) (piece ++ drop (at + length piece) b) 0 k (omega (arith, h, w, length-take-le at b w)) ∙ get_or-take at b k 0 h

pub hidden_behind : (b piece : List ℕ) (at : ℕ) → 97 < at → at ≤ length b → IsHidden b → IsHidden (written b at piece)
hidden_behind b piece at h w hidden = byte_before b piece at 97 h w ∙ hidden

-- a front of a header whose label isn't written
pub hidden_front : (header b : List ℕ) (n : ℕ) → IsHidden header → IsHidden b → n ≤ length header → IsHidden (written b 0 (take n header))
hidden_front header b n h hidden w = elim (le_or n 97) [
  | inl low ↦
      let place : n + (97 - n) ≡ 97 = omega (arith, low) in
      let end : 0 + length (take n header) ≡ n = omega (arith, length-take-le n header w) in
      get_or-append_right (take n header) (drop (0 + length (take n header)) b) n 97 0 (length-take-le n header w) low
      ∙ (ap (λ k. get_or (drop k b) (97 - n) 0) end ∙ (get_or-drop n b (97 - n) 0 ∙ (ap (λ k. get_or b k 0) place ∙ hidden)))
  | inr high ↦
      get_or-append (take n header) (drop (0 + length (take n header)) b) 0 97 (omega (arith, high, length-take-le n header w)) ∙ (get_or-take n header 97 0 high ∙ h)
]

-- the root in front of what follows
pub root_written : (b leaves root : List ℕ) → 16384 ≤ length b → length root ≤ 16257
    → written (b ++ leaves) 127 root ≡ take 127 b ++ (root ++ (drop (127 + length root) b ++ leaves))
root_written b leaves root long small =
    let front : take 127 (b ++ leaves) ≡ take 127 b = take-append-le 127 b leaves (omega (arith, long)) in
    let rest : drop (127 + length root) (b ++ leaves) ≡ drop (127 + length root) b ++ leaves = drop-append-le (127 + length root) b leaves (omega (arith, long, small)) in
    rw (front, rest) refl

-- the header in front
pub header_written : (header front rest : List ℕ) → length header ≡ 127 → length front ≡ 127 → written (front ++ rest) 0 header ≡ header ++ rest
header_written header front rest h f =
    let end : 0 + length header ≡ length front = omega (arith, h, f) in
    let behind : drop (0 + length header) (front ++ rest) ≡ rest = ap (λ k. drop k (front ++ rest)) end ∙ drop_at front rest (length front) refl in
    ap (λ z. header ++ z) behind

split_at_label : (header : List ℕ) → length header ≡ 127 → take 97 header ++ get_or header 97 0 ∷ drop 98 header ≡ header
split_at_label header h = ap (λ z. take 97 header ++ z) (sym (drop_more header 97 0 (omega (arith, h)))) ∙ take-append-drop 97 header

-- the label in its place
pub label_written : (header rest : List ℕ) → length header ≡ 127 → written (set header 97 0 ++ rest) 97 (get_or header 97 0 ∷ []) ≡ header ++ rest
label_written header rest h =
    let zeroed = set header 97 0 in
    let size : length zeroed ≡ 127 = length-set header 97 0 ∙ h in
    let front : take 97 (zeroed ++ rest) ≡ take 97 header = take-append-le 97 zeroed rest (omega (arith, size)) ∙ take-set-le 97 header 97 0 (omega arith) in
    let behind : drop (97 + 1) (zeroed ++ rest) ≡ drop 98 header ++ rest = drop-append-le 98 zeroed rest (omega (arith, size)) ∙ ap (λ z. z ++ rest) (drop-set-lt 98 header 97 0 (omega arith)) in
    rw (front, behind) (sym (append_assoc (take 97 header) (get_or header 97 0 ∷ []) (drop 98 header ++ rest)) ∙ (ap (λ z. z) (label_joined header rest) ∙ ap (λ z. z ++ rest) (split_at_label header h)))
  where
    label_joined : (header rest : List ℕ) → (take 97 header ++ get_or header 97 0 ∷ []) ++ (drop 98 header ++ rest) ≡ (take 97 header ++ get_or header 97 0 ∷ drop 98 header) ++ rest
    label_joined header rest = simp append_assoc

pub zeroed_hidden : (header rest : List ℕ) → length header ≡ 127 → IsHidden (set header 97 0 ++ rest)
zeroed_hidden header rest h =
    get_or-append (set header 97 0) rest 0 97 (omega (arith, h, length-set header 97 0)) ∙ get_or-set_same header 97 0 0 (omega (arith, h))
