-- A dump, written piece by piece.
use Rattle.tileset.proofs.Common.{ap, append-nil, append_assoc, arith, Bool, drop, drop_at, false, Gains, Gains-more, Gains-nil, GainsFront, hex_dump, IfSome, inl, inr, length, length-append}
use Rattle.tileset.proofs.Common.{length-drop, length-take-le, List, min, nat_le, nat_tests, None, Option, refl, Some, subst, sym, take, take-add, take-append-drop, take-append-le, take_all, take_at}
use Rattle.tileset.proofs.Common.{true, ℕ, [], ◌%◌, ◌++◌, ◌+◌, ◌-◌, ◌<◌, ◌∙◌, ◌≡◌, ◌≤◌, ◌⊎◌}
use Rattle.tileset.proofs.HexDumpLemmas.{hex_dump-append, hex_dump-none}

-- the lines of one more piece
piece_more : (b : List ℕ) (at size : ℕ) → at % 32 ≡ 0 → at + size ≤ length b → hex_dump 0 (take (at + size) b) ≡ hex_dump 0 (take at b) ++ hex_dump at (take size (drop at b))
piece_more b at size e h =
    let long : length (take at b) ≡ at = length-take-le at b (omega arith) in
    let aligned : length (take at b) % 32 ≡ 0 = ap (λ n. n % 32) long ∙ e in
    let place : 0 + length (take at b) ≡ at = omega arith in
    ap (hex_dump 0) (take-add at size b) ∙ (hex_dump-append 0 (take at b) (take size (drop at b)) aligned ∙ ap (λ n. hex_dump 0 (take at b) ++ hex_dump n (take size (drop at b))) place)

pub gains_piece : (first now next : Option (List ℕ)) (told : Option (List ℕ)) (at size n : ℕ) → IfSome told (λ b. n ≡ length b) → at % 32 ≡ 0 → at + size ≤ n
    → IfSome told (λ b. Gains first now (hex_dump 0 (take at b))) → IfSome told (λ b. Gains now next (hex_dump at (take size (drop at b)))) → IfSome told (λ b. Gains first next (hex_dump 0 (take (at + size) b)))
gains_piece first now next None at size n l e h p q = tt
gains_piece first now next (Some b) at size n l e h p q =
    subst (Gains first next) (sym (piece_more b at size e (omega arith))) (Gains-more first now next (hex_dump 0 (take at b)) (hex_dump at (take size (drop at b))) p q)

-- a front of what follows a front
pub front_more : (a b c : Option (List ℕ)) (x y : List ℕ) → Gains a b x → GainsFront b c y → GainsFront a c (x ++ y)
front_more a b c x y p q =
    let cut : x ++ take q.0 y ≡ take (length x + q.0) (x ++ y) = ap (λ f. f ++ take q.0 y) (sym (take_at x y (length x) refl)) ∙ (ap (λ r. take (length x) (x ++ y) ++ take q.0 r) (sym (drop_at x y (length x) refl)) ∙ sym (take-add (length x) q.0 (x ++ y))) in
    (length x + q.0, omega (arith, length-append x y, q.1), subst (Gains a c) cut (Gains-more a b c x (take q.0 y) p q.2))

pub front_longer : (a b : Option (List ℕ)) (x y : List ℕ) → GainsFront a b x → GainsFront a b (x ++ y)
front_longer a b x y p = (p.0, omega (arith, length-append x y, p.1), subst (Gains a b) (sym (take-append-le p.0 x y p.1)) p.2)

-- what follows a piece
piece_then : (b : List ℕ) (at size : ℕ) → ((size % 32 ≡ 0) ⊎ (at + size ≡ length b)) → at + size ≤ length b → (z : List ℕ) × (hex_dump at (drop at b) ≡ hex_dump at (take size (drop at b)) ++ z)
piece_then b at size (inl even) h =
    let d = drop at b in
    let left : length d ≡ length b - at = length-drop at b in
    let long : length (take size d) ≡ size = length-take-le size d (omega arith) in
    let aligned : length (take size d) % 32 ≡ 0 = ap (λ n. n % 32) long ∙ even in
    (hex_dump (at + length (take size d)) (drop size d), ap (hex_dump at) (sym (take-append-drop size d)) ∙ hex_dump-append at (take size d) (drop size d) aligned)
piece_then b at size (inr last) h =
    let d = drop at b in
    let left : length d ≡ length b - at = length-drop at b in
    ([], ap (hex_dump at) (sym (take_all size d (omega arith))) ∙ sym (append-nil (hex_dump at (take size d))))

-- a piece is a whole number of lines, or the last one
size_or : (m : ℕ) → ((min m 16384) % 32 ≡ 0) ⊎ (min m 16384 ≡ m)
size_or m = go (nat_le m 16384) refl
  where
    go : (b : Bool) → nat_le m 16384 ≡ b → ((min m 16384) % 32 ≡ 0) ⊎ (min m 16384 ≡ m)
    go true e = inr (grind (arith, nat_tests))
    go false e = let whole : min m 16384 ≡ 16384 = grind (arith, nat_tests) in inl (ap (λ n. n % 32) whole)

last_or : (n at size : ℕ) → at < n → size ≡ min (n - at) 16384 → ((size % 32 ≡ 0) ⊎ (at + size ≡ n))
last_or n at size h s = go (size_or (n - at))
  where
    go : ((min (n - at) 16384) % 32 ≡ 0) ⊎ (min (n - at) 16384 ≡ n - at) → ((size % 32 ≡ 0) ⊎ (at + size ≡ n))
    go (inl e) = inl (ap (λ x. x % 32) s ∙ e)
    go (inr e) = inr (omega arith)

pub front_piece : (first now next : Option (List ℕ)) (told : Option (List ℕ)) (at size n : ℕ) → IfSome told (λ b. n ≡ length b) → at % 32 ≡ 0 → at < n → size ≡ min (n - at) 16384
    → IfSome told (λ b. Gains first now (hex_dump 0 (take at b))) → IfSome told (λ b. GainsFront now next (hex_dump at (take size (drop at b)))) → IfSome told (λ b. GainsFront first next (hex_dump 0 b))
front_piece first now next None at size n l e h s p q = tt
front_piece first now next (Some b) at size n l e h s p q =
    let low : at + size ≤ length b = omega arith in
    let z = piece_then b at size (last_or (length b) at size (omega arith) (s ∙ ap (λ x. min (x - at) 16384) l)) low in
    let long : length (take at b) ≡ at = length-take-le at b (omega arith) in
    let aligned : length (take at b) % 32 ≡ 0 = ap (λ x. x % 32) long ∙ e in
    let place : 0 + length (take at b) ≡ at = omega arith in
    let whole : hex_dump 0 b ≡ hex_dump 0 (take at b) ++ hex_dump at (drop at b) = ap (hex_dump 0) (sym (take-append-drop at b)) ∙ (hex_dump-append 0 (take at b) (drop at b) aligned ∙ ap (λ x. hex_dump 0 (take at b) ++ hex_dump x (drop at b)) place) in
    let parts : hex_dump 0 b ≡ (hex_dump 0 (take at b) ++ hex_dump at (take size (drop at b))) ++ z.0 = whole ∙ (ap (λ x. hex_dump 0 (take at b) ++ x) z.1 ∙ sym (append_assoc (hex_dump 0 (take at b)) (hex_dump at (take size (drop at b))) z.0)) in
    subst (GainsFront first next) (sym parts) (front_longer first next (hex_dump 0 (take at b) ++ hex_dump at (take size (drop at b))) z.0 (front_more first now next (hex_dump 0 (take at b)) (hex_dump at (take size (drop at b))) p q))

pub gains_start : (held : Option (List ℕ)) (told : Option (List ℕ)) → IfSome told (λ b. Gains held held (hex_dump 0 (take 0 b)))
gains_start held None = tt
gains_start held (Some b) = subst (Gains held held) (sym (hex_dump-none 0 [] (omega arith))) (Gains-nil held)

pub moved : (t u : Option (List ℕ)) (P : List ℕ → Type 0) → u ≡ t → IfSome u P → IfSome t P
moved t u P e p = subst (λ x. IfSome x P) e p

-- all lines are a front of them
pub front_all : (first now : Option (List ℕ)) (told : Option (List ℕ)) (at n : ℕ) → IfSome told (λ b. n ≡ length b) → n ≤ at → IfSome told (λ b. Gains first now (hex_dump 0 (take at b))) → IfSome told (λ b. GainsFront first now (hex_dump 0 b))
front_all first now None at n l e h = tt
front_all first now (Some b) at n l e h =
    let whole : hex_dump 0 (take at b) ≡ hex_dump 0 b = ap (hex_dump 0) (take_all at b (omega arith)) in
    (length (hex_dump 0 b), omega arith, subst (Gains first now) (whole ∙ sym (take_all (length (hex_dump 0 b)) (hex_dump 0 b) (omega arith))) h)
