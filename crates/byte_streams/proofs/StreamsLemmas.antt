-- one read or write after another
use Rattle.byte_streams.proofs.Common.{ap, append-nil, append_assoc, arith, drop, Gains, Grew, IfSome, is_some, IsAtEnd, length, length-append, List, Loses, None, refl, Some, subst, sym, take}
use Rattle.byte_streams.proofs.Common.{take-add, ℕ, [], ◌++◌, ◌+◌, ◌-◌, ◌∙◌, ◌≡◌, ◌≤◌}
use Rattle.std.proofs.lemmas.Slice.{between_to_end}
use Rattle.std.specs.declared.option.Option.{Option}

pub Loses-nil : (a : Option (List ℕ)) → Loses a a []
Loses-nil None = tt
Loses-nil (Some x) = refl

pub Loses-more : (a b c : Option (List ℕ)) (xs ys : List ℕ) → Loses a b xs → Loses b c ys → Loses a c (xs ++ ys)
Loses-more None None None xs ys p q = tt
Loses-more None None (Some z) xs ys p q = absurd q
Loses-more None (Some y) c xs ys p q = absurd p
Loses-more (Some x) None c xs ys p q = absurd p
Loses-more (Some x) (Some y) None xs ys p q = absurd q
Loses-more (Some x) (Some y) (Some z) xs ys p q = p ∙ ap (λ l. xs ++ l) q ∙ sym (append_assoc xs ys z)

-- a read that took nothing, at the end
pub Loses-end : (a b c : Option (List ℕ)) (xs : List ℕ) → Loses a b xs → Loses b c [] → Loses a c xs
Loses-end a b c xs p q = subst (Loses a c) (append-nil xs) (Loses-more a b c xs [] p q)

pub IsAtEnd-kept : (b c : Option (List ℕ)) → Loses b c [] → IsAtEnd b → IsAtEnd c
IsAtEnd-kept None None p q = tt
IsAtEnd-kept None (Some z) p q = absurd p
IsAtEnd-kept (Some y) None p q = absurd p
IsAtEnd-kept (Some y) (Some z) p q = sym p ∙ q

-- what was lost is no longer than what was left
pub Loses-length : (a b : Option (List ℕ)) (xs : List ℕ) (n : ℕ) → Loses a b xs → n ≤ length xs → IfSome a (λ left. n ≤ length left)
Loses-length None b xs n p q = tt
Loses-length (Some x) None xs n p q = absurd p
Loses-length (Some x) (Some y) xs n p q = omega (arith, ap length p, length-append xs y)

pub Gains-nil : (a : Option (List ℕ)) → Gains a a []
Gains-nil None = tt
Gains-nil (Some x) = sym (append-nil x)

pub Gains-more : (a b c : Option (List ℕ)) (xs ys : List ℕ) → Gains a b xs → Gains b c ys → Gains a c (xs ++ ys)
Gains-more None None None xs ys p q = tt
Gains-more None None (Some z) xs ys p q = absurd q
Gains-more None (Some y) c xs ys p q = absurd p
Gains-more (Some x) None c xs ys p q = absurd p
Gains-more (Some x) (Some y) None xs ys p q = absurd q
Gains-more (Some x) (Some y) (Some z) xs ys p q = q ∙ ap (λ l. l ++ ys) p ∙ append_assoc x xs ys

-- what tells goes on to tell
pub Loses-tells : (a b : Option (List ℕ)) (xs : List ℕ) → Loses a b xs → is_some b ≡ is_some a
Loses-tells None None xs p = refl
Loses-tells None (Some y) xs p = absurd p
Loses-tells (Some x) None xs p = absurd p
Loses-tells (Some x) (Some y) xs p = refl

pub Loses-told : (a b c : Option (List ℕ)) (xs : List ℕ) → Loses b c xs → is_some b ≡ is_some a → is_some c ≡ is_some a
Loses-told a b c xs p same = Loses-tells b c xs p ∙ same

pub Grew-nil : (t : ℕ) → Grew t t 0
Grew-nil t = record { later = omega arith; most = omega arith; exact = λ h. omega arith }

pub Grew-more : (t u v m n : ℕ) → Grew t u m → Grew u v n → Grew t v (m + n)
Grew-more t u v m n p q = record { later = omega arith; most = omega arith; exact = λ h. omega arith }

pub ruleset reading = (Loses-told, Loses-nil, Loses-more, Loses-end, IsAtEnd-kept, Loses-length, Grew-nil, Grew-more)

pub ruleset writing = (Gains-nil, Gains-more)

-- a further front of a text
pub Gains-part : (a b c : Option (List ℕ)) (text : List ℕ) (d n : ℕ) → Gains a b (take d text) → Gains b c (take n (take (length text - d) (drop d text))) → Gains a c (take (d + n) text)
Gains-part a b c text d n p q =
    let whole : take (length text - d) (drop d text) ≡ drop d text = between_to_end text d (length text) (omega arith) in
    let joined : take d text ++ take n (drop d text) ≡ take (d + n) text = sym (take-add d n text) in
    subst (Gains a c) joined (Gains-more a b c (take d text) (take n (drop d text)) p (subst (λ l. Gains b c (take n l)) whole q))
