-- What sought bytes are taken for.
use Rattle.pm_contents.proofs.Common.{All, ap, arith, Bool, bytes_eq, content_cmp, Contents, drop, eq-eqb, eqb-true, false, first_of, flat_map, found_in, FoundAs, get, get_or, Holds, IfSome, in_span}
use Rattle.pm_contents.proofs.Common.{inl, inr, IsAt, IsBytes, IsNew, IsTold, IsUnasked, length, length-replicate, List, list_any, nat_eq, None, Option, place_by, place_sought, refl, replicate, Some}
use Rattle.pm_contents.proofs.Common.{Span, subst, suc, sym, true, zero, ℕ, [], ◌+◌, ◌<◌, ◌∙◌, ◌∷◌, ◌≡◌, ◌≢◌, ◌≤◌}
use Rattle.pm_contents.specs.declared.sought.Sought.{Sought}
use Rattle.pm_contents.specs.declared.sought.Sought.TheVariants as sought
use Rattle.pm_contents.proofs.ContentLemmas.{IsFirstIn, first_ends}
use Rattle.pm_contents.proofs.PlaceLemmas.{all_has, found_is, same_or}
use Rattle.pm_contents.proofs.Told.{if_both, if_some_map}

-- a number above the first one of each content, and above all bytes
above : List (List ℕ) → ℕ
above [] = 256
above (c ∷ cs) = get_or c 0 0 + 1 + above cs

none_begins : (cs : List (List ℕ)) (k : ℕ) (rest : List ℕ) → above cs ≤ k → list_any (bytes_eq (k ∷ rest)) cs ≡ false
unfolding above
none_begins [] k rest h = refl
none_begins (c ∷ cs) k rest h = elim (same_or (k ∷ rest) c) [
  | inl s ↦ absurd (omega (arith, h, ap (λ z. get_or z 0 0) s.1))
  | inr s ↦ rw (s.0) (none_begins cs k rest (omega (arith, h)))
]

no_byte : (cs : List (List ℕ)) → 256 ≤ above cs
unfolding above
no_byte [] = omega arith
no_byte (c ∷ cs) = omega (arith, no_byte cs)

-- of each length there is a mark that is none of the contents
mark_of : (size : ℕ) (cs : List (List ℕ)) → 0 < size → (x : List ℕ) × (length x ≡ size) × IsNew cs x × (IsBytes x → ⊥)
mark_of zero cs h = absurd (omega (arith, h))
mark_of (suc n) cs h = let e = none_begins cs (above cs) (replicate n 0) (omega arith) in (above cs ∷ replicate n 0, ap suc (length-replicate n 0), rw e refl, λ b. omega (arith, b 0, no_byte cs))

-- bytes that are found as they are are taken for themselves
pub found_itself : (name : List ℕ → ℕ) (c : Contents) (cs : List (List ℕ)) (x : List ℕ) (s : Sought) → found_in cs x ≡ place_sought s → FoundAs name c cs x s x
found_itself name c cs x s f = record { found = f; size = refl; like = λ b. refl; own = λ n b. refl; unread = λ u. refl }

-- what the medium answers for a span is what lies there
by_span : (name : List ℕ → ℕ) (c : Contents) (cs : List (List ℕ)) (x b : List ℕ) (from : ℕ) (s : Span) (same : Bool) → IsTold name from c cs b → same ≡ bytes_eq (in_span (drop from b) s) x → bytes_eq (in_span (flat_map (λ c. c) cs) s) x ≡ same
by_span name c cs x b from s same t e = ap (λ z. bytes_eq (in_span z s) x) (sym t.lies) ∙ sym e

module _ (name : List ℕ → ℕ) (c : Contents) (cs : List (List ℕ)) (x : List ℕ) (digest : ℕ) (named : digest ≡ name x) (h : Holds name c cs) where
  -- no content has their digest
  pub found_none : IsBytes x → first_of c digest ≡ None → (taken : List ℕ) × FoundAs name c cs x (sought.First digest) taken
  found_none b f =
      let none : first_of c (name x) ≡ None = ap (first_of c) (sym named) ∙ f in
      (x, found_itself name c cs x (sought.First digest) (h.unread x b (subst (λ o. IfSome o (λ s. s.length ≢ length x)) (sym none) tt) ∙ h.first x none))

  pub known_none : (told : Option (List ℕ)) (from : ℕ) → IfSome told (IsTold name from c cs) → first_of c digest ≡ None → IfSome told (λ b. IsNew cs x)
  known_none told from t f = if_some_map (IsTold name from c cs) (λ b. IsNew cs x) told (λ b i. sym (i.finds x) ∙ ap (place_by c cs x) (ap (first_of c) (sym named) ∙ f)) t

  module _ (s : Span) (is : first_of c digest ≡ Some s) where
    first : first_of c (name x) ≡ Some s
    first = ap (first_of c) (sym named) ∙ is

    at : IsFirstIn name cs (name x) s
    at = subst (λ o. IfSome o (IsFirstIn name cs (name x))) first (h.firsts (name x))

    asked : s.length ≡ length x → IsUnasked c (name x) (length x) → ⊥
    asked n u = subst (λ o. IfSome o (λ s. s.length ≢ length x)) first u n

    -- the first content of their digest
    pub found_first : s.length ≡ length x → (taken : List ℕ) × FoundAs name c cs x (sought.Known s.place) taken
    found_first n = (at.0, record { found = at.1; size = at.2.0 ∙ n; like = λ b. at.2.1; own = λ e b. absurd (cc); unread = λ u. absurd (asked n u) })

    pub known_first : (told : Option (List ℕ)) (from : ℕ) (same : Bool) → IfSome told (IsTold name from c cs) → same ≡ true → IfSome told (λ b. same ≡ bytes_eq (in_span (drop from b) s) x) → IfSome told (λ b. found_in cs x ≡ Some s.place)
    known_first told from same t w e = if_both (IsTold name from c cs) (λ b. same ≡ bytes_eq (in_span (drop from b) s) x) (λ b. found_in cs x ≡ Some s.place) told
        (λ b i j. let q = by_span name c cs x b from s same i j ∙ w in sym (i.finds x) ∙ (ap (place_by c cs x) first ∙ rw q refl)) t e

    -- another one than the first
    pub found_other : (how : Sought) → IsBytes x → 0 < length x → get content_cmp c.others x ≡ place_sought how → (taken : List ℕ) × FoundAs name c cs x how taken
    found_other how b some k = go (nat_eq s.length (length x)) refl
      where
        of_others : s.length ≡ length x → (o : Option ℕ) → get content_cmp c.others x ≡ o → place_sought how ≡ o → (taken : List ℕ) × FoundAs name c cs x how taken
        of_others n None q e =
            let m = mark_of (length x) cs some in
            (m.0, record { found = m.2 ∙ sym e; size = m.1; like = λ b. absurd (m.3 b); own = λ w b. absurd (m.3 b); unread = λ u. absurd (asked n u) })
        of_others n (Some place) q e =
            let a : IsAt cs place (λ z. (length z ≡ length x) × (IsBytes z → z ≡ x)) = rw q at (h.others x) in
            (a.0, record { found = a.1 ∙ sym e; size = a.2.0; like = λ b. ap name (a.2.1 b); own = λ w b. a.2.1 b; unread = λ u. absurd (asked n u) })

        go : (t : Bool) → nat_eq s.length (length x) ≡ t → (taken : List ℕ) × FoundAs name c cs x how taken
        go true q = of_others (eqb-true s.length (length x) q) (place_sought how) k refl
        go false q =
            let differ : s.length ≢ length x = (λ e. let t = eq-eqb s.length (length x) e in cc) in
            (x, found_itself name c cs x how (h.unread x b (subst (λ o. IfSome o (λ s. s.length ≢ length x)) (sym first) differ) ∙ k))

    pub known_other : (told : Option (List ℕ)) (from : ℕ) (same : Bool) (answer : Option ℕ) → IfSome told (IsTold name from c cs) → same ≡ false → IfSome told (λ b. same ≡ bytes_eq (in_span (drop from b) s) x) → get content_cmp c.others x ≡ answer
        → IfSome told (λ b. found_in cs x ≡ answer)
    known_other told from same answer t w e k = if_both (IsTold name from c cs) (λ b. same ≡ bytes_eq (in_span (drop from b) s) x) (λ b. found_in cs x ≡ answer) told
        (λ b i j. let q = by_span name c cs x b from s same i j ∙ w in sym (i.finds x) ∙ (ap (place_by c cs x) first ∙ rw q k)) t e

-- a span ends where the contents do, or before
pub span_ends : (name : List ℕ → ℕ) (c : Contents) (cs : List (List ℕ)) (digest : ℕ) (s : Span) → Holds name c cs → first_of c digest ≡ Some s → s.place + s.length ≤ c.total
span_ends name c cs digest s h f = let w : IsFirstIn name cs digest s = subst (λ o. IfSome o (IsFirstIn name cs digest)) f (h.firsts digest) in omega (arith, first_ends name cs digest s w, h.total)

-- where no content has the digest and the length of bytes, nothing has to be read to find them
pub unasked_of : (name : List ℕ → ℕ) (c : Contents) (cs : List (List ℕ)) (x : List ℕ) → Holds name c cs → All (λ z. name z ≡ name x → length z ≢ length x) cs → IsUnasked c (name x) (length x)
unasked_of name c cs x h none = go (first_of c (name x)) refl
  where
    go : (o : Option Span) → first_of c (name x) ≡ o → IfSome o (λ s. s.length ≢ length x)
    go None q = tt
    go (Some s) q =
        let a : IsFirstIn name cs (name x) s = subst (λ o. IfSome o (IsFirstIn name cs (name x))) q (h.firsts (name x)) in
        λ n. all_has (λ z. name z ≡ name x → length z ≢ length x) a.0 cs (found_is a.0 cs s.place a.1).0 none a.2.1 (a.2.0 ∙ n)
