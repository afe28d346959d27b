-- Contents that are found by their digests, with one content more or less.
use Rattle.pm_contents.proofs.Common.{ap, arith, Bool, btree_map_len, BTreeMap, bytes_eq, cond, content_cmp, Contents, drop, drop-append-le, eq-eqb, eqb-true, false, Finds, first_of, flat_map}
use Rattle.pm_contents.proofs.Common.{found_in, FoundAs, get, Holds, IfSome, in_span, inl, inr, is_at, IsAlike, IsAt, IsBytes, IsNew, IsUnasked, length, length-append, length-drop, List, nat_eq, None}
use Rattle.pm_contents.proofs.Common.{Option, place_by, place_of, put_new, refl, Some, Span, subst, sym, take, take-append-le, true, Updates, ℕ, [], ◌++◌, ◌+◌, ◌∙◌, ◌∷◌, ◌≡◌, ◌≢◌, ◌≤◌}
use Rattle.std.proofs.Math.Seq.{drop-append_seam, take-length}
use Rattle.std.proofs.lemmas.Option.{IfSome_then}
use Rattle.std.specs.HashMap as hashed
use Rattle.std.specs.Cmp.Lexicographic.{texts_ties}
use Rattle.pm_contents.specs.declared.sought.Sought.TheVariants as sought
use Rattle.pm_contents.proofs.PlaceLemmas.{content_between, count_push, flat_push, found_is, found_keeps, found_push_other, found_push_same, put_behind, same_or, total_push}

at_keeps : (P : List ℕ → Type 0) (x : List ℕ) (cs : List (List ℕ)) (place : ℕ) → IsAt cs place P → IsAt (cs ++ x ∷ []) place P
at_keeps P x cs place h = (h.0, found_keeps x h.0 cs place h.1, h.2)

-- a content ends where the contents do, or before
at_ends : (cs : List (List ℕ)) (place size : ℕ) (x : List ℕ) → found_in cs x ≡ Some place → length x ≡ size → place + size ≤ length (flat_map (λ c. c) cs)
at_ends cs place size x h n =
    let f = found_is x cs place h in
    let r = content_between x cs f.0 in
    omega (arith, f.1, n, r.place, ap length r.parts, length-append r.before (x ++ r.behind), length-append x r.behind)

-- what the first content of a digest is
abbrev pub IsFirstIn : (List ℕ → ℕ) → List (List ℕ) → ℕ → Span → Type 0
IsFirstIn name cs digest s = IsAt cs s.place (λ z. (length z ≡ s.length) × (name z ≡ digest))

pub first_ends : (name : List ℕ → ℕ) (cs : List (List ℕ)) (digest : ℕ) (s : Span) → IsFirstIn name cs digest s → s.place + s.length ≤ length (flat_map (λ c. c) cs)
first_ends name cs digest s a = at_ends cs s.place s.length a.0 a.1 a.2.0

-- a key test of other bytes
apart : (x y : List ℕ) → bytes_eq x y ≡ false → is_at (content_cmp x) y ≡ false
apart x y e = sym (texts_ties x y) ∙ e

-- the bytes in a span stay where more come behind all
span_stays : (all x : List ℕ) (s : Span) → s.place + s.length ≤ length all → in_span (all ++ x) s ≡ in_span all s
span_stays all x s h =
    let here : s.place ≤ length all = omega (arith, h) in
    let left : s.length ≤ length (drop s.place all) = omega (arith, h, length-drop s.place all) in
    ap (take s.length) (drop-append-le s.place all x here) ∙ take-append-le s.length (drop s.place all) x left

-- and those behind all are what came
span_new : (all x : List ℕ) (s : Span) → s.place ≡ length all → s.length ≡ length x → in_span (all ++ x) s ≡ x
span_new all x s p n = rw (p, n, drop-append_seam all x) (take-length x)

-- what other bytes than those that come are looked for by stays
place_stays_by : (name : List ℕ → ℕ) (c d : Contents) (cs : List (List ℕ)) (digest : ℕ) (x y : List ℕ) (o : Option Span) → IfSome o (IsFirstIn name cs digest) → get content_cmp d.others y ≡ get content_cmp c.others y
    → place_by d (cs ++ x ∷ []) y o ≡ place_by c cs y o
place_stays_by name c d cs digest x y None w k = refl
place_stays_by name c d cs digest x y (Some s) w k = rw (ap (λ z. in_span z s) (flat_push cs x) ∙ span_stays (flat_map (λ c. c) cs) x s (first_ends name cs digest s w), k) refl

-- a content that is the first of its digest was put behind the others
pub record IsFirst (c d : Contents) (digest size : ℕ) : Type 0 where
  pub none : first_of c digest ≡ None
  pub updates : hashed.Updates nat_eq c.firsts d.firsts digest (Some (record { place = c.total; length = size }))
  pub count : hashed.hash_map_len d.firsts ≡ hashed.hash_map_len c.firsts + 1
  pub others : d.others ≡ c.others
  pub total : d.total ≡ c.total + size

module _ (c d : Contents) (digest size : ℕ) (m : IsFirst c d digest size) where
  abbrev span : Span
  span = record { place = c.total; length = size }

  first_at : (e : ℕ) (b : Bool) → nat_eq digest e ≡ b → first_of d e ≡ cond b (Some span) (first_of c e)
  first_at e b q = m.updates.0 e ∙ ap (λ t. cond t (Some span) (first_of c e)) q

  others_stay : (y : List ℕ) → get content_cmp d.others y ≡ get content_cmp c.others y
  others_stay y = ap (λ z. get content_cmp z y) m.others

  none_by : (e : ℕ) → nat_eq digest e ≡ true → first_of c e ≡ None
  none_by e q = ap (first_of c) (sym (eqb-true digest e q)) ∙ m.none

  pub holds_first : (name : List ℕ → ℕ) (cs : List (List ℕ)) (x : List ℕ) → Holds name c cs → digest ≡ name x → length x ≡ size → IsNew cs x → Holds name d (put_new cs x)
  holds_first name cs x h same n new = subst (Holds name d) (sym (put_behind cs x new)) (record {
    firsts = λ e. firsts e (nat_eq digest e) refl;
    others = λ y. subst (λ o. IfSome o (λ place. IsAt (cs ++ x ∷ []) place (Other y))) (sym (others_stay y)) (IfSome_then (get content_cmp c.others y) (h.others y) (λ place a. at_keeps (Other y) x cs place a));
    first = λ y f. first y f (nat_eq digest (name y)) refl;
    unread = λ y b u. unread y b u (nat_eq digest (name y)) refl;
    count = omega (arith, m.count, ap (λ z. btree_map_len z) m.others, h.count, count_push cs x);
    total = omega (arith, m.total, h.total, total_push cs x, n);
  })
    where
      Other : List ℕ → List ℕ → Type 0
      Other y z = (length z ≡ length y) × (IsBytes z → z ≡ y)

      firsts : (e : ℕ) (b : Bool) → nat_eq digest e ≡ b → IfSome (first_of d e) (IsFirstIn name (cs ++ x ∷ []) e)
      firsts e true q = subst (λ o. IfSome o (IsFirstIn name (cs ++ x ∷ []) e)) (sym (first_at e true q)) (x, found_push_same x cs new ∙ ap Some (sym h.total), (n, sym same ∙ eqb-true digest e q))
      firsts e false q = subst (λ o. IfSome o (IsFirstIn name (cs ++ x ∷ []) e)) (sym (first_at e false q))
          (IfSome_then (first_of c e) (h.firsts e) (λ s a. at_keeps (λ z. (length z ≡ s.length) × (name z ≡ e)) x cs s.place a))

      first : (y : List ℕ) → first_of d (name y) ≡ None → (b : Bool) → nat_eq digest (name y) ≡ b → get content_cmp d.others y ≡ None
      first y f true q = absurd (let t = sym (first_at (name y) true q) ∙ f in cc)
      first y f false q = others_stay y ∙ h.first y (sym (first_at (name y) false q) ∙ f)

      stays : (y : List ℕ) → x ≢ y → IsBytes y → IsUnasked c (name y) (length y) → found_in (cs ++ x ∷ []) y ≡ get content_cmp d.others y
      stays y q b u = found_push_other x y cs q ∙ (h.unread y b u ∙ sym (others_stay y))

      unread : (y : List ℕ) → IsBytes y → IsUnasked d (name y) (length y) → (t : Bool) → nat_eq digest (name y) ≡ t → found_in (cs ++ x ∷ []) y ≡ get content_cmp d.others y
      unread y b u true q =
          let longer : size ≢ length y = subst (λ o. IfOther o) (first_at (name y) true q) u in
          stays y (λ e. longer (sym n ∙ ap length e)) b (subst (λ o. IfOther o) (sym (none_by (name y) q)) tt)
        where
          IfOther : Option Span → Type 0
          IfOther o = IfSome o (λ s. s.length ≢ length y)
      unread y b u false q = stays y (λ e. let t : nat_eq digest (name y) ≡ true = eq-eqb digest (name y) (same ∙ ap name e) in cc) b (subst (λ o. IfSome o (λ s. s.length ≢ length y)) (first_at (name y) false q) u)

  pub finds_first : (name : List ℕ → ℕ) (cs : List (List ℕ)) (x : List ℕ) → Holds name c cs → Finds name c cs → digest ≡ name x → length x ≡ size → IsNew cs x → Finds name d (put_new cs x)
  finds_first name cs x h k same n new = subst (Finds name d) (sym (put_behind cs x new)) (λ y. go y (nat_eq digest (name y)) refl)
    where
      here : in_span (flat_map (λ c. c) (cs ++ x ∷ [])) span ≡ x
      here = ap (λ z. in_span z span) (flat_push cs x) ∙ span_new (flat_map (λ c. c) cs) x span h.total (sym n)

      placed : (y : List ℕ) → nat_eq digest (name y) ≡ true → place_by d (cs ++ x ∷ []) y (Some span) ≡ found_in (cs ++ x ∷ []) y
      placed y e = elim (same_or x y) [
        | inl q ↦ rw (here, q.0) (ap Some h.total ∙ (sym (found_push_same x cs new) ∙ ap (found_in (cs ++ x ∷ [])) q.1))
        | inr q ↦ rw (here, q.0) (others_stay y ∙ (h.first y (none_by (name y) e) ∙ (sym (sym (k y) ∙ ap (place_by c cs y) (none_by (name y) e)) ∙ sym (found_push_other x y cs q.1))))
      ]

      go : (y : List ℕ) (b : Bool) → nat_eq digest (name y) ≡ b → place_of name d (cs ++ x ∷ []) y ≡ found_in (cs ++ x ∷ []) y
      go y true e = ap (place_by d (cs ++ x ∷ []) y) (first_at (name y) true e) ∙ placed y e
      go y false e =
          let differ : x ≢ y = (λ q. let t : nat_eq digest (name y) ≡ true = eq-eqb digest (name y) (same ∙ ap name q) in cc) in
          ap (place_by d (cs ++ x ∷ []) y) (first_at (name y) false e)
          ∙ (place_stays_by name c d cs (name y) x y (first_of c (name y)) (h.firsts (name y)) (others_stay y) ∙ (k y ∙ sym (found_push_other x y cs differ)))

-- a content whose digest another one has was put behind the others
pub record IsOther (c d : Contents) (x : List ℕ) : Type 0 where
  pub none : get content_cmp c.others x ≡ None
  pub updates : Updates content_cmp c.others d.others x (Some c.total)
  pub count : btree_map_len d.others ≡ btree_map_len c.others + 1
  pub firsts : d.firsts ≡ c.firsts
  pub total : d.total ≡ c.total + length x

module _ (c d : Contents) (x : List ℕ) (m : IsOther c d x) (name : List ℕ → ℕ) (cs : List (List ℕ)) (s : Span) (is : first_of c (name x) ≡ Some s) (h : Holds name c cs) where
  firsts_stay : (e : ℕ) → first_of d e ≡ first_of c e
  firsts_stay e = ap (λ z. hashed.get nat_eq z e) m.firsts

  others_but : (y : List ℕ) → x ≢ y → get content_cmp d.others y ≡ get content_cmp c.others y
  others_but y q = elim (same_or x y) [ inl t ↦ absurd (q t.1) | inr t ↦ m.updates.2 y (apart x y t.0) ]

  pub holds_other : (taken : List ℕ) → FoundAs name c cs x (sought.Other x) taken → Holds name d (put_new cs taken)
  holds_other taken f = subst (Holds name d) (sym (put_behind cs taken f.found)) (record {
    firsts = λ e. subst (λ o. IfSome o (IsFirstIn name (cs ++ taken ∷ []) e)) (sym (firsts_stay e))
        (IfSome_then (first_of c e) (h.firsts e) (λ s a. at_keeps (λ z. (length z ≡ s.length) × (name z ≡ e)) taken cs s.place a));
    others = others;
    first = λ y z.
        let known : first_of c (name y) ≡ None = sym (firsts_stay (name y)) ∙ z in
        let differ : x ≢ y = (λ q. let t = sym is ∙ (ap (λ w. first_of c (name w)) q ∙ known) in cc) in
        others_but y differ ∙ h.first y known;
    unread = λ y b u. unread y b (subst (λ o. IfSome o (λ s. s.length ≢ length y)) (firsts_stay (name y)) u);
    count = omega (arith, m.count, ap (λ z. hashed.hash_map_len z) m.firsts, h.count, count_push cs taken);
    total = omega (arith, m.total, h.total, total_push cs taken, f.size);
  })
    where
      Other : List ℕ → List ℕ → Type 0
      Other y z = (length z ≡ length y) × (IsBytes z → z ≡ y)

      behind : found_in (cs ++ taken ∷ []) taken ≡ Some c.total
      behind = found_push_same taken cs f.found ∙ ap Some (sym h.total)

      others : (y : List ℕ) → IfSome (get content_cmp d.others y) (λ place. IsAt (cs ++ taken ∷ []) place (Other y))
      others y = elim (same_or x y) [
        | inl q ↦ subst (λ o. IfSome o (λ place. IsAt (cs ++ taken ∷ []) place (Other y))) (sym (ap (get content_cmp d.others) (sym q.1) ∙ m.updates.1)) (taken, behind, (f.size ∙ ap length q.1, λ b. f.own refl b ∙ q.1))
        | inr q ↦ subst (λ o. IfSome o (λ place. IsAt (cs ++ taken ∷ []) place (Other y))) (sym (others_but y q.1)) (IfSome_then (get content_cmp c.others y) (h.others y) (λ place a. at_keeps (Other y) taken cs place a))
      ]

      unread : (y : List ℕ) → IsBytes y → IsUnasked c (name y) (length y) → found_in (cs ++ taken ∷ []) y ≡ get content_cmp d.others y
      unread y b u = elim (same_or x y) [
        | inl q ↦
            let itself : taken ≡ y = f.unread (subst (λ z. IsUnasked c (name z) (length z)) (sym q.1) u) ∙ q.1 in
            ap (found_in (cs ++ taken ∷ [])) (sym itself) ∙ (behind ∙ sym (ap (get content_cmp d.others) (sym q.1) ∙ m.updates.1))
        | inr q ↦
            let differ : taken ≢ y = (λ e. q.1 (sym (f.own refl (subst IsBytes (sym e) b)) ∙ e)) in
            found_push_other taken y cs differ ∙ (h.unread y b u ∙ sym (others_but y q.1))
      ]

  pub finds_other : Finds name c cs → IsNew cs x → Finds name d (put_new cs x)
  finds_other k new = subst (Finds name d) (sym (put_behind cs x new)) places
    where
      differs : (b : Bool) → bytes_eq (in_span (flat_map (λ c. c) cs) s) x ≡ b → bytes_eq (in_span (flat_map (λ c. c) cs) s) x ≡ false
      differs false e = e
      differs true e = absurd (let f : place_by c cs x (Some s) ≡ Some s.place = rw e refl in let g = sym f ∙ (ap (place_by c cs x) (sym is) ∙ (k x ∙ new)) in cc)

      within : s.place + s.length ≤ length (flat_map (λ c. c) cs)
      within = first_ends name cs (name x) s (subst (λ o. IfSome o (IsFirstIn name cs (name x))) is (h.firsts (name x)))

      here : place_of name d (cs ++ x ∷ []) x ≡ Some c.total
      here =
          let e = differs (bytes_eq (in_span (flat_map (λ c. c) cs) s) x) refl in
          ap (place_by d (cs ++ x ∷ []) x) (firsts_stay (name x) ∙ is) ∙ rw (ap (λ z. in_span z s) (flat_push cs x) ∙ span_stays (flat_map (λ c. c) cs) x s within, e) m.updates.1

      places : (y : List ℕ) → place_of name d (cs ++ x ∷ []) y ≡ found_in (cs ++ x ∷ []) y
      places y = elim (same_or x y) [
        | inl q ↦ ap (place_of name d (cs ++ x ∷ [])) (sym q.1) ∙ (here ∙ (ap Some h.total ∙ (sym (found_push_same x cs new) ∙ ap (found_in (cs ++ x ∷ [])) q.1)))
        | inr q ↦ ap (place_by d (cs ++ x ∷ []) y) (firsts_stay (name y)) ∙ (place_stays_by name c d cs (name y) x y (first_of c (name y)) (h.firsts (name y)) (others_but y q.1) ∙ (k y ∙ sym (found_push_other x y cs q.1)))
      ]

-- the place of new bytes
pub place_put : (name : List ℕ → ℕ) (c : Contents) (cs : List (List ℕ)) (x : List ℕ) → Holds name c cs → IsNew cs x → found_in (put_new cs x) x ≡ Some c.total
place_put name c cs x h new = ap (λ ds. found_in ds x) (put_behind cs x new) ∙ (found_push_same x cs new ∙ ap Some (sym h.total))

-- contents that are found alike
pub holds_alike : (name : List ℕ → ℕ) (c d : Contents) (cs : List (List ℕ)) → IsAlike c d → Holds name c cs → Holds name d cs
holds_alike name c d cs a h = record {
  firsts = λ digest. subst (λ o. IfSome o (IsFirstIn name cs digest)) (sym (a.first digest)) (h.firsts digest);
  others = λ y. subst (λ o. IfSome o (λ place. IsAt cs place (λ z. (length z ≡ length y) × (IsBytes z → z ≡ y)))) (sym (a.other y)) (h.others y);
  first = λ y z. a.other y ∙ h.first y (sym (a.first (name y)) ∙ z);
  unread = λ y b u. h.unread y b (subst (λ o. IfSome o (λ s. s.length ≢ length y)) (a.first (name y)) u) ∙ sym (a.other y);
  count = omega (arith, a.firsts, a.others, h.count);
  total = a.total ∙ h.total;
}

pub finds_alike : (name : List ℕ → ℕ) (c d : Contents) (cs : List (List ℕ)) → IsAlike c d → Finds name c cs → Finds name d cs
finds_alike name c d cs a k = λ y. ap (place_by d cs y) (a.first (name y)) ∙ (alike y (first_of c (name y)) ∙ k y)
  where
    alike : (y : List ℕ) (z : Option Span) → place_by d cs y z ≡ place_by c cs y z
    alike y None = refl
    alike y (Some s) = rw (a.other y) refl

-- the others with bytes that they didn't have, taken away again
pub others_back : (m n : BTreeMap (List ℕ) ℕ) (x y : List ℕ) → get content_cmp m x ≡ None → Updates content_cmp m n x None → get content_cmp n y ≡ get content_cmp m y
others_back m n x y none u = elim (same_or x y) [
  | inl s ↦ ap (get content_cmp n) (sym s.1) ∙ (u.1 ∙ (sym none ∙ ap (get content_cmp m) s.1))
  | inr s ↦ u.2 y (apart x y s.0)
]
