-- Contents, once each, and their places.
use Rattle.pm_contents.proofs.Common.{All, ap, append-nil, append_assoc, Bool, bytes_eq, false, flat_map, found_in, fresh, inl, inr, IsNew, length, length-append, List, list_any, None, place_in}
use Rattle.pm_contents.proofs.Common.{put_new, refl, Some, subst, sym, true, ℕ, [], ◌++◌, ◌+◌, ◌∙◌, ◌∷◌, ◌≡◌, ◌≢◌, ◌⊎◌}
use Rattle.std.proofs.lemmas.Slice.Eq.{bytes_eq-Decides}
use Rattle.std.proofs.lemmas.List.Elements.{All-head, All-tail}

pub same_or : (x y : List ℕ) → ((bytes_eq x y ≡ true) × (x ≡ y)) ⊎ ((bytes_eq x y ≡ false) × (x ≢ y))
same_or x y = go (bytes_eq x y) refl
  where
    go : (b : Bool) → bytes_eq x y ≡ b → ((bytes_eq x y ≡ true) × (x ≡ y)) ⊎ ((bytes_eq x y ≡ false) × (x ≢ y))
    go true e = inl (e, (bytes_eq-Decides x y).0 e)
    go false e = inr (e, λ s. let t = (bytes_eq-Decides x y).1 s in cc)

-- a content is among the contents
abbrev pub Has : List (List ℕ) → List ℕ → Type 0
Has cs x = list_any (bytes_eq x) cs ≡ true

pub has_front : (c x : List ℕ) (cs : List (List ℕ)) → Has (c ∷ cs) x → (x ≡ c) ⊎ Has cs x
has_front c x cs h = elim (same_or x c) [ inl s ↦ inl s.1 | inr s ↦ inr (let e : list_any (bytes_eq x) (c ∷ cs) ≡ list_any (bytes_eq x) cs = rw (s.0) refl in sym e ∙ h) ]

has_here : (x : List ℕ) (cs : List (List ℕ)) → Has (x ∷ cs) x
has_here x cs = let s = (bytes_eq-Decides x x).1 refl in rw s refl

pub has_equal : (c x : List ℕ) (cs : List (List ℕ)) → x ≡ c → Has (c ∷ cs) x
has_equal c x cs e = let s = (bytes_eq-Decides x c).1 e in rw s refl

pub has_later : (c x : List ℕ) (cs : List (List ℕ)) → Has cs x → Has (c ∷ cs) x
has_later c x cs h = elim (same_or x c) [ inl s ↦ rw (s.0) refl | inr s ↦ rw (s.0) h ]

pub has_append : (x : List ℕ) (cs ds : List (List ℕ)) → Has cs x → Has (cs ++ ds) x
has_append x [] ds h = absurd (cc)
has_append x (c ∷ cs) ds h = elim (has_front c x cs h) [ inl e ↦ has_equal c x (cs ++ ds) e | inr g ↦ has_later c x (cs ++ ds) (has_append x cs ds g) ]

pub has_last : (x : List ℕ) (cs : List (List ℕ)) → Has (cs ++ x ∷ []) x
has_last x [] = has_here x []
has_last x (c ∷ cs) = has_later c x (cs ++ x ∷ []) (has_last x cs)

not_front : (c x : List ℕ) (cs : List (List ℕ)) → list_any (bytes_eq x) (c ∷ cs) ≡ false → (x ≢ c) × (list_any (bytes_eq x) cs ≡ false)
not_front c x cs h = elim (same_or x c) [
  | inl s ↦ absurd (let e : list_any (bytes_eq x) (c ∷ cs) ≡ true = rw (s.0) refl in cc)
  | inr s ↦ (s.1, let e : list_any (bytes_eq x) (c ∷ cs) ≡ list_any (bytes_eq x) cs = rw (s.0) refl in sym e ∙ h)
]

pub place_here : (c x : List ℕ) (cs : List (List ℕ)) → c ≡ x → place_in (c ∷ cs) x ≡ 0
place_here c x cs e = let s = (bytes_eq-Decides c x).1 e in rw s refl

pub place_later : (c x : List ℕ) (cs : List (List ℕ)) → c ≢ x → place_in (c ∷ cs) x ≡ length c + place_in cs x
place_later c x cs n = elim (same_or c x) [ inl s ↦ absurd (n s.1) | inr s ↦ rw (s.0) refl ]

-- a content that is there keeps its place
pub place_stays : (x : List ℕ) (cs ds : List (List ℕ)) → Has cs x → place_in (cs ++ ds) x ≡ place_in cs x
place_stays x [] ds h = absurd (cc)
place_stays x (c ∷ cs) ds h = elim (same_or c x) [
  | inl s ↦ place_here c x (cs ++ ds) s.1 ∙ sym (place_here c x cs s.1)
  | inr s ↦ elim (has_front c x cs h) [
    | inl e ↦ absurd (s.1 (sym e))
    | inr g ↦ place_later c x (cs ++ ds) s.1 ∙ (ap (λ n. length c + n) (place_stays x cs ds g) ∙ sym (place_later c x cs s.1))
  ]
]

-- a new one lies behind all
pub place_new : (x : List ℕ) (cs : List (List ℕ)) → list_any (bytes_eq x) cs ≡ false → place_in (cs ++ x ∷ []) x ≡ length (flat_map (λ c. c) cs)
place_new x [] h = place_here x x [] refl
place_new x (c ∷ cs) h =
    let n = not_front c x cs h in
    place_later c x (cs ++ x ∷ []) (λ e. n.0 (sym e)) ∙ (ap (λ k. length c + k) (place_new x cs n.1) ∙ sym (length-append c (flat_map (λ c. c) cs)))

-- what lies before and behind a content
pub record Between (whole x : List ℕ) (at : ℕ) : Type 0 where
  pub before : List ℕ
  pub behind : List ℕ
  pub parts : whole ≡ before ++ (x ++ behind)
  pub place : length before ≡ at

pub content_between : (x : List ℕ) (cs : List (List ℕ)) → Has cs x → Between (flat_map (λ c. c) cs) x (place_in cs x)
content_between x [] h = absurd (cc)
content_between x (c ∷ cs) h = elim (same_or c x) [
  | inl s ↦ record { before = []; behind = flat_map (λ c. c) cs; parts = ap (λ z. z ++ flat_map (λ c. c) cs) s.1; place = sym (place_here c x cs s.1) }
  | inr s ↦ elim (has_front c x cs h) [
    | inl e ↦ absurd (s.1 (sym e))
    | inr g ↦ let r = content_between x cs g in record {
      before = c ++ r.before;
      behind = r.behind;
      parts = ap (λ z. c ++ z) r.parts ∙ sym (append_assoc c r.before (x ++ r.behind));
      place = length-append c r.before ∙ (ap (λ n. length c + n) r.place ∙ sym (place_later c x cs s.1));
    }
  ]
]

any_push_other : (x y : List ℕ) (cs : List (List ℕ)) → x ≢ y → list_any (bytes_eq y) (cs ++ x ∷ []) ≡ list_any (bytes_eq y) cs
any_push_other x y [] d = elim (same_or y x) [ inl s ↦ absurd (d (sym s.1)) | inr s ↦ rw (s.0) refl ]
any_push_other x y (c ∷ cs) d = elim (same_or y c) [ inl s ↦ rw (s.0) refl | inr s ↦ rw (s.0) (any_push_other x y cs d) ]

pub found_push_other : (x y : List ℕ) (cs : List (List ℕ)) → x ≢ y → found_in (cs ++ x ∷ []) y ≡ found_in cs y
found_push_other x y cs d = go (list_any (bytes_eq y) cs) refl
  where
    go : (b : Bool) → list_any (bytes_eq y) cs ≡ b → found_in (cs ++ x ∷ []) y ≡ found_in cs y
    go true e = let f = any_push_other x y cs d ∙ e in rw (e, f) (ap Some (place_stays y cs (x ∷ []) e))
    go false e = let f = any_push_other x y cs d ∙ e in rw (e, f) refl

pub new_is : (x : List ℕ) (cs : List (List ℕ)) → IsNew cs x → list_any (bytes_eq x) cs ≡ false
new_is x cs n = go (list_any (bytes_eq x) cs) refl
  where
    go : (b : Bool) → list_any (bytes_eq x) cs ≡ b → list_any (bytes_eq x) cs ≡ false
    go false e = e
    go true e = absurd (let f : found_in cs x ≡ Some (place_in cs x) = rw e refl in cc)

pub found_is : (x : List ℕ) (cs : List (List ℕ)) (p : ℕ) → found_in cs x ≡ Some p → Has cs x × (p ≡ place_in cs x)
found_is x cs p h = go (list_any (bytes_eq x) cs) refl
  where
    go : (b : Bool) → list_any (bytes_eq x) cs ≡ b → Has cs x × (p ≡ place_in cs x)
    go false e = absurd (let f : found_in cs x ≡ None = rw e refl in cc)
    go true e = (e, let f : found_in cs x ≡ Some (place_in cs x) = rw e refl in let both : Some p ≡ Some (place_in cs x) = sym h ∙ f in cc)

pub found_push_same : (x : List ℕ) (cs : List (List ℕ)) → IsNew cs x → found_in (cs ++ x ∷ []) x ≡ Some (length (flat_map (λ c. c) cs))
found_push_same x cs n =
    let h = has_last x cs in
    rw h (ap Some (place_new x cs (new_is x cs n)))

-- what was found stays where it is
pub found_keeps : (x y : List ℕ) (cs : List (List ℕ)) (p : ℕ) → found_in cs y ≡ Some p → found_in (cs ++ x ∷ []) y ≡ Some p
found_keeps x y cs p h =
    let f = found_is y cs p h in
    let more = has_append y cs (x ∷ []) f.0 in
    rw more (ap Some (place_stays y cs (x ∷ []) f.0 ∙ sym f.1))

pub flat_push : (cs : List (List ℕ)) (x : List ℕ) → flat_map (λ c. c) (cs ++ x ∷ []) ≡ flat_map (λ c. c) cs ++ x
flat_push [] x = append-nil x
flat_push (c ∷ cs) x = ap (λ z. c ++ z) (flat_push cs x) ∙ sym (append_assoc c (flat_map (λ c. c) cs) x)

pub total_push : (cs : List (List ℕ)) (x : List ℕ) → length (flat_map (λ c. c) (cs ++ x ∷ [])) ≡ length (flat_map (λ c. c) cs) + length x
total_push cs x = ap length (flat_push cs x) ∙ length-append (flat_map (λ c. c) cs) x

pub count_push : (cs : List (List ℕ)) (x : List ℕ) → length (cs ++ x ∷ []) ≡ length cs + 1
count_push cs x = length-append cs (x ∷ [])

-- new bytes are put behind the contents
pub put_behind : (cs : List (List ℕ)) (x : List ℕ) → IsNew cs x → put_new cs x ≡ cs ++ x ∷ []
put_behind cs x n = let e = new_is x cs n in rw e refl

pub put_new_had : (cs : List (List ℕ)) (x : List ℕ) → Has (put_new cs x) x
put_new_had cs x = go (list_any (bytes_eq x) cs) refl
  where
    go : (b : Bool) → list_any (bytes_eq x) cs ≡ b → Has (put_new cs x) x
    go true e = rw (e) e
    go false e = rw (e) (has_last x cs)

pub put_new_keeps : (cs : List (List ℕ)) (x y : List ℕ) → Has cs y → Has (put_new cs x) y
put_new_keeps cs x y h = go (list_any (bytes_eq x) cs) refl
  where
    go : (b : Bool) → list_any (bytes_eq x) cs ≡ b → Has (put_new cs x) y
    go true e = rw e h
    go false e = rw e (has_append y cs (x ∷ []) h)

-- all of new bytes has to be written, and nothing of known ones
pub fresh_new : (cs : List (List ℕ)) (x : List ℕ) → IsNew cs x → fresh cs x ≡ x
fresh_new cs x n = let e = new_is x cs n in rw e refl

pub fresh_known : (cs : List (List ℕ)) (x : List ℕ) (place : ℕ) → found_in cs x ≡ Some place → fresh cs x ≡ []
fresh_known cs x place f = let e = (found_is x cs place f).0 in rw e refl

-- what holds of each content holds of one of them
pub all_has : (P : List ℕ → Type 0) (x : List ℕ) (cs : List (List ℕ)) → Has cs x → All P cs → P x
all_has P x [] h all = absurd (cc)
all_has P x (c ∷ cs) h all = elim (has_front c x cs h) [
  | inl e ↦ subst P (sym e) (All-head P c cs all)
  | inr g ↦ all_has P x cs g (All-tail P c cs all)
]
