-- Which contents and adds marks have.
use Rattle.tile_streaming.proofs.Common.{add_for, adds_of, All, All-cons, All-nil, ap, AreRead, Bool, cons_option, Has, inl, inr, IsRead, List, map, Mark, None, Option, refl, Some, subst, ℕ, [], ◌∷◌, ◌≡◌, ◌≢◌}
use Rattle.tile_streaming.specs.Stored.{Stored}

-- what holds of all that a list has
pub all_of_has : {X : Type 0} (P : X → Type 0) (xs : List X) → ((x : X) → Has x xs → P x) → All P xs
all_of_has P [] h = All-nil P
all_of_has P (x ∷ xs) h = All-cons P x xs (h x (inl refl)) (all_of_has P xs (λ y there. h y (inr there)))

pub has_mapped : {X Y : Type 0} (f : X → Y) (x : X) (xs : List X) → Has x xs → Has (f x) (map f xs)
has_mapped f x [] h = absurd h
has_mapped f x (y ∷ xs) (inl is) = inl (ap f is)
has_mapped f x (y ∷ xs) (inr h) = inr (has_mapped f x xs h)

pub has_source : {X Y : Type 0} (f : X → Y) (y : Y) (xs : List X) → Has y (map f xs) → (x : X) × Has x xs × (f x ≡ y)
has_source f y [] h = absurd h
has_source f y (x ∷ xs) (inl is) = (x, inl refl, is)
has_source f y (x ∷ xs) (inr h) = let found = has_source f y xs h in (found.0, inr found.1, found.2)

not_nil : (byte : ℕ) (bytes : List ℕ) → byte ∷ bytes ≢ []
not_nil byte bytes e = absurd (cc)

module _ (tells : Bool) (t : Stored) where
  -- the content of a mark, and its add
  pub record HasContent (marks : List Mark) (contents : List (List ℕ)) (m : Mark) : Type 0 where
    pub bytes : List ℕ
    pub read : IsRead tells t m bytes
    pub add : bytes ≢ [] → Has (m.id, bytes) (adds_of marks contents)

  here_added : (m : Mark) (c : List ℕ) (rest : List (ℕ × List ℕ)) → c ≢ [] → Has (m.id, c) (cons_option (add_for m c) rest)
  here_added m [] rest some = absurd (some refl)
  here_added m (b ∷ c) rest some = inl refl

  behind : (a : ℕ × List ℕ) (x : Option (ℕ × List ℕ)) (rest : List (ℕ × List ℕ)) → Has a rest → Has a (cons_option x rest)
  behind a None rest h = h
  behind a (Some x) rest h = inr h

  pub content_of_mark : (marks : List Mark) (contents : List (List ℕ)) (m : Mark) → AreRead tells t marks contents → Has m marks → HasContent marks contents m
  content_of_mark [] contents m r h = absurd h
  content_of_mark (n ∷ marks) [] m r h = absurd r
  content_of_mark (n ∷ marks) (c ∷ contents) m r (inl is) = record {
    bytes = c;
    read = subst (λ k. IsRead tells t k c) is r.0;
    add = λ some. subst (λ (k : Mark). Has (k.id, c) (cons_option (add_for n c) (adds_of marks contents))) is (here_added n c (adds_of marks contents) some);
  }
  content_of_mark (n ∷ marks) (c ∷ contents) m r (inr h) =
      let found = content_of_mark marks contents m r.1 h in
      record { bytes = found.bytes; read = found.read; add = λ some. behind (m.id, found.bytes) (add_for n c) (adds_of marks contents) (found.add some) }

  -- the mark of an add
  pub record HasMark (marks : List Mark) (id : ℕ) (bytes : List ℕ) : Type 0 where
    pub mark : Mark
    pub there : Has mark marks
    pub same : mark.id ≡ id
    pub read : IsRead tells t mark bytes
    pub some : bytes ≢ []

  mark_here : (marks : List Mark) (n : Mark) (c : List ℕ) (rest : List (ℕ × List ℕ)) (id : ℕ) (bytes : List ℕ) → IsRead tells t n c → Has (id, bytes) (cons_option (add_for n c) rest) → (Has (id, bytes) rest → HasMark (n ∷ marks) id bytes) → HasMark (n ∷ marks) id bytes
  mark_here marks n [] rest id bytes r h later = later h
  mark_here marks n (b ∷ c) rest id bytes r (inl is) later = record {
    mark = n;
    there = inl refl;
    same = ap (λ a. a.0) is;
    read = subst (IsRead tells t n) (ap (λ a. a.1) is) r;
    some = subst (λ k. k ≢ []) (ap (λ a. a.1) is) (not_nil b c);
  }
  mark_here marks n (b ∷ c) rest id bytes r (inr h) later = later h

  pub mark_of_add : (marks : List Mark) (contents : List (List ℕ)) (id : ℕ) (bytes : List ℕ) → AreRead tells t marks contents → Has (id, bytes) (adds_of marks contents) → HasMark marks id bytes
  mark_of_add [] contents id bytes r h = absurd h
  mark_of_add (n ∷ marks) [] id bytes r h = absurd h
  mark_of_add (n ∷ marks) (c ∷ contents) id bytes r h = mark_here marks n c (adds_of marks contents) id bytes r.0 h (λ there. behind_mark (mark_of_add marks contents id bytes r.1 there))
    where
      behind_mark : HasMark marks id bytes → HasMark (n ∷ marks) id bytes
      behind_mark found = record { mark = found.mark; there = inr found.there; same = found.same; read = found.read; some = found.some }

-- the same of contents of which only lengths are known
pub record HasLong (marks : List Mark) (id : ℕ) (bytes : List ℕ) : Type 0 where
  pub mark : Mark
  pub there : Has mark marks
  pub same : mark.id ≡ id
  pub some : bytes ≢ []

long_here : (marks : List Mark) (n : Mark) (c : List ℕ) (rest : List (ℕ × List ℕ)) (a : ℕ × List ℕ) → Has a (cons_option (add_for n c) rest) → (Has a rest → HasLong (n ∷ marks) a.0 a.1) → HasLong (n ∷ marks) a.0 a.1
long_here marks n [] rest a h later = later h
long_here marks n (b ∷ c) rest a (inl is) later = record { mark = n; there = inl refl; same = ap (λ a. a.0) is; some = subst (λ k. k ≢ []) (ap (λ a. a.1) is) (not_nil b c) }
long_here marks n (b ∷ c) rest a (inr h) later = later h

pub long_of_add : (marks : List Mark) (contents : List (List ℕ)) (a : ℕ × List ℕ) → Has a (adds_of marks contents) → HasLong marks a.0 a.1
long_of_add [] contents a h = absurd h
long_of_add (n ∷ marks) [] a h = absurd h
long_of_add (n ∷ marks) (c ∷ contents) a h = long_here marks n c (adds_of marks contents) a h (λ there. let found = long_of_add marks contents a there in record { mark = found.mark; there = inr found.there; same = found.same; some = found.some })
