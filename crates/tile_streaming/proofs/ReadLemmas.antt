-- Marks and what was read for them.
use Rattle.tile_streaming.proofs.Common.{add_fits, add_for, AddFits, add_to, adds_of, AllSized, ap, AreFew, AreRead, arith, Bool, cons_option, false, HaveLengths, is_too_long, IsRead, length, length-append, List, list_any, list_any-append, Mark, nat_le, nat_tests, None, Option, Options, overflow_of, refl, Some, subst, suc, sum_by, sum_by-append, sum_by-cons, sym, took_append, took_itself, TookAll, few_took, true, ℕ, [], ◌++◌, ◌+◌, ◌<◌, ◌^◌, ◌||◌, ◌∙◌, ◌∷◌, ◌≡◌, ◌≤◌}
use Rattle.tile_streaming.specs.Stored.{Stored}

-- the contents of marks have their lengths
module _ (tells : Bool) (t : Stored) where
  pub lengths_read : (marks : List Mark) (contents : List (List ℕ)) → AreRead tells t marks contents → HaveLengths marks contents
  lengths_read [] [] r = tt
  lengths_read [] (c ∷ contents) r = absurd r
  lengths_read (m ∷ marks) [] r = absurd r
  lengths_read (m ∷ marks) (c ∷ contents) r = (r.0.size, lengths_read marks contents r.1)

  -- one more mark
  pub read_more : (marks : List Mark) (contents : List (List ℕ)) (m : Mark) (c : List ℕ) → AreRead tells t marks contents → IsRead tells t m c → AreRead tells t (marks ++ m ∷ []) (contents ++ c ∷ [])
  read_more [] [] m c r one = (one, tt)
  read_more [] (d ∷ contents) m c r one = absurd r
  read_more (n ∷ marks) [] m c r one = absurd r
  read_more (n ∷ marks) (d ∷ contents) m c r one = (r.0, read_more marks contents m c r.1 one)

add_behind : (x : Option (ℕ × List ℕ)) (adds : List (ℕ × List ℕ)) (id : ℕ) (c : List ℕ) → cons_option x (add_to adds id c) ≡ add_to (cons_option x adds) id c
add_behind None adds id c = refl
add_behind (Some x) adds id [] = refl
add_behind (Some x) adds id (b ∷ c) = refl

add_first : (m : Mark) (c : List ℕ) → cons_option (add_for m c) [] ≡ add_to [] m.id c
add_first m [] = refl
add_first m (b ∷ c) = refl

pub adds_more : (marks : List Mark) (contents : List (List ℕ)) (m : Mark) (c : List ℕ) → HaveLengths marks contents → adds_of (marks ++ m ∷ []) (contents ++ c ∷ []) ≡ add_to (adds_of marks contents) m.id c
adds_more [] [] m c h = add_first m c
adds_more [] (d ∷ contents) m c h = absurd h
adds_more (n ∷ marks) [] m c h = absurd h
adds_more (n ∷ marks) (d ∷ contents) m c h = ap (cons_option (add_for n d)) (adds_more marks contents m c h.1) ∙ add_behind (add_for n d) (adds_of marks contents) m.id c

pub lengths_more : (marks : List Mark) (contents : List (List ℕ)) (m : Mark) (c : List ℕ) → HaveLengths marks contents → length c ≡ m.length → HaveLengths (marks ++ m ∷ []) (contents ++ c ∷ [])
lengths_more [] [] m c h one = (one, tt)
lengths_more [] (d ∷ contents) m c h one = absurd h
lengths_more (n ∷ marks) [] m c h one = absurd h
lengths_more (n ∷ marks) (d ∷ contents) m c h one = (h.0, lengths_more marks contents m c h.1 one)

-- the adds of marks are no more and no longer
adds_count : (marks : List Mark) (contents : List (List ℕ)) → length (adds_of marks contents) ≤ length marks
adds_count [] contents = omega arith
adds_count (m ∷ marks) [] = omega arith
adds_count (m ∷ marks) (c ∷ contents) = one c (adds_count marks contents)
  where
    one : (c : List ℕ) → length (adds_of marks contents) ≤ length marks → length (cons_option (add_for m c) (adds_of marks contents)) ≤ suc (length marks)
    one [] h = omega (arith, h)
    one (b ∷ c) h = omega (arith, h)

adds_total : (marks : List Mark) (contents : List (List ℕ)) → HaveLengths marks contents → sum_by (λ a. length a.1) (adds_of marks contents) ≡ sum_by (λ m. m.length) marks
adds_total [] [] h = refl
adds_total [] (c ∷ contents) h = absurd h
adds_total (m ∷ marks) [] h = absurd h
adds_total (m ∷ marks) (c ∷ contents) h =
    let rest = adds_total marks contents h.1 in
    let whole = sum_by-cons (λ (m : Mark). m.length) m marks in
    omega (arith, one c, rest, whole, h.0)
  where
    one : (c : List ℕ) → sum_by (λ a. length a.1) (cons_option (add_for m c) (adds_of marks contents)) ≡ length c + sum_by (λ a. length a.1) (adds_of marks contents)
    one [] = omega arith
    one (b ∷ c) = sum_by-cons (λ (a : ℕ × List ℕ). length a.1) (m.id, b ∷ c) (adds_of marks contents)

pub or_parts : (a b : Bool) → a || b ≡ false → (a ≡ false) × (b ≡ false)
or_parts true b h = absurd (cc)
or_parts false b h = (refl, h)

or_none : (a b : Bool) → a ≡ false → b ≡ false → a || b ≡ false
or_none a b h k = ap (λ x. x || b) h ∙ k

pub below_limit : (limit n : ℕ) → nat_le limit n ≡ false → n < limit
below_limit limit n h = grind (arith, nat_tests)

from_limit : (limit n : ℕ) → n < limit → nat_le limit n ≡ false
from_limit limit n h = grind (arith, nat_tests)

abbrev any_long : List Mark → Bool
any_long marks = list_any is_too_long marks

adds_short : (marks : List Mark) (contents : List (List ℕ)) → HaveLengths marks contents → any_long marks ≡ false → AllSized (adds_of marks contents)
adds_short [] [] h none = tt
adds_short [] (c ∷ contents) h none = absurd h
adds_short (m ∷ marks) [] h none = absurd h
adds_short (m ∷ marks) (c ∷ contents) h none =
    let parts = or_parts (is_too_long m) (any_long marks) none in
    one c (omega (arith, h.0, below_limit (2 ^ 32) m.length (or_parts m.is_long (nat_le (2 ^ 32) m.length) parts.0).1)) (adds_short marks contents h.1 parts.1)
  where
    one : (c : List ℕ) → length c < 2 ^ 32 → AllSized (adds_of marks contents) → AllSized (cons_option (add_for m c) (adds_of marks contents))
    one [] low all = all
    one (b ∷ c) low all = (low, all)

-- adds of marks that don't overflow are few and short
pub adds_few : (o : Options) (marks : List Mark) (contents : List (List ℕ)) → length o.metadata < 2 ^ 63 → overflow_of marks ≡ false → HaveLengths marks contents → AreFew o (adds_of marks contents)
adds_few o marks contents metadata fits h =
    let first = or_parts (any_long marks) _ fits in
    let parts = or_parts (nat_le (2 ^ 32) (length marks)) _ first.1 in
    record {
      metadata = metadata;
      sized = adds_short marks contents h first.0;
      count = omega (arith, adds_count marks contents, below_limit (2 ^ 32) (length marks) parts.0);
      total = omega (arith, adds_total marks contents h, below_limit (2 ^ 60) (sum_by (λ (m : Mark). m.length) marks) parts.1);
    }

-- nor does a front of them
pub front_fits : (front rest : List Mark) → overflow_of (front ++ rest) ≡ false → overflow_of front ≡ false
front_fits front rest fits =
    let first = or_parts (any_long (front ++ rest)) _ fits in
    let parts = or_parts (nat_le (2 ^ 32) (length (front ++ rest))) _ first.1 in
    let long = or_parts (any_long front) (any_long rest) (sym (list_any-append is_too_long front rest) ∙ first.0) in
    let count : length front < 2 ^ 32 = omega (arith, length-append front rest, below_limit (2 ^ 32) (length (front ++ rest)) parts.0) in
    let total : sum_by (λ (m : Mark). m.length) front < 2 ^ 60 = omega (arith, sum_by-append (λ (m : Mark). m.length) front rest, below_limit (2 ^ 60) (sum_by (λ (m : Mark). m.length) (front ++ rest)) parts.1) in
    or_none _ _ long.0 (or_none _ _ (from_limit (2 ^ 32) (length front) count) (from_limit (2 ^ 60) _ total))

-- what one more content is taken for fits behind what those before it were taken for
pub next_fits : (told : Option (List ℕ)) (o : Options) (marks : List Mark) (contents : List (List ℕ)) (m : Mark) (ts : List (ℕ × List ℕ)) (taken : List ℕ) → length o.metadata < 2 ^ 63 → overflow_of (marks ++ m ∷ []) ≡ false → HaveLengths marks contents → TookAll told (adds_of marks contents) ts
    → length taken ≡ m.length → 0 < m.length → AddFits o ts m.id taken
next_fits told o marks contents m ts [] metadata fits h all size some = absurd (omega (arith, size, some))
next_fits told o marks contents m ts (b ∷ taken) metadata fits h all size some =
    let gs = adds_of marks contents in
    let few : AreFew o (gs ++ (m.id, b ∷ taken) ∷ []) = subst (AreFew o) (adds_more marks contents m (b ∷ taken) h) (adds_few o (marks ++ m ∷ []) (contents ++ (b ∷ taken) ∷ []) metadata fits (lengths_more marks contents m (b ∷ taken) h size)) in
    add_fits o ts [] m.id (b ∷ taken) (few_took told o (gs ++ (m.id, b ∷ taken) ∷ []) (ts ++ (m.id, b ∷ taken) ∷ []) (took_append told gs ts ((m.id, b ∷ taken) ∷ []) ((m.id, b ∷ taken) ∷ []) all (refl, took_itself told (b ∷ taken), tt)) few)
