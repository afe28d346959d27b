-- The adds of a set that doesn't overflow are few and short.
use Rattle.tile_bridge.proofs.Common.{add_of, address, All, All-cons, All-head, All-nil, All-permutation, All-tail, AllSized, ap, AreFew, arith, Bool, bytes_of, cons_option, entries, false}
use Rattle.tile_bridge.proofs.Common.{IsPermutation, length, length_permutation, List, list_any, nat_le, nat_tests, None, Option, Options, overflows, Place, refl, Some, suc, sum_by, sum_by-cons}
use Rattle.tile_bridge.proofs.Common.{sum_by-IsPermutation, sym, TileSet, true, ℕ, [], ◌+◌, ◌<◌, ◌^◌, ◌||◌, ◌∙◌, ◌∷◌, ◌≡◌, ◌≤◌}
use Rattle.tile_bridge.proofs.AddLemmas.{Pairs, added}

or_parts : (a b : Bool) → a || b ≡ false → (a ≡ false) × (b ≡ false)
or_parts true b h = absurd (cc)
or_parts false b h = (refl, h)

-- the adds of entries are no more and no longer
adds_count : (es : Pairs) → length (added es) ≤ length es
adds_count [] = omega arith
adds_count (e ∷ es) = one e.0 e.1 (adds_count es)
  where
    one : (p : Place) (c : Option (List ℕ)) → length (added es) ≤ length es → length (cons_option (add_of (p, c)) (added es)) ≤ suc (length es)
    one p None h = omega (arith, h)
    one p (Some []) h = omega (arith, h)
    one p (Some (byte ∷ bytes)) h = omega (arith, h)

adds_total : (es : Pairs) → sum_by (λ a. length a.1) (added es) ≡ sum_by (λ e. length (bytes_of e.1)) es
adds_total [] = refl
adds_total (e ∷ es) = one e.0 e.1 ∙ ap (λ n. length (bytes_of e.1) + n) (adds_total es) ∙ sym (sum_by-cons (λ e. length (bytes_of e.1)) e es)
  where
    one : (p : Place) (c : Option (List ℕ)) → sum_by (λ a. length a.1) (cons_option (add_of (p, c)) (added es)) ≡ length (bytes_of c) + sum_by (λ a. length a.1) (added es)
    one p None = omega arith
    one p (Some []) = omega arith
    one p (Some (byte ∷ bytes)) = sum_by-cons (λ (a : ℕ × List ℕ). length a.1) (address p, byte ∷ bytes) (added es)

below_limit : (limit n : ℕ) → nat_le limit n ≡ false → n < limit
below_limit limit n h = grind (arith, nat_tests)

abbrev IsShort : ℕ × List ℕ → Type 0
IsShort a = length a.1 < 2 ^ 32

adds_short : (es : Pairs) → list_any (λ e. nat_le (2 ^ 32) (length (bytes_of e.1))) es ≡ false → All IsShort (added es)
adds_short [] h = All-nil IsShort
adds_short (e ∷ es) h =
    let parts = or_parts (nat_le (2 ^ 32) (length (bytes_of e.1))) (list_any (λ e. nat_le (2 ^ 32) (length (bytes_of e.1))) es) h in
    one e.0 e.1 (below_limit (2 ^ 32) (length (bytes_of e.1)) parts.0) (adds_short es parts.1)
  where
    one : (p : Place) (c : Option (List ℕ)) → length (bytes_of c) < 2 ^ 32 → All IsShort (added es) → All IsShort (cons_option (add_of (p, c)) (added es))
    one p None low all = all
    one p (Some []) low all = all
    one p (Some (byte ∷ bytes)) low all = All-cons IsShort (address p, byte ∷ bytes) (added es) low all

all_sized : (adds : List (ℕ × List ℕ)) → All IsShort adds → AllSized adds
all_sized [] h = tt
all_sized (a ∷ adds) h = (All-head IsShort a adds h, all_sized adds (All-tail IsShort a adds h))

pub adds_few : (set : TileSet) (adds : List (ℕ × List ℕ)) → IsPermutation (added (entries set)) adds → (o : Options) → length o.metadata < 2 ^ 63 → overflows set ≡ false → AreFew o adds
adds_few set adds moved o metadata fits =
    let es = entries set in
    let first = or_parts _ _ fits in
    let parts = or_parts _ _ first.1 in
    record {
      metadata = metadata;
      sized = all_sized adds (All-permutation IsShort (added es) adds moved (adds_short es first.0));
      count = omega (arith, adds_count es, length_permutation (added es) adds moved, below_limit (2 ^ 32) (length es) parts.0);
      total = omega (arith, adds_total es, sum_by-IsPermutation (λ a. length a.1) (added es) adds moved, below_limit (2 ^ 60) (sum_by (λ e. length (bytes_of e.1)) es) parts.1);
    }
