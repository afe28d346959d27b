-- Spellings and what is read and written agree.
use Rattle.pm_format.proofs.Common.{All, ap, arith, below, EndsAboveZero, inl, inr, IsShort, IsSpelling, length, List, lt_or, nat_tests, None, Option, option_map, refl, short_of, Some, spelled}
use Rattle.pm_format.proofs.Common.{spelled_value, SpellsU64, subst, suc, sym, u64_at, varint, zero, ℕ, [], ◌%◌, ◌*◌, ◌++◌, ◌+◌, ◌/◌, ◌<◌, ◌^◌, ◌∙◌, ◌∷◌, ◌≡◌, ◌≤◌, ◌⊎◌}
use Rattle.pm_format.proofs.OptionLemmas.{map_some}
use Rattle.pm_format.proofs.VarintReadingLemmas.{below_low, carried, spelled_last, spelled_more}
use Rattle.pm_format.proofs.VarintLemmas.{short_last, short_more, low_more}

spelling_gives : (k : ℕ) (s rest : List ℕ) → IsSpelling s → length s ≤ k → spelled k (s ++ rest) ≡ Some (spelled_value s, rest)
spelling_gives k [] rest h l = absurd h
spelling_gives zero (b ∷ bs) rest h l = absurd (omega (arith, l))
spelling_gives (suc k) (b ∷ []) rest h l = let e : b ≡ b % 128 + 128 * 0 = omega (arith, h) in spelled_last k b rest h ∙ ap (λ n. Some (n, rest)) e
spelling_gives (suc k) (b ∷ c ∷ bs) rest h l =
    spelled_more k b ((c ∷ bs) ++ rest) h.0 ∙ ap (option_map (carried (b % 128) 128)) (spelling_gives k (c ∷ bs) rest h.2 (omega (arith, l)))

pub u64_read : (s rest : List ℕ) (n : ℕ) → SpellsU64 s n → u64_at (s ++ rest) ≡ Some (n, rest)
unfolding u64_at
u64_read s rest n h = ap (below (2 ^ 64)) (spelling_gives 10 s rest h.form h.short ∙ ap (λ n. Some (n, rest)) h.stands) ∙ below_low (2 ^ 64) n rest h.fits

-- a front of the bytes that is a spelling of the number
record Front (k : ℕ) (bs : List ℕ) (r : ℕ × List ℕ) : Type 0 where
  pub bytes : List ℕ
  pub whole : bs ≡ bytes ++ r.1
  pub form : IsSpelling bytes
  pub short : length bytes ≤ k
  pub stands : spelled_value bytes ≡ r.0

all_tail : (b : ℕ) (bs : List ℕ) → All (λ b. b < 256) (b ∷ bs) → All (λ b. b < 256) bs
all_tail b bs h = λ k d q. h (suc k) d (omega (arith, q))

longer : (k b : ℕ) (bs : List ℕ) (q : ℕ × List ℕ) → 128 ≤ b → b < 256 → Front k bs q → Front (suc k) (b ∷ bs) (carried (b % 128) 128 q)
longer k b bs q low high f = record {
  bytes = b ∷ f.bytes;
  whole = ap (λ s. b ∷ s) f.whole;
  form = go f.bytes f.form;
  short = omega (arith, f.short);
  stands = ap (λ n. b % 128 + 128 * n) f.stands;
}
  where
    go : (s : List ℕ) → IsSpelling s → IsSpelling (b ∷ s)
    go [] h = absurd h
    go (c ∷ cs) h = (low, high, h)

front_of : (k : ℕ) (bs : List ℕ) (r : ℕ × List ℕ) → All (λ b. b < 256) bs → spelled k bs ≡ Some r → Front k bs r
front_of zero bs r h e = absurd (cc)
front_of (suc k) [] r h e = absurd (cc)
front_of (suc k) (b ∷ bs) r h e = go (lt_or b 128) (λ q f. front_of k bs q (all_tail b bs h) f)
  where
    go : (b < 128) ⊎ (128 ≤ b) → ((q : ℕ × List ℕ) → spelled k bs ≡ Some q → Front k bs q) → Front (suc k) (b ∷ bs) r
    go (inl low) again =
        let same : Some (b, bs) ≡ Some r = sym (spelled_last k b bs low) ∙ e in
        let is : (b, bs) ≡ r = cc in
        subst (Front (suc k) (b ∷ bs)) is (record { bytes = b ∷ []; whole = refl; form = low; short = omega arith; stands = omega (arith, low) })
    go (inr high) again =
        let m = map_some (spelled k bs) (carried (b % 128) 128) r (sym (spelled_more k b bs high) ∙ e) in
        subst (Front (suc k) (b ∷ bs)) m.2 (longer k b bs m.0 high (h 0 b (omega arith)) (again m.0 m.1))

pub u64_spelling : (bs rest : List ℕ) (n : ℕ) → All (λ b. b < 256) bs → u64_at bs ≡ Some (n, rest) → (s : List ℕ) × (bs ≡ s ++ rest) × SpellsU64 s n
unfolding u64_at
u64_spelling bs rest n h e = go (spelled 10 bs) refl e
  where
    go : (x : Option (ℕ × List ℕ)) → spelled 10 bs ≡ x → below (2 ^ 64) x ≡ Some (n, rest) → (s : List ℕ) × (bs ≡ s ++ rest) × SpellsU64 s n
    go None s f = absurd (cc)
    go (Some q) s f = fits (lt_or q.0 (2 ^ 64))
      where
        fits : (q.0 < 2 ^ 64) ⊎ (2 ^ 64 ≤ q.0) → (s : List ℕ) × (bs ≡ s ++ rest) × SpellsU64 s n
        fits (inl low) =
            let kept : below (2 ^ 64) (Some q) ≡ Some q = grind (arith, nat_tests) in
            let value : q.0 ≡ n = ap (λ o. elim o as (λ o. ℕ) [ None ↦ 0 | Some p ↦ p.0 ]) (sym kept ∙ f) in
            let left : q.1 ≡ rest = ap (λ o. elim o as (λ o. List ℕ) [ None ↦ [] | Some p ↦ p.1 ]) (sym kept ∙ f) in
            let front = front_of 10 bs q h s in
            (front.bytes, front.whole ∙ ap (λ r. front.bytes ++ r) left, record { form = front.form; short = front.short; stands = front.stands ∙ value; fits = subst (λ m. m < 2 ^ 64) value low })
        fits (inr high) = let gone : below (2 ^ 64) (Some q) ≡ None = grind (arith, nat_tests) in absurd (cc)

-- a spelling of n in at most k + 1 bytes, without padding
record Good (k n : ℕ) (s : List ℕ) : Type 0 where
  pub form : IsSpelling s
  pub short : length s ≤ suc k
  pub stands : spelled_value s ≡ n
  pub plain : IsShort s

one_byte : (k n : ℕ) → n < 128 → Good k n (n ∷ [])
one_byte k n h = record { form = h; short = omega arith; stands = omega (arith, h); plain = go (lt_or 0 n) }
  where
    go : (0 < n) ⊎ (n ≤ 0) → IsShort (n ∷ [])
    go (inl above) = inr above
    go (inr below) = let e : n ≡ 0 = omega (arith, below) in inl (ap (λ b. b ∷ []) e)

more_bytes : (k n : ℕ) (s : List ℕ) → 128 ≤ n → Good k (n / 128) s → Good (suc k) n ((n % 128 + 128) ∷ s)
more_bytes k n s h g = record {
  form = formed s g.form;
  short = omega (arith, g.short);
  stands = omega (arith, g.stands);
  plain = inr (ends s g.form g.stands g.plain);
}
  where
    low : n % 128 + 128 < 256
    low = omega arith

    formed : (s : List ℕ) → IsSpelling s → IsSpelling ((n % 128 + 128) ∷ s)
    formed [] f = absurd f
    formed (c ∷ cs) f = (omega arith, low, f)

    ends : (s : List ℕ) → IsSpelling s → spelled_value s ≡ n / 128 → IsShort s → EndsAboveZero ((n % 128 + 128) ∷ s)
    ends [] f e p = absurd f
    ends (c ∷ cs) f e (inl zero_alone) = let none : spelled_value (c ∷ cs) ≡ 0 = ap spelled_value zero_alone in absurd (omega (arith, none, e, h))
    ends (c ∷ cs) f e (inr above) = above

short_form : (k n : ℕ) → n < 128 ^ suc k → Good k n (short_of (suc k) n)
short_form zero n h = let low : n < 128 = omega (arith, h) in subst (Good zero n) (sym (short_last zero n low)) (one_byte zero n low)
short_form (suc k) n h = go (lt_or n 128) (λ q. short_form k (n / 128) q)
  where
    go : (n < 128) ⊎ (128 ≤ n) → (n / 128 < 128 ^ suc k → Good k (n / 128) (short_of (suc k) (n / 128))) → Good (suc k) n (short_of (suc (suc k)) n)
    go (inl low) again = subst (Good (suc k) n) (sym (short_last (suc k) n low)) (one_byte (suc k) n low)
    go (inr high) again = subst (Good (suc k) n) (sym (short_more (suc k) n high)) (more_bytes k n (short_of (suc k) (n / 128)) high (again (low_more k n h)))

pub short_written : (n : ℕ) → n < 2 ^ 64 → SpellsU64 (varint n) n × IsShort (varint n)
unfolding varint
short_written n h = let g = short_form 9 n (omega (arith, h)) in (record { form = g.form; short = g.short; stands = g.stands; fits = h }, g.plain)

ends_positive : (s : List ℕ) → IsSpelling s → EndsAboveZero s → 0 < spelled_value s
ends_positive [] h e = absurd h
ends_positive (b ∷ []) h e = omega (arith, h, e)
ends_positive (b ∷ c ∷ bs) h e = let g = ends_positive (c ∷ bs) h.2 e in omega (arith, g)

short_alone : (k : ℕ) (s : List ℕ) → IsSpelling s → IsShort s → length s ≤ suc k → short_of (suc k) (spelled_value s) ≡ s
short_alone k [] h p l = absurd h
short_alone k (b ∷ []) h p l = let e : b % 128 + 128 * 0 ≡ b = omega (arith, h) in ap (short_of (suc k)) e ∙ short_last k b h
short_alone zero (b ∷ c ∷ bs) h p l = absurd (omega (arith, l))
short_alone (suc k) (b ∷ c ∷ bs) h (inl e) l = absurd (cc)
short_alone (suc k) (b ∷ c ∷ bs) h (inr e) l =
    let again = short_alone k (c ∷ bs) h.2 (inr e) (omega (arith, l)) in
    let above = ends_positive (c ∷ bs) h.2 e in
    more b (spelled_value (c ∷ bs)) (c ∷ bs) h.0 h.1 above again
  where
    more : (b v : ℕ) (s : List ℕ) → 128 ≤ b → b < 256 → 0 < v → short_of (suc k) v ≡ s → short_of (suc (suc k)) (b % 128 + 128 * v) ≡ b ∷ s
    more b v s low high pos e =
        let front : (b % 128 + 128 * v) % 128 + 128 ≡ b = omega (arith, low, high) in
        let rest : (b % 128 + 128 * v) / 128 ≡ v = omega arith in
        short_more (suc k) (b % 128 + 128 * v) (omega (arith, pos)) ∙ (ap (λ x. x ∷ short_of (suc k) ((b % 128 + 128 * v) / 128)) front ∙ ap (λ t. b ∷ t) (ap (short_of (suc k)) rest ∙ e))

pub one_short : (s : List ℕ) (n : ℕ) → SpellsU64 s n → IsShort s → s ≡ varint n
unfolding varint
one_short s n h p = sym (short_alone 9 s h.form p h.short) ∙ ap (short_of 10) h.stands
