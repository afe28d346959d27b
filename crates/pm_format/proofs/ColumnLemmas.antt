-- One turn of the loops over columns.
use Rattle.pm_format.proofs.Common.{ap, append_assoc, arith, column, drop, false, ids_at, ids_from, if◌then◌else◌, length, length-append, List, nat_lt, nat_tests, None, number_at, Option, option_map}
use Rattle.pm_format.proofs.Common.{refl, Some, suc, sym, true, u32_at, u64_at, ℕ, [], ◌++◌, ◌+◌, ◌-◌, ◌<◌, ◌>>=◌, ◌^◌, ◌∙◌, ◌∷◌, ◌≡◌, ◌≤◌}

-- what was read before stands in front of what is read
abbrev pub behind : {A : Type 0} → List A → List A × List ℕ → List A × List ℕ
behind front r = (front ++ r.0, r.1)

pub behind_one : {A : Type 0} (front : List A) (n : A) (x : Option (List A × List ℕ)) → option_map (behind front) (option_map (λ r. (n ∷ r.0, r.1)) x) ≡ option_map (behind (front ++ n ∷ [])) x
behind_one front n None = refl
behind_one front n (Some r) = ap (λ s. Some (s, r.1)) (sym (append_assoc front (n ∷ []) r.0))

pub u64_number : (bs : List ℕ) → u64_at bs ≡ number_at 10 (2 ^ 64) bs
unfolding u64_at
u64_number bs = refl

pub u32_number : (bs : List ℕ) → u32_at bs ≡ number_at 5 (2 ^ 32) bs
unfolding u32_at
u32_number bs = refl

pub one_less : (count i : ℕ) → i < count → count - i ≡ suc (count - (i + 1))
one_less count i h = omega arith

-- i numbers of a column are read
pub record ColumnReading (bytes : List ℕ) (width limit start count i at : ℕ) (numbers : List ℕ) : Type 0 where
  pub within : at ≤ length bytes
  pub many : length numbers ≡ i
  pub same : column width limit count (drop start bytes) ≡ option_map (behind numbers) (column width limit (count - i) (drop at bytes))

-- one number more in front
abbrev pub put : ℕ → List ℕ × List ℕ → List ℕ × List ℕ
put n r = (n ∷ r.0, r.1)

pub column_next : (width limit n : ℕ) (bs rest : List ℕ) (m : ℕ) → number_at width limit bs ≡ Some (m, rest) → column width limit (suc n) bs ≡ option_map (put m) (column width limit n rest)
column_next width limit n bs rest m e = ap (λ x. x >>= λ x. option_map (λ r. (x.0 ∷ r.0, r.1)) (column width limit n x.1)) e

pub column_none : (width limit n : ℕ) (bs : List ℕ) → number_at width limit bs ≡ None → column width limit (suc n) bs ≡ None
column_none width limit n bs e = ap (λ x. x >>= λ x. option_map (λ r. (x.0 ∷ r.0, r.1)) (column width limit n x.1)) e

pub column_step : (bytes : List ℕ) (width limit start count i at m next : ℕ) (numbers : List ℕ) → i < count → next ≤ length bytes
    → number_at width limit (drop at bytes) ≡ Some (m, drop next bytes) → ColumnReading bytes width limit start count i at numbers → ColumnReading bytes width limit start count (i + 1) next (numbers ++ m ∷ [])
column_step bytes width limit start count i at m next numbers h w found c = record {
  within = w;
  many = length-append numbers (m ∷ []) ∙ ap (λ k. k + 1) c.many;
  same =
      c.same ∙ (ap (λ k. option_map (behind numbers) (column width limit k (drop at bytes))) (one_less count i h)
      ∙ (ap (option_map (behind numbers)) (column_next width limit (count - (i + 1)) (drop at bytes) (drop next bytes) m found)
      ∙ behind_one numbers m (column width limit (count - (i + 1)) (drop next bytes))));
}

pub column_stop : (bytes : List ℕ) (width limit start count i at : ℕ) (numbers : List ℕ) → i < count → number_at width limit (drop at bytes) ≡ None → ColumnReading bytes width limit start count i at numbers
    → column width limit count (drop start bytes) ≡ None
column_stop bytes width limit start count i at numbers h none c =
    c.same ∙ (ap (λ k. option_map (behind numbers) (column width limit k (drop at bytes))) (one_less count i h)
    ∙ ap (option_map (behind numbers)) (column_none width limit (count - (i + 1)) (drop at bytes) none))

-- i ids are read, of which the last is given
pub record IdsReading (bytes : List ℕ) (start count i at last : ℕ) (ids : List ℕ) : Type 0 where
  pub within : at ≤ length bytes
  pub many : length ids ≡ i
  pub same : ids_at 0 count (drop start bytes) ≡ option_map (behind ids) (ids_at last (count - i) (drop at bytes))

abbrev pub beside : List ℕ → List ℕ → List ℕ × List ℕ
beside rest ids = (ids, rest)

abbrev pairs_from : ℕ → List ℕ × List ℕ → Option (List ℕ × List ℕ)
pairs_from last a = option_map (beside a.1) (ids_from last a.0)

ids_next : (last n d : ℕ) (bs rest : List ℕ) → number_at 10 (2 ^ 64) bs ≡ Some (d, rest) → last + d < 2 ^ 64 → ids_at last (suc n) bs ≡ option_map (put (last + d)) (ids_at (last + d) n rest)
ids_next last n d bs rest e h = ap (λ x. x >>= pairs_from last) (column_next 10 (2 ^ 64) n bs rest d e) ∙ go (column 10 (2 ^ 64) n rest)
  where
    fits : nat_lt (last + d) (2 ^ 64) ≡ true
    fits = grind (arith, nat_tests)

    swapped : (x : Option (List ℕ)) (rest : List ℕ) → option_map (beside rest) (option_map (λ ids. (last + d) ∷ ids) x) ≡ option_map (put (last + d)) (option_map (beside rest) x)
    swapped None rest = refl
    swapped (Some ids) rest = refl

    go : (x : Option (List ℕ × List ℕ)) → (option_map (put d) x >>= pairs_from last) ≡ option_map (put (last + d)) (x >>= pairs_from (last + d))
    go None = refl
    go (Some r) = ap (λ b. option_map (beside r.1) (if b then option_map (λ ids. (last + d) ∷ ids) (ids_from (last + d) r.0) else None)) fits ∙ swapped (ids_from (last + d) r.0) r.1

ids_none : (last n : ℕ) (bs : List ℕ) → number_at 10 (2 ^ 64) bs ≡ None → ids_at last (suc n) bs ≡ None
ids_none last n bs e = ap (λ x. x >>= pairs_from last) (column_none 10 (2 ^ 64) n bs e)

ids_past : (last n d : ℕ) (bs rest : List ℕ) → number_at 10 (2 ^ 64) bs ≡ Some (d, rest) → 2 ^ 64 ≤ last + d → ids_at last (suc n) bs ≡ None
ids_past last n d bs rest e h = ap (λ x. x >>= pairs_from last) (column_next 10 (2 ^ 64) n bs rest d e) ∙ go (column 10 (2 ^ 64) n rest)
  where
    passes : nat_lt (last + d) (2 ^ 64) ≡ false
    passes = grind (arith, nat_tests)

    go : (x : Option (List ℕ × List ℕ)) → (option_map (put d) x >>= pairs_from last) ≡ None
    go None = refl
    go (Some r) = ap (λ b. option_map (beside r.1) (if b then option_map (λ ids. (last + d) ∷ ids) (ids_from (last + d) r.0) else None)) passes

pub ids_step : (bytes : List ℕ) (start count i at last d next : ℕ) (ids : List ℕ) → i < count → next ≤ length bytes → number_at 10 (2 ^ 64) (drop at bytes) ≡ Some (d, drop next bytes) → last + d < 2 ^ 64
    → IdsReading bytes start count i at last ids → IdsReading bytes start count (i + 1) next (last + d) (ids ++ (last + d) ∷ [])
ids_step bytes start count i at last d next ids h w found fits c = record {
  within = w;
  many = length-append ids ((last + d) ∷ []) ∙ ap (λ k. k + 1) c.many;
  same =
      c.same ∙ (ap (λ k. option_map (behind ids) (ids_at last k (drop at bytes))) (one_less count i h)
      ∙ (ap (option_map (behind ids)) (ids_next last (count - (i + 1)) d (drop at bytes) (drop next bytes) found fits)
      ∙ behind_one ids (last + d) (ids_at (last + d) (count - (i + 1)) (drop next bytes))));
}

pub ids_stop : (bytes : List ℕ) (start count i at last : ℕ) (ids : List ℕ) → i < count → number_at 10 (2 ^ 64) (drop at bytes) ≡ None → IdsReading bytes start count i at last ids → ids_at 0 count (drop start bytes) ≡ None
ids_stop bytes start count i at last ids h none c =
    c.same ∙ (ap (λ k. option_map (behind ids) (ids_at last k (drop at bytes))) (one_less count i h) ∙ ap (option_map (behind ids)) (ids_none last (count - (i + 1)) (drop at bytes) none))

pub ids_pass : (bytes : List ℕ) (start count i at last d next : ℕ) (ids : List ℕ) → i < count → number_at 10 (2 ^ 64) (drop at bytes) ≡ Some (d, drop next bytes) → 2 ^ 64 ≤ last + d → IdsReading bytes start count i at last ids
    → ids_at 0 count (drop start bytes) ≡ None
ids_pass bytes start count i at last d next ids h found past c =
    c.same ∙ (ap (λ k. option_map (behind ids) (ids_at last k (drop at bytes))) (one_less count i h) ∙ ap (option_map (behind ids)) (ids_past last (count - (i + 1)) d (drop at bytes) (drop next bytes) found past))
