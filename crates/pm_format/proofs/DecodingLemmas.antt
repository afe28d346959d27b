-- A directory's count and its columns, one after another.
use Rattle.pm_format.proofs.Common.{ap, arith, below, Bool, column, columns_at, dir_of, entries_at, entries_of, Entry, false, ids_at, ids_from, IdsDontFall, if◌then◌else◌, length, List, nat_lt, None}
use Rattle.pm_format.proofs.Common.{NotFalling, number_at, offsets_from, Option, option_map, refl, Some, spelled, subst, suc, sym, true, u64_at, zero, ℕ, [], ◌%◌, ◌*◌, ◌+◌, ◌<◌, ◌>>=◌, ◌^◌, ◌∙◌, ◌∷◌}
use Rattle.pm_format.proofs.Common.{◌≡◌, ◌≤◌}
use Rattle.pm_format.proofs.ColumnLemmas.{beside, put}
use Rattle.pm_format.proofs.DirectoryPieces.{dont_fall}
use Rattle.pm_format.proofs.OptionLemmas.{bind_same, bind_none, bind_bind, bind_some, map_some}

-- the columns after the ids, where the ids are summed last
abbrev rest_by : ℕ → Option (List ℕ) → List ℕ → Option (List Entry)
rest_by n ids bs =
    column 5 (2 ^ 32) n bs >>= λ b.
    column 5 (2 ^ 32) n b.1 >>= λ c.
    column 10 (2 ^ 64) n c.1 >>= λ d.
    ids >>= λ ids.
    option_map (entries_of ids b.0 c.0) (offsets_from None c.0 d.0)

-- the same where they are summed first
abbrev after_ids : ℕ → List ℕ × List ℕ → Option (List Entry)
after_ids n a = column 5 (2 ^ 32) n a.1 >>= λ b. column 5 (2 ^ 32) n b.1 >>= λ c. entries_at None n a.0 b.0 c.0 c.1

by_ids : (n : ℕ) (bs : List ℕ) (x : Option (List ℕ)) → rest_by n x bs ≡ (option_map (beside bs) x >>= after_ids n)
by_ids n bs None = bind_none (column 5 (2 ^ 32) n bs) _ (λ b. bind_none (column 5 (2 ^ 32) n b.1) _ (λ c. bind_none (column 10 (2 ^ 64) n c.1) _ (λ d. refl)))
by_ids n bs (Some ids) = refl

abbrev ids_beside : List ℕ × List ℕ → Option (List ℕ × List ℕ)
ids_beside a = option_map (beside a.1) (ids_from 0 a.0)

-- the ids may be summed before the other columns are read
pub columns_are : (bytes : List ℕ) → dir_of bytes ≡ (u64_at bytes >>= λ n. columns_at n.0 n.1)
unfolding dir_of columns_at
columns_are bytes =
    bind_same (u64_at bytes) _ _
    (λ n. bind_same (column 10 (2 ^ 64) n.0 n.1) _ _ (λ a. by_ids n.0 a.1 (ids_from 0 a.0)) ∙ sym (bind_bind (column 10 (2 ^ 64) n.0 n.1) ids_beside (after_ids n.0)))

-- a number takes at least a byte
spelled_takes : (k : ℕ) (bs : List ℕ) (r : ℕ × List ℕ) → spelled k bs ≡ Some r → length r.1 + 1 ≤ length bs
spelled_takes zero bs r e = absurd (cc)
spelled_takes (suc k) [] r e = absurd (cc)
spelled_takes (suc k) (b ∷ bs) r e = go (nat_lt b 128) (spelled_takes k bs) e
  where
    go : (t : Bool) → ((r : ℕ × List ℕ) → spelled k bs ≡ Some r → length r.1 + 1 ≤ length bs) → (if t then Some (b, bs) else option_map (λ r. (b % 128 + 128 * r.0, r.1)) (spelled k bs)) ≡ Some r → length r.1 + 1 ≤ length (b ∷ bs)
    go true again f = let same : bs ≡ r.1 = ap (λ o. elim o as (λ o. List ℕ) [ None ↦ [] | Some p ↦ p.1 ]) f in omega (arith, ap length same)
    go false again f =
        let m = map_some (spelled k bs) _ r f in
        let g = again m.0 m.1 in
        omega (arith, g, ap (λ p. length p.1) m.2)

number_takes : (k limit : ℕ) (bs : List ℕ) (r : ℕ × List ℕ) → number_at k limit bs ≡ Some r → length r.1 + 1 ≤ length bs
number_takes k limit bs r e = go (spelled k bs) refl e
  where
    go : (x : Option (ℕ × List ℕ)) → spelled k bs ≡ x → below limit x ≡ Some r → length r.1 + 1 ≤ length bs
    go None s f = absurd (cc)
    go (Some q) s f = fits (nat_lt q.0 limit) f
      where
        fits : (t : Bool) → (if t then Some q else None) ≡ Some r → length r.1 + 1 ≤ length bs
        fits true f = let same : q ≡ r = cc in let g = spelled_takes k bs q s in omega (arith, g, ap (λ p. length p.1) same)
        fits false f = absurd (cc)

column_takes : (k limit n : ℕ) (bs : List ℕ) (r : List ℕ × List ℕ) → column k limit n bs ≡ Some r → length r.1 + n ≤ length bs
column_takes k limit zero bs r e = let same : bs ≡ r.1 = ap (λ o. elim o as (λ o. List ℕ) [ None ↦ [] | Some p ↦ p.1 ]) e in omega (arith, ap length same)
column_takes k limit (suc n) bs r e =
    let x = bind_some (number_at k limit bs) _ r e in
    let m = map_some (column k limit n x.0.1) (put x.0.0) r x.2 in
    let g = number_takes k limit bs x.0 x.1 in
    let h = column_takes k limit n x.0.1 m.0 m.1 in
    omega (arith, g, h, ap (λ p. length p.1) m.2)

pub no_columns : (n : ℕ) (bs : List ℕ) → ids_at 0 n bs ≡ None → columns_at n bs ≡ None
unfolding columns_at
no_columns n bs e = ap (λ x. x >>= after_ids n) e

pub no_runs : (n : ℕ) (bs ids rest : List ℕ) → ids_at 0 n bs ≡ Some (ids, rest) → column 5 (2 ^ 32) n rest ≡ None → columns_at n bs ≡ None
unfolding columns_at
no_runs n bs ids rest e f = ap (λ x. x >>= after_ids n) e ∙ ap (λ x. x >>= λ b. column 5 (2 ^ 32) n b.1 >>= λ c. entries_at None n ids b.0 c.0 c.1) f

-- after ids and runs
abbrev after_runs : ℕ → List ℕ → List ℕ × List ℕ → Option (List Entry)
after_runs n ids b = column 5 (2 ^ 32) n b.1 >>= λ c. entries_at None n ids b.0 c.0 c.1

runs_read : (n : ℕ) (bs ids rest runs more : List ℕ) → ids_at 0 n bs ≡ Some (ids, rest) → column 5 (2 ^ 32) n rest ≡ Some (runs, more) → columns_at n bs ≡ after_runs n ids (runs, more)
unfolding columns_at
runs_read n bs ids rest runs more e f = ap (λ x. x >>= after_ids n) e ∙ ap (λ x. x >>= after_runs n ids) f

pub no_lengths : (n : ℕ) (bs ids rest runs more : List ℕ) → ids_at 0 n bs ≡ Some (ids, rest) → column 5 (2 ^ 32) n rest ≡ Some (runs, more) → column 5 (2 ^ 32) n more ≡ None → columns_at n bs ≡ None
no_lengths n bs ids rest runs more e f g = runs_read n bs ids rest runs more e f ∙ ap (λ x. x >>= λ c. entries_at None n ids runs c.0 c.1) g

pub all_columns : (n : ℕ) (bs ids rest runs more lengths last : List ℕ) → ids_at 0 n bs ≡ Some (ids, rest) → column 5 (2 ^ 32) n rest ≡ Some (runs, more) → column 5 (2 ^ 32) n more ≡ Some (lengths, last)
    → columns_at n bs ≡ entries_at None n ids runs lengths last
all_columns n bs ids rest runs more lengths last e f g = runs_read n bs ids rest runs more e f ∙ ap (λ x. x >>= λ c. entries_at None n ids runs c.0 c.1) g

-- the same by slices that hold the three columns
pub columns_from : (n : ℕ) (bs ids rest runs more lengths last is rs ls : List ℕ) → ids_at 0 n bs ≡ Some (ids, rest) → column 5 (2 ^ 32) n rest ≡ Some (runs, more) → column 5 (2 ^ 32) n more ≡ Some (lengths, last)
    → length ids ≡ n → is ≡ ids → rs ≡ runs → ls ≡ lengths → columns_at n bs ≡ entries_at None (length is) is rs ls last
columns_from n bs ids rest runs more lengths last is rs ls e f g many i r l = all_columns n bs ids rest runs more lengths last e f g ∙ rw (i, r, l, many) refl

-- the entries of a directory have ids that don't fall
ids_rise : (last : ℕ) (ds ids runs lengths offsets : List ℕ) → ids_from last ds ≡ Some ids → NotFalling last (entries_of ids runs lengths offsets)
ids_rise last [] ids runs lengths offsets e = let none : [] ≡ ids = cc in subst (λ (i : List ℕ). NotFalling last (entries_of i runs lengths offsets)) none tt
ids_rise last (d ∷ ds) ids runs lengths offsets e = go (nat_lt (last + d) (2 ^ 64)) (ids_rise (last + d) ds) e
  where
    Rises : List ℕ → Type 0
    Rises more = (rs ls os : List ℕ) → NotFalling (last + d) (entries_of more rs ls os)

    beside_more : (more runs lengths offsets : List ℕ) → Rises more → NotFalling last (entries_of ((last + d) ∷ more) runs lengths offsets)
    beside_more more [] lengths offsets h = tt
    beside_more more (r ∷ rs) [] offsets h = tt
    beside_more more (r ∷ rs) (l ∷ ls) [] h = tt
    beside_more more (r ∷ rs) (l ∷ ls) (o ∷ os) h = (omega arith, h rs ls os)

    go : (t : Bool) → ((ids runs lengths offsets : List ℕ) → ids_from (last + d) ds ≡ Some ids → NotFalling (last + d) (entries_of ids runs lengths offsets))
        → (if t then option_map (λ ids. (last + d) ∷ ids) (ids_from (last + d) ds) else None) ≡ Some ids → NotFalling last (entries_of ids runs lengths offsets)
    go false again f = absurd (cc)
    go true again f =
        let m = map_some (ids_from (last + d) ds) (λ ids. (last + d) ∷ ids) ids f in
        subst (λ (i : List ℕ). NotFalling last (entries_of i runs lengths offsets)) m.2 (beside_more m.0 runs lengths offsets (λ rs ls os. again m.0 rs ls os m.1))

pub columns_rise : (n : ℕ) (bs : List ℕ) (es : List Entry) → columns_at n bs ≡ Some es → IdsDontFall es
unfolding columns_at
columns_rise n bs es e =
    let a = bind_some (ids_at 0 n bs) (after_ids n) es e in
    let ds = bind_some (column 10 (2 ^ 64) n bs) ids_beside a.0 a.1 in
    let ids = map_some (ids_from 0 ds.0.0) (beside ds.0.1) a.0 ds.2 in
    let b = bind_some (column 5 (2 ^ 32) n a.0.1) (after_runs n a.0.0) es a.2 in
    let c = bind_some (column 5 (2 ^ 32) n b.0.1) (λ c. entries_at None n a.0.0 b.0.0 c.0 c.1) es b.2 in
    let d = bind_some (column 10 (2 ^ 64) n c.0.1) (λ d. option_map (entries_of a.0.0 b.0.0 c.0.0) (offsets_from None c.0.0 d.0)) es c.2 in
    let os = map_some (offsets_from None c.0.0 d.0.0) (entries_of a.0.0 b.0.0 c.0.0) es d.2 in
    let same : ids.0 ≡ a.0.0 = ap (λ p. p.0) ids.2 in
    let rises = ids_rise 0 ds.0.0 a.0.0 b.0.0 c.0.0 os.0 (ids.1 ∙ ap Some same) in
    same_falls (entries_of a.0.0 b.0.0 c.0.0 os.0) es os.2 rises
  where
    same_falls : (xs ys : List Entry) → xs ≡ ys → NotFalling 0 xs → IdsDontFall ys
    same_falls xs ys e h = dont_fall 0 ys (subst (NotFalling 0) e h)

-- four columns of n numbers take at least four times n bytes
columns_take : (n : ℕ) (bs : List ℕ) (es : List Entry) → columns_at n bs ≡ Some es → 4 * n ≤ length bs
unfolding columns_at
columns_take n bs es e =
    let a = bind_some (ids_at 0 n bs) (after_ids n) es e in
    let ds = bind_some (column 10 (2 ^ 64) n bs) ids_beside a.0 a.1 in
    let ids = map_some (ids_from 0 ds.0.0) (beside ds.0.1) a.0 ds.2 in
    let b = bind_some (column 5 (2 ^ 32) n a.0.1) (after_runs n a.0.0) es a.2 in
    let c = bind_some (column 5 (2 ^ 32) n b.0.1) (λ c. entries_at None n a.0.0 b.0.0 c.0 c.1) es b.2 in
    let d = bind_some (column 10 (2 ^ 64) n c.0.1) (λ d. option_map (entries_of a.0.0 b.0.0 c.0.0) (offsets_from None c.0.0 d.0)) es c.2 in
    let ta = column_takes 10 (2 ^ 64) n bs ds.0 ds.1 in
    let same = ap (λ p. length p.1) ids.2 in
    let tb = column_takes 5 (2 ^ 32) n a.0.1 b.0 b.1 in
    let tc = column_takes 5 (2 ^ 32) n b.0.1 c.0 c.1 in
    let td = column_takes 10 (2 ^ 64) n c.0.1 d.0 d.1 in
    omega (arith, ta, same, tb, tc, td)

-- a directory whose count is read
pub counted : (bytes : List ℕ) (n : ℕ) (rest : List ℕ) → u64_at bytes ≡ Some (n, rest) → dir_of bytes ≡ columns_at n rest
counted bytes n rest e = columns_are bytes ∙ ap (λ x. x >>= λ n. columns_at n.0 n.1) e

pub uncounted : (bytes : List ℕ) → u64_at bytes ≡ None → dir_of bytes ≡ None
uncounted bytes e = columns_are bytes ∙ ap (λ x. x >>= λ n. columns_at n.0 n.1) e

pub too_many : (bytes : List ℕ) (n : ℕ) (rest : List ℕ) → u64_at bytes ≡ Some (n, rest) → length rest < 4 * n → dir_of bytes ≡ None
too_many bytes n rest e h = counted bytes n rest e ∙ go (columns_at n rest) refl
  where
    go : (x : Option (List Entry)) → columns_at n rest ≡ x → x ≡ None
    go None s = refl
    go (Some es) s = let g = columns_take n rest es s in absurd (omega (arith, g, h))
