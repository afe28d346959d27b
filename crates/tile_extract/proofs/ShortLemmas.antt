-- Entries of directories have lengths below 2^32.
use Rattle.tile_extract.proofs.Common.{ap, Bool, column, dir_of, entries_of, Entry, Err, false, Header, ids_from, if◌then◌else◌, leaf_of, List, lt_by, nat_lt, None, none-some, offsets_from}
use Rattle.tile_extract.proofs.Common.{Ok, Opened, opened, Option, option_map, PmtError, range_of, refl, Result, Some, subst, suc, true, zero, ℕ, [], ◌+◌, ◌<◌, ◌^◌, ◌∷◌, ◌≡◌}
use Rattle.pm_format.specs.declared.error.PmtError.TheVariants as errors
use Rattle.pm_format.specs.declared.error.ReadCause.TheVariants as causes
use Rattle.pm_format.specs.Varint.{below, number_at, spelled, u64_at}
use Rattle.pm_format.proofs.OptionLemmas.{bind_some, map_some}
use Rattle.tile_extract.proofs.FitLemmas.{opened_parts}

-- each length fits u32
abbrev pub AreShort : List Entry → Type 0
AreShort [] = Unit {0}
AreShort (e ∷ es) = (e.length < 2 ^ 32) × AreShort es

-- numbers below a limit
abbrev AreBelow : ℕ → List ℕ → Type 0
AreBelow limit [] = Unit {0}
AreBelow limit (n ∷ ns) = (n < limit) × AreBelow limit ns

number_below : (k limit : ℕ) (bs : List ℕ) (r : ℕ × List ℕ) → number_at k limit bs ≡ Some r → r.0 < limit
number_below k limit bs r is = by_spelled (spelled k bs) is
  where
    by_spelled : (x : Option (ℕ × List ℕ)) → below limit x ≡ Some r → r.0 < limit
    by_spelled None is = absurd (none-some r is)
    by_spelled (Some q) is = by_test (nat_lt q.0 limit) refl is
      where
        by_test : (t : Bool) → nat_lt q.0 limit ≡ t → (if t then Some q else None) ≡ Some r → r.0 < limit
        by_test true fits is = let same : q ≡ r = cc in subst (λ p. p.0 < limit) same (lt_by q.0 limit fits)
        by_test false fits is = absurd (none-some r is)

column_below : (k limit n : ℕ) (bs : List ℕ) (r : List ℕ × List ℕ) → column k limit n bs ≡ Some r → AreBelow limit r.0
column_below k limit zero bs r is = let same : [] ≡ r.0 = ap (λ o. elim o as (λ o. List ℕ) [ None ↦ [] | Some p ↦ p.0 ]) is in subst (AreBelow limit) same tt
column_below k limit (suc n) bs r is =
    let x = bind_some (number_at k limit bs) (λ x. option_map (λ r. (x.0 ∷ r.0, r.1)) (column k limit n x.1)) r is in
    let m = map_some (column k limit n x.0.1) (λ r. (x.0.0 ∷ r.0, r.1)) r x.2 in
    subst (λ p. AreBelow limit p.0) m.2 (number_below k limit bs x.0 x.1, column_below k limit n x.0.1 m.0 m.1)

entries_short : (ids runs lengths offsets : List ℕ) → AreBelow (2 ^ 32) lengths → AreShort (entries_of ids runs lengths offsets)
entries_short [] runs lengths offsets b = tt
entries_short (i ∷ ids) [] lengths offsets b = tt
entries_short (i ∷ ids) (r ∷ runs) [] offsets b = tt
entries_short (i ∷ ids) (r ∷ runs) (l ∷ lengths) [] b = tt
entries_short (i ∷ ids) (r ∷ runs) (l ∷ lengths) (o ∷ offsets) b = (b.0, entries_short ids runs lengths offsets b.1)

dir_short : (bytes : List ℕ) (es : List Entry) → dir_of bytes ≡ Some es → AreShort es
unfolding dir_of
dir_short bytes es is =
    let n = bind_some (u64_at bytes) _ es is in
    let a = bind_some (column 10 (2 ^ 64) n.0.0 n.0.1) _ es n.2 in
    let b = bind_some (column 5 (2 ^ 32) n.0.0 a.0.1) _ es a.2 in
    let c = bind_some (column 5 (2 ^ 32) n.0.0 b.0.1) _ es b.2 in
    let d = bind_some (column 10 (2 ^ 64) n.0.0 c.0.1) _ es c.2 in
    let ids = bind_some (ids_from 0 a.0.0) _ es d.2 in
    let os = map_some (offsets_from None c.0.0 d.0.0) (entries_of ids.0 b.0.0 c.0.0) es ids.2 in
    subst AreShort os.2 (entries_short ids.0 b.0.0 c.0.0 os.0 (column_below 5 (2 ^ 32) n.0.0 b.0.1 c.0 c.1))

-- those of a leaf
pub leaf_short : (h : Header) (b : List ℕ) (e : Entry) (leaf : List Entry) → leaf_of h b e ≡ Ok leaf → AreShort leaf
leaf_short h b e leaf is = by_range (range_of b (h.leaf_offset + e.offset) e.length) is
  where
    by_dir : (bytes : List ℕ) (d : Option (List Entry)) → dir_of bytes ≡ d → (elim d as (λ _. Result (List Entry) PmtError) [ None ↦ Err errors.InvalidEntry | Some es ↦ Ok es ]) ≡ Ok leaf → AreShort leaf
    by_dir bytes None found is = absurd (cc)
    by_dir bytes (Some es) found is = let same : es ≡ leaf = cc in subst AreShort same (dir_short bytes es found)

    by_range : (r : Option (List ℕ)) → (elim r as (λ _. Result (List Entry) PmtError) [ None ↦ Err (errors.Reading causes.PastEnd) | Some bytes ↦ elim (dir_of bytes) as (λ _. Result (List Entry) PmtError) [ None ↦ Err errors.InvalidEntry | Some es ↦ Ok es ] ]) ≡ Ok leaf → AreShort leaf
    by_range None is = absurd (cc)
    by_range (Some bytes) is = by_dir bytes (dir_of bytes) refl is

-- and those of a root
pub root_short : (b : List ℕ) (o : Opened) → opened b ≡ Ok o → AreShort o.1
root_short b o is = let p = opened_parts b o is in dir_short p.1 o.1 p.2
