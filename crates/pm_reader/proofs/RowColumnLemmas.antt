-- The rows of four columns are its entries.
use Rattle.pm_reader.proofs.Common.{ap, Bool, column, dir_of, entries_of, Entry, entry, false, fit, ids_from, if◌then◌else◌, List, nat_eq, nat_lt, None, number_at, offset_of, offsets_from, Option}
use Rattle.pm_reader.proofs.Common.{option_map, put, refl, rows, Some, suc, sym, true, u32_at, u64_at, zero, ℕ, [], ◌+◌, ◌-◌, ◌>>=◌, ◌^◌, ◌∙◌, ◌∷◌, ◌≡◌}
use Rattle.pm_format.proofs.OptionLemmas.{bind_none, bind_same}
use Rattle.pm_reader.specs.Rows.{after}

-- an end above u64 is as none
offset_fit : (sum n : ℕ) → offset_of (fit sum) n ≡ offset_of (Some sum) n
offset_fit sum n = go (nat_lt sum (2 ^ 64)) refl
  where
    go : (t : Bool) → nat_lt sum (2 ^ 64) ≡ t → offset_of (fit sum) n ≡ offset_of (Some sum) n
    go true e = ap (λ b. offset_of (if b then Some sum else None) n) e
    go false e = ap (λ b. offset_of (if b then Some sum else None) n) e ∙ sym (ap (λ b. if nat_eq n 0 then (if b then Some sum else None) else Some (n - 1)) e)

offsets_fit : (sum : ℕ) (lengths ns : List ℕ) → offsets_from (fit sum) lengths ns ≡ offsets_from (Some sum) lengths ns
offsets_fit sum [] ns = refl
offsets_fit sum (l ∷ ls) [] = refl
offsets_fit sum (l ∷ ls) (n ∷ ns) = ap (λ x. x >>= λ o. option_map (λ os. o ∷ os) (offsets_from (Some (o + l)) ls ns)) (offset_fit sum n)

-- the entries of three columns of numbers and the offsets of a fourth
abbrev sides : ℕ → Option ℕ → List ℕ → List ℕ → List ℕ → List ℕ → Option (List Entry)
sides last end ds rs ls ns = ids_from last ds >>= λ ids. option_map (entries_of ids rs ls) (offsets_from end ls ns)

abbrev joined : ℕ → Option ℕ → Option (List ℕ × List ℕ) → Option (List ℕ × List ℕ) → Option (List ℕ × List ℕ) → Option (List ℕ × List ℕ) → Option (List Entry)
joined last end a b c d = a >>= λ a. b >>= λ b. c >>= λ c. d >>= λ d. sides last end a.0 b.0 c.0 d.0

-- one number more in front of each column
side_next : (last d r l m : ℕ) (end : Option ℕ) (ds rs ls ns : List ℕ)
    → sides last end (d ∷ ds) (r ∷ rs) (l ∷ ls) (m ∷ ns) ≡ (fit (last + d) >>= λ id. offset_of end m >>= λ at. option_map (λ es. entry id at l r ∷ es) (sides id (fit (at + l)) ds rs ls ns))
side_next last d r l m end ds rs ls ns = go (nat_lt (last + d) (2 ^ 64))
  where
    later : (o : ℕ) (ids : Option (List ℕ)) (os os2 : Option (List ℕ)) → os2 ≡ os
        → (option_map (λ ids. (last + d) ∷ ids) ids >>= λ ids. option_map (entries_of ids (r ∷ rs) (l ∷ ls)) (option_map (λ os. o ∷ os) os))
        ≡ option_map (λ es. entry (last + d) o l r ∷ es) (ids >>= λ ids. option_map (entries_of ids rs ls) os2)
    later o None os os2 e = refl
    later o (Some ids) None os2 e = rw e refl
    later o (Some ids) (Some os) os2 e = rw e refl

    placed : (ids : Option (List ℕ)) (o : Option ℕ) → ids ≡ ids_from (last + d) ds
        → (option_map (λ ids. (last + d) ∷ ids) ids >>= λ ids. option_map (entries_of ids (r ∷ rs) (l ∷ ls)) (o >>= λ o. option_map (λ os. o ∷ os) (offsets_from (Some (o + l)) ls ns)))
        ≡ (o >>= λ at. option_map (λ es. entry (last + d) at l r ∷ es) (ids >>= λ ids. option_map (entries_of ids rs ls) (offsets_from (fit (at + l)) ls ns)))
    placed None None e = refl
    placed (Some ids) None e = refl
    placed ids (Some o) e = later o ids (offsets_from (Some (o + l)) ls ns) (offsets_from (fit (o + l)) ls ns) (offsets_fit (o + l) ls ns)

    go : (t : Bool)
        → ((if t then option_map (λ ids. (last + d) ∷ ids) (ids_from (last + d) ds) else None) >>= λ ids. option_map (entries_of ids (r ∷ rs) (l ∷ ls)) (offset_of end m >>= λ o. option_map (λ os. o ∷ os) (offsets_from (Some (o + l)) ls ns)))
        ≡ ((if t then Some (last + d) else None) >>= λ id. offset_of end m >>= λ at. option_map (λ es. entry id at l r ∷ es) (sides id (fit (at + l)) ds rs ls ns))
    go true = placed (ids_from (last + d) ds) (offset_of end m) refl
    go false = refl

abbrev nothing : Option (List Entry)
nothing = None

none_of : (x y : Option ℕ) → nothing ≡ (x >>= λ id. y >>= λ at. nothing)
none_of None y = refl
none_of (Some x) None = refl
none_of (Some x) (Some y) = refl

-- the same of whole columns
joined_next : (last d r l m : ℕ) (end : Option ℕ) (a b c e : Option (List ℕ × List ℕ))
    → joined last end (option_map (put d) a) (option_map (put r) b) (option_map (put l) c) (option_map (put m) e)
    ≡ (fit (last + d) >>= λ id. offset_of end m >>= λ at. option_map (λ es. entry id at l r ∷ es) (joined id (fit (at + l)) a b c e))
joined_next last d r l m end (Some a) (Some b) (Some c) (Some e) = side_next last d r l m end a.0 b.0 c.0 e.0
joined_next last d r l m end None b c e = none_of (fit (last + d)) (offset_of end m)
joined_next last d r l m end (Some a) None c e = none_of (fit (last + d)) (offset_of end m)
joined_next last d r l m end (Some a) (Some b) None e = none_of (fit (last + d)) (offset_of end m)
joined_next last d r l m end (Some a) (Some b) (Some c) None = none_of (fit (last + d)) (offset_of end m)

-- rows are the entries of columns
rows_join : (n last : ℕ) (end : Option ℕ) (ids runs lengths offsets : List ℕ)
    → joined last end (column 10 (2 ^ 64) n ids) (column 5 (2 ^ 32) n runs) (column 5 (2 ^ 32) n lengths) (column 10 (2 ^ 64) n offsets) ≡ rows n last end ids runs lengths offsets
unfolding u64_at u32_at
rows_join zero last end ids runs lengths offsets = refl
rows_join (suc n) last end ids runs lengths offsets = go (rows_join n) (number_at 10 (2 ^ 64) ids) (number_at 5 (2 ^ 32) runs) (number_at 5 (2 ^ 32) lengths) (number_at 10 (2 ^ 64) offsets)
  where
    go : ((last : ℕ) (end : Option ℕ) (ids runs lengths offsets : List ℕ)
        → joined last end (column 10 (2 ^ 64) n ids) (column 5 (2 ^ 32) n runs) (column 5 (2 ^ 32) n lengths) (column 10 (2 ^ 64) n offsets) ≡ rows n last end ids runs lengths offsets)
        → (a r l o : Option (ℕ × List ℕ))
        → joined last end (a >>= λ x. option_map (put x.0) (column 10 (2 ^ 64) n x.1)) (r >>= λ x. option_map (put x.0) (column 5 (2 ^ 32) n x.1)) (l >>= λ x. option_map (put x.0) (column 5 (2 ^ 32) n x.1)) (o >>= λ x. option_map (put x.0) (column 10 (2 ^ 64) n x.1))
        ≡ (a >>= λ a. r >>= λ r. l >>= λ l. o >>= λ o. fit (last + a.0) >>= λ id. offset_of end o.0 >>= λ at. option_map (λ es. entry id at l.0 r.0 ∷ es) (rows n id (fit (at + l.0)) a.1 r.1 l.1 o.1))
    go again None r l o = refl
    go again (Some a) None l o = bind_none (option_map (put a.0) (column 10 (2 ^ 64) n a.1)) _ (λ x. refl)
    go again (Some a) (Some r) None o = bind_none (option_map (put a.0) (column 10 (2 ^ 64) n a.1)) _ (λ x. bind_none (option_map (put r.0) (column 5 (2 ^ 32) n r.1)) _ (λ y. refl))
    go again (Some a) (Some r) (Some l) None = bind_none (option_map (put a.0) (column 10 (2 ^ 64) n a.1)) _ (λ x. bind_none (option_map (put r.0) (column 5 (2 ^ 32) n r.1)) _ (λ y. bind_none (option_map (put l.0) (column 5 (2 ^ 32) n l.1)) _ (λ z. refl)))
    go again (Some a) (Some r) (Some l) (Some o) =
        joined_next last a.0 r.0 l.0 o.0 end (column 10 (2 ^ 64) n a.1) (column 5 (2 ^ 32) n r.1) (column 5 (2 ^ 32) n l.1) (column 10 (2 ^ 64) n o.1)
        ∙ bind_same (fit (last + a.0)) _ _ (λ id. bind_same (offset_of end o.0) _ _ (λ at. ap (option_map (λ es. entry id at l.0 r.0 ∷ es)) (again id (fit (at + l.0)) a.1 r.1 l.1 o.1)))

-- a column, by what follows it
columned : (x : Option (List ℕ × List ℕ)) (rest : List ℕ) → after x ≡ Some rest → (ns : List ℕ) × (x ≡ Some (ns, rest))
columned None rest e = absurd (cc)
columned (Some r) rest e = let same : r.1 ≡ rest = cc in (r.0, ap (λ s. Some (r.0, s)) same)

uncolumned : (x : Option (List ℕ × List ℕ)) → after x ≡ None → x ≡ None
uncolumned None e = refl
uncolumned (Some r) e = absurd (cc)

-- a directory's columns after its count, its ids, its runs and its lengths
abbrev from_lengths : ℕ → List ℕ → List ℕ → List ℕ × List ℕ → Option (List Entry)
from_lengths n a b c = column 10 (2 ^ 64) n c.1 >>= λ d. sides 0 None a b c.0 d.0

abbrev from_runs : ℕ → List ℕ → List ℕ × List ℕ → Option (List Entry)
from_runs n a b = column 5 (2 ^ 32) n b.1 >>= from_lengths n a b.0

abbrev from_ids : ℕ → List ℕ × List ℕ → Option (List Entry)
from_ids n a = column 5 (2 ^ 32) n a.1 >>= from_runs n a.0

abbrev from_count : ℕ × List ℕ → Option (List Entry)
from_count n = column 10 (2 ^ 64) n.0 n.1 >>= from_ids n.0

counted : (bytes : List ℕ) (n : ℕ) (ids : List ℕ) → u64_at bytes ≡ Some (n, ids) → dir_of bytes ≡ from_count (n, ids)
unfolding dir_of
counted bytes n ids e = ap (λ x. x >>= from_count) e

pub no_ids : (bytes : List ℕ) (n : ℕ) (ids : List ℕ) → u64_at bytes ≡ Some (n, ids) → after (column 10 (2 ^ 64) n ids) ≡ None → dir_of bytes ≡ None
no_ids bytes n ids e f = counted bytes n ids e ∙ ap (λ x. x >>= from_ids n) (uncolumned _ f)

pub no_runs : (bytes : List ℕ) (n : ℕ) (ids runs : List ℕ) → u64_at bytes ≡ Some (n, ids) → after (column 10 (2 ^ 64) n ids) ≡ Some runs → after (column 5 (2 ^ 32) n runs) ≡ None → dir_of bytes ≡ None
no_runs bytes n ids runs e f g =
    let a = columned _ runs f in
    counted bytes n ids e ∙ (ap (λ x. x >>= from_ids n) a.1 ∙ ap (λ x. x >>= from_runs n a.0) (uncolumned _ g))

pub no_lengths : (bytes : List ℕ) (n : ℕ) (ids runs lengths : List ℕ) → u64_at bytes ≡ Some (n, ids) → after (column 10 (2 ^ 64) n ids) ≡ Some runs → after (column 5 (2 ^ 32) n runs) ≡ Some lengths → after (column 5 (2 ^ 32) n lengths) ≡ None
    → dir_of bytes ≡ None
no_lengths bytes n ids runs lengths e f g h =
    let a = columned _ runs f in
    let b = columned _ lengths g in
    counted bytes n ids e ∙ (ap (λ x. x >>= from_ids n) a.1 ∙ (ap (λ x. x >>= from_runs n a.0) b.1 ∙ ap (λ x. x >>= from_lengths n a.0 b.0) (uncolumned _ h)))

-- a directory is the rows of its columns
pub dir_rows : (bytes : List ℕ) (n : ℕ) (ids runs lengths offsets : List ℕ) → u64_at bytes ≡ Some (n, ids) → after (column 10 (2 ^ 64) n ids) ≡ Some runs → after (column 5 (2 ^ 32) n runs) ≡ Some lengths
    → after (column 5 (2 ^ 32) n lengths) ≡ Some offsets → dir_of bytes ≡ rows n 0 None ids runs lengths offsets
dir_rows bytes n ids runs lengths offsets e f g h =
    let a = columned _ runs f in
    let b = columned _ lengths g in
    let c = columned _ offsets h in
    counted bytes n ids e ∙ (ap (λ x. x >>= from_ids n) a.1 ∙ (ap (λ x. x >>= from_runs n a.0) b.1 ∙ (ap (λ x. x >>= from_lengths n a.0 b.0) c.1
    ∙ (sym (ap (λ x. joined 0 None x (column 5 (2 ^ 32) n runs) (column 5 (2 ^ 32) n lengths) (column 10 (2 ^ 64) n offsets)) a.1
    ∙ (ap (λ x. joined 0 None (Some (a.0, runs)) x (column 5 (2 ^ 32) n lengths) (column 10 (2 ^ 64) n offsets)) b.1
    ∙ ap (λ x. joined 0 None (Some (a.0, runs)) (Some (b.0, lengths)) x (column 10 (2 ^ 64) n offsets)) c.1))
    ∙ rows_join n 0 None ids runs lengths offsets))))
