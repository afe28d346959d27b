-- One step of a look-up, from bytes that are to be a directory.
use Rattle.pm_reader.proofs.Common.{ap, arith, data_behind, data_of, dir_of, Entry, entry_from, Err, false, found_in, Header, List, nat_eq, nat_tests, None, Ok, Option, PmtError, range_of, reached}
use Rattle.pm_reader.proofs.Common.{reached_last, reached_leaf, reached_none, reached_tile, refl, Result, scan, Some, suc, sym, through, tile_by, tile_in, true, zero, ℕ, ◌+◌, ◌-◌, ◌∙◌, ◌≡◌}
use Rattle.pm_format.specs.declared.error.PmtError.TheVariants as errors
use Rattle.pm_format.specs.declared.error.ReadCause.TheVariants as causes

-- from what bytes that are to be a directory have for an id
led : (n : ℕ) (h : Header) (b : List ℕ) (t : ℕ) (x : Option (List Entry)) (found : Option Entry) → Ok found ≡ found_in t x → tile_in n h b t x ≡ data_behind h b (entry_from n h b t found)
unfolding tile_by
led n h b t None found is = absurd (cc)
led n h b t (Some es) found is = let same : scan es t ≡ found = cc in ap (λ o. data_behind h b (entry_from n h b t o)) same

pub in_none : (n : ℕ) (h : Header) (b : List ℕ) (t : ℕ) (x : Option (List Entry)) → Ok None ≡ found_in t x → tile_in n h b t x ≡ Ok None
in_none n h b t x is = led n h b t x None is ∙ ap (λ r. data_behind h b r.entry) (reached_none n h b t)

no_leaf : (e : Entry) → (e.run_length ≡ 0 → ⊥) → nat_eq e.run_length 0 ≡ false
no_leaf e h = grind (arith, nat_tests)

pub in_tile : (n : ℕ) (h : Header) (b : List ℕ) (t : ℕ) (x : Option (List Entry)) (e : Entry) → Ok (Some e) ≡ found_in t x → (e.run_length ≡ 0 → ⊥) → tile_in n h b t x ≡ data_of h b e
in_tile n h b t x e is tile = led n h b t x (Some e) is ∙ ap (λ r. data_behind h b r.entry) (reached_tile n h b t e (no_leaf e tile))

a_leaf : (e : Entry) → e.run_length ≡ 0 → nat_eq e.run_length 0 ≡ true
a_leaf e h = grind (arith, nat_tests)

pub in_leaf_last : (h : Header) (b : List ℕ) (t : ℕ) (x : Option (List Entry)) (e : Entry) → Ok (Some e) ≡ found_in t x → e.run_length ≡ 0 → tile_in 0 h b t x ≡ Ok None
in_leaf_last h b t x e is leads = led 0 h b t x (Some e) is ∙ ap (λ r. data_behind h b r.entry) (reached_last h b t e (a_leaf e leads))

-- a range that is to be a leaf
abbrev leaf_in : Option (List ℕ) → Result (List Entry) PmtError
leaf_in o = elim o [
  | None ↦ Err (errors.Reading causes.PastEnd)
  | Some bytes ↦ elim (dir_of bytes) [ None ↦ Err errors.InvalidEntry | Some es ↦ Ok es ]
]

in_leaf : (n : ℕ) (h : Header) (b : List ℕ) (t : ℕ) (x : Option (List Entry)) (e : Entry) (o : Option (List ℕ)) → Ok (Some e) ≡ found_in t x → e.run_length ≡ 0 → range_of b (h.leaf_offset + e.offset) e.length ≡ o
    → tile_in (suc n) h b t x ≡ data_behind h b (through (λ leaf. reached n h b t (scan leaf t)) (leaf_in o)).entry
in_leaf n h b t x e o is leads r = led (suc n) h b t x (Some e) is ∙ ap (λ r. data_behind h b r.entry) (reached_leaf n h b t e (leaf_in o) (a_leaf e leads) (ap leaf_in r))

in_leaf_past : (n : ℕ) (h : Header) (b : List ℕ) (t : ℕ) (x : Option (List Entry)) (e : Entry) → Ok (Some e) ≡ found_in t x → e.run_length ≡ 0 → range_of b (h.leaf_offset + e.offset) e.length ≡ None
    → tile_in (suc n) h b t x ≡ Err (errors.Reading causes.PastEnd)
in_leaf_past n h b t x e is leads r = in_leaf n h b t x e None is leads r

in_leaf_next : (n : ℕ) (h : Header) (b : List ℕ) (t : ℕ) (x : Option (List Entry)) (e : Entry) (leaf : List ℕ) → Ok (Some e) ≡ found_in t x → e.run_length ≡ 0 → range_of b (h.leaf_offset + e.offset) e.length ≡ Some leaf
    → tile_in (suc n) h b t x ≡ tile_in n h b t (dir_of leaf)
unfolding tile_by
in_leaf_next n h b t x e leaf is leads r = in_leaf n h b t x e (Some leaf) is leads r ∙ go (dir_of leaf)
  where
    go : (d : Option (List Entry)) → data_behind h b (through (λ leaf. reached n h b t (scan leaf t)) (elim d as (λ _. Result (List Entry) PmtError) [ None ↦ Err errors.InvalidEntry | Some es ↦ Ok es ])).entry ≡ tile_in n h b t d
    go None = refl
    go (Some es) = refl

range_same : (h : Header) (b : List ℕ) (e : Entry) (off len : ℕ) → off ≡ e.offset → len ≡ e.length → range_of b (h.leaf_offset + e.offset) e.length ≡ range_of b (h.leaf_offset + off) len
range_same h b e off len place size = ap (λ o. range_of b (h.leaf_offset + o) e.length) (sym place) ∙ ap (range_of b (h.leaf_offset + off)) (sym size)

-- the same with the numbers that a function has in their place
pub at_leaf_past : (left : ℕ) (h : Header) (b : List ℕ) (t : ℕ) (x : Option (List Entry)) (e : Entry) (off len : ℕ) → Ok (Some e) ≡ found_in t x → e.run_length ≡ 0 → (left ≡ 0 → ⊥) → off ≡ e.offset → len ≡ e.length
    → None ≡ range_of b (h.leaf_offset + off) len → tile_in left h b t x ≡ Err (errors.Reading causes.PastEnd)
at_leaf_past zero h b t x e off len is leads some place size r = absurd (some refl)
at_leaf_past (suc n) h b t x e off len is leads some place size r = in_leaf_past n h b t x e is leads (range_same h b e off len place size ∙ sym r)

pub at_leaf_next : (left : ℕ) (h : Header) (b : List ℕ) (t : ℕ) (x : Option (List Entry)) (e : Entry) (off len : ℕ) (leaf : List ℕ) → Ok (Some e) ≡ found_in t x → e.run_length ≡ 0 → (left ≡ 0 → ⊥) → off ≡ e.offset → len ≡ e.length
    → Some leaf ≡ range_of b (h.leaf_offset + off) len → tile_in left h b t x ≡ tile_in (left - 1) h b t (dir_of leaf)
at_leaf_next zero h b t x e off len leaf is leads some place size r = absurd (some refl)
at_leaf_next (suc n) h b t x e off len leaf is leads some place size r =
    let one : n ≡ suc n - 1 = omega arith in
    in_leaf_next n h b t x e leaf is leads (range_same h b e off len place size ∙ sym r) ∙ ap (λ k. tile_in k h b t (dir_of leaf)) one
