-- A list of pairs by rising id is determined by its map.
use Rattle.pm_writer.proofs.Common.{ap, archive, archive_map, arith, canon, entries, entries-from_sorted, find, FinMap, from_entries, from_sorted, get, get-entries, get-from_entries, get-from_sorted}
use Rattle.pm_writer.proofs.Common.{inl, inr, is_sorted, IsArchivable, List, nat_cmp, nat_cmp-IsAntisymmetric, None, Options, refl, RisingAdds, same_map, Some, subst, sym, T, tile_in, true, ℕ, []}
use Rattle.pm_writer.proofs.Common.{◌<◌, ◌∙◌, ◌∷◌, ◌≡◌, ◌⊎◌}
use Rattle.std.specs.Cmp.{nat_cmp_total}
use Rattle.pm_writer.proofs.Parted.{none_below, rest_rises, tile_here, tile_later}
use Rattle.pm_writer.proofs.Sorted.{sorted_map}
use Rattle.pm_writer.proofs.Runs.{eq_or}

three : (m n : ℕ) → (m < n) ⊎ ((n < m) ⊎ (m ≡ n))
three m n = grind arith

none_after : (a : ℕ × List ℕ) (adds : List (ℕ × List ℕ)) → RisingAdds (a ∷ adds) → tile_in adds a.0 ≡ None
none_after a [] r = refl
none_after a (b ∷ adds) r = none_below b adds a.0 r.2 r.1

pub same_pairs : (xs ys : List (ℕ × List ℕ)) → RisingAdds xs → RisingAdds ys → ((t : ℕ) → tile_in xs t ≡ tile_in ys t) → xs ≡ ys
same_pairs [] [] r s h = refl
same_pairs [] (b ∷ ys) r s h = absurd (let e : None ≡ Some b.1 = h b.0 ∙ tile_here b ys b.0 refl in cc)
same_pairs (a ∷ xs) [] r s h = absurd (let e : Some a.1 ≡ None = sym (tile_here a xs a.0 refl) ∙ h a.0 in cc)
same_pairs (a ∷ xs) (b ∷ ys) r s h = elim (three a.0 b.0) [
  | inl l ↦ absurd (let e : Some a.1 ≡ None = sym (tile_here a xs a.0 refl) ∙ (h a.0 ∙ none_below b ys a.0 s l) in cc)
  | inr (inl l) ↦ absurd (let e : None ≡ Some b.1 = sym (none_below a xs b.0 r l) ∙ (h b.0 ∙ tile_here b ys b.0 refl) in cc)
  | inr (inr i) ↦
      let both : Some a.1 ≡ Some b.1 = sym (tile_here a xs a.0 refl) ∙ (h a.0 ∙ tile_here b ys a.0 (sym i)) in
      let first : a ≡ b = ap (λ z. (z, a.1)) i ∙ ap (λ z. (b.0, z)) (let q : a.1 ≡ b.1 = cc in q) in
      let rest : xs ≡ ys = same_pairs xs ys (rest_rises a xs r) (rest_rises b ys s) (λ t. elim (eq_or a.0 t) [
        | inl e ↦ subst (λ z. tile_in xs z ≡ tile_in ys z) e (none_after a xs r ∙ sym (subst (λ z. tile_in ys z ≡ None) (sym i) (none_after b ys s)))
        | inr n ↦ sym (tile_later a xs t n) ∙ (h t ∙ tile_later b ys t (λ e. n (i ∙ e)))
      ]) in
      cc
]

pub one_archive : (o : Options) (xs ys : List (ℕ × List ℕ)) → RisingAdds xs → RisingAdds ys → ((t : ℕ) → tile_in xs t ≡ tile_in ys t) → archive o xs ≡ archive o ys
one_archive o xs ys r s h = ap (archive o) (same_pairs xs ys r s h)

-- sorted adds are the entries of their map
pub entries_sorted : (adds : List (ℕ × List ℕ)) → is_sorted nat_cmp adds ≡ true → entries (from_entries {R = nat_cmp} adds) ≡ adds
entries_sorted adds s =
    let holds : T (is_sorted nat_cmp adds) = subst T (sym s) tt in
    let one : from_entries {R = nat_cmp} adds ≡ from_sorted adds = same_map nat_cmp_total nat_cmp-IsAntisymmetric (from_entries adds) (from_sorted adds) (λ q. get-from_entries nat_cmp_total adds q ∙ sym (get-from_sorted nat_cmp adds q holds)) in
    ap entries one ∙ entries-from_sorted nat_cmp adds holds

-- maps that answer alike have one archive
pub canon_same : (o : Options) (m n : FinMap nat_cmp (List ℕ)) → ((id : ℕ) → get m id ≡ get n id) → canon o m ≡ canon o n
canon_same o m n h = ap (canon o) (same_map nat_cmp_total nat_cmp-IsAntisymmetric m n h)

-- the archive of sorted adds is that of each map that has them
pub canon_is : (o : Options) (adds : List (ℕ × List ℕ)) (m : FinMap nat_cmp (List ℕ)) → is_sorted nat_cmp adds ≡ true → ((id : ℕ) → get m id ≡ find nat_cmp id adds) → archive o adds ≡ canon o m
canon_is o adds m s h = ap (archive o) (sym (entries_sorted adds s)) ∙ canon_same o (from_entries adds) m (λ id. get-from_entries nat_cmp_total adds id ∙ sym (h id))

-- the archive of a map has exactly its tiles
pub canon_map : (o : Options) (m : FinMap nat_cmp (List ℕ)) (id : ℕ) → IsArchivable o (entries m) → archive_map (canon o m) id ≡ get m id
canon_map o m id a = sorted_map o (entries m) id a ∙ sym (get-entries m id)

-- so the tiles that are read from it determine it
pub canon_again : (o : Options) (m n : FinMap nat_cmp (List ℕ)) → IsArchivable o (entries m) → ((id : ℕ) → get n id ≡ archive_map (canon o m) id) → canon o n ≡ canon o m
canon_again o m n a h = canon_same o n m (λ id. h id ∙ canon_map o m id a)
