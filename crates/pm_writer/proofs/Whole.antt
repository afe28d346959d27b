-- What is read from the archive of adds.
use Rattle.pm_writer.proofs.Common.{AddsFilled, AllLow, ap, archive, archive_map, archive_tile, arith, dir_bytes, entries_of_adds, Entry, false, filled, hops, hops_opened, inl, inr, IsArchivable}
use Rattle.pm_writer.proofs.Common.{length, List, MatchOption, MAX_TILE_ID, nat_le, nat_tests, None, Ok, opened, Option, Options, refl, scan, Some, subst, sym, tile_in, tile_opened, true, ℕ, [], ◌<◌}
use Rattle.pm_writer.proofs.Common.{◌^◌, ◌∙◌, ◌∷◌, ◌≡◌, ◌≤◌}
use Rattle.pm_format.specs.LookUp.{data_of}
use Rattle.pm_writer.proofs.Bounds.{all_again, whole_formed}
use Rattle.pm_writer.proofs.Parted.{tile_here, tile_later}
use Rattle.pm_writer.proofs.Parts.{head_of, layout_of, root_fits}
use Rattle.pm_writer.proofs.Reading.{archive_hops, archive_read, data_for}
use Rattle.pm_writer.proofs.Runs.{eq_or, le_or}

pub opens : (o : Options) (adds : List (ℕ × List ℕ)) → IsArchivable o adds → opened (archive o adds) ≡ Ok (head_of o adds, (layout_of o adds).root)
opens o adds a = (whole_formed o adds a).opens

pub root_short : (o : Options) (adds : List (ℕ × List ℕ)) → IsArchivable o adds → length (dir_bytes (layout_of o adds).root) < 2 ^ 32
root_short o adds a = omega (arith, root_fits o adds a.options)

pub tile_is : (o : Options) (adds : List (ℕ × List ℕ)) (t : ℕ) → IsArchivable o adds → archive_tile (archive o adds) t ≡ Ok (tile_in adds t)
tile_is o adds t a = ap (tile_opened (archive o adds) t) (opens o adds a) ∙ archive_read o adds t a.options a.distinct (all_again o adds a).1 a.ends

pub hops_few : (o : Options) (adds : List (ℕ × List ℕ)) (t : ℕ) → IsArchivable o adds → hops (archive o adds) t ≤ 2
hops_few o adds t a = subst (λ z. z ≤ 2) (sym (ap (hops_opened (archive o adds) t) (opens o adds a))) (archive_hops o adds t a.options a.distinct (all_again o adds a).1 a.ends)

-- a tile isn't empty, and its id is that of a tile
tile_filled : (adds : List (ℕ × List ℕ)) (t : ℕ) → AddsFilled adds → filled (Ok (tile_in adds t)) ≡ tile_in adds t
tile_filled [] t f = refl
tile_filled (a ∷ adds) t f = elim (eq_or a.0 t) [
  | inl e ↦ ap (λ z. filled (Ok z)) (tile_here a adds t e) ∙ (some a.1 f.0 ∙ sym (tile_here a adds t e))
  | inr n ↦ ap (λ z. filled (Ok z)) (tile_later a adds t n) ∙ (tile_filled adds t f.1 ∙ sym (tile_later a adds t n))
]
  where
    some : (x : List ℕ) → 0 < length x → filled (Ok (Some x)) ≡ Some x
    some [] h = absurd (omega (arith, h))
    some (b ∷ x) h = refl

none_high : (adds : List (ℕ × List ℕ)) (t : ℕ) → AllLow adds → MAX_TILE_ID < t → tile_in adds t ≡ None
none_high [] t l h = refl
none_high (a ∷ adds) t l h = tile_later a adds t (omega (arith, l.0, h)) ∙ none_high adds t l.1 h

pub map_is : (o : Options) (adds : List (ℕ × List ℕ)) (t : ℕ) → IsArchivable o adds → archive_map (archive o adds) t ≡ tile_in adds t
map_is o adds t a = elim (le_or t MAX_TILE_ID) [
  | inl h ↦ (let q : nat_le t MAX_TILE_ID ≡ true = grind (arith, nat_tests) in rw q (ap filled (tile_is o adds t a) ∙ tile_filled adds t a.filled))
  | inr h ↦ (let q : nat_le t MAX_TILE_ID ≡ false = grind (arith, nat_tests) in rw q (sym (none_high adds t a.low h)))
]

-- a look-up answers as one in the flat list of entries
pub flat_is : (o : Options) (adds : List (ℕ × List ℕ)) (t : ℕ) → IsArchivable o adds
    → MatchOption (scan (entries_of_adds adds) t) (archive_tile (archive o adds) t ≡ Ok None) (λ e. archive_tile (archive o adds) t ≡ data_of (head_of o adds) (archive o adds) e)
flat_is o adds t a = go (scan (entries_of_adds adds) t) (data_for o adds t a.options a.distinct a.ends)
  where
    go : (s : Option Entry) → MatchOption s (tile_in adds t ≡ None) (λ e. (1 ≤ e.run_length) × (data_of (head_of o adds) (archive o adds) e ≡ Ok (tile_in adds t)))
        → MatchOption s (archive_tile (archive o adds) t ≡ Ok None) (λ e. archive_tile (archive o adds) t ≡ data_of (head_of o adds) (archive o adds) e)
    go None m = tile_is o adds t a ∙ ap Ok m
    go (Some e) m = tile_is o adds t a ∙ sym m.1
