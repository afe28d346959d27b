-- The archive of a part of tiles, beside that of all of them.
use Rattle.tile_streaming.proofs.Common.{address, ap, Bool, cond, false, get, is_solid, List, None, none-some, Option, Place, refl, solid, Some, sym, TileSet, true, ℕ, ◌∙◌, ◌≡◌}
use Rattle.std.proofs.Common.{if◌then◌else◌}
use Rattle.mb_tables.proofs.TileLemmas.{get-solid}
use Rattle.pm_walk.specs.Intervals.{in_intervals}
use Rattle.tile_bridge.specs.Convert.{HoldsExactly}
use Rattle.tile_extract.specs.Part.{cut}
use Rattle.tile_extract.specs.declared.part.TilePart.{TilePart}
use Rattle.tile_streaming.proofs.PartLemmas.{get_kept, inside}
use Rattle.tile_streaming.specs.Common.{archive_map}
use Rattle.tile_streaming.specs.Part.{part_of}

module _ (tiles : TileSet) (part : TilePart) where
  abbrev own : TileSet
  own = part_of (Some part.intervals) tiles

  -- the tiles of at least one byte of a part
  solid_kept : (p : Place) → get (solid own) p ≡ cond (inside part.intervals p) (get (solid tiles) p) None
  solid_kept p =
      get-solid own p ∙ ap (λ g. cond (is_solid g) g None) (get_kept (inside part.intervals) tiles p)
      ∙ by (inside part.intervals p)
    where
      by : (b : Bool) → cond (is_solid (cond b (get tiles p) None)) (cond b (get tiles p) None) None ≡ cond b (get (solid tiles) p) None
      by true = sym (get-solid tiles p)
      by false = refl

  module _ (a b : List ℕ) (whole : HoldsExactly a tiles) (held : HoldsExactly b own) (id : ℕ) where
    abbrev at : Bool → Option (List ℕ)
    at t = if t then archive_map a id else None

    -- what the archive of the part has
    has : (bytes : List ℕ) → archive_map b id ≡ Some bytes → archive_map b id ≡ at (in_intervals id part.intervals)
    has bytes is =
        let found = held.only id bytes is in
        let p = found.0 in
        by p (in_intervals (address p) part.intervals) refl (sym (solid_kept p) ∙ found.1) found.2
      where
        by : (p : Place) (t : Bool) → in_intervals (address p) part.intervals ≡ t → cond t (get (solid tiles) p) None ≡ Some (Some bytes) → address p ≡ id → archive_map b id ≡ at (in_intervals id part.intervals)
        by p true lies there same =
            is ∙ sym (whole.each p bytes there) ∙ ap (archive_map a) same
            ∙ ap at (sym lies ∙ ap (λ i. in_intervals i part.intervals) same)
        by p false lies there same = absurd (none-some (Some bytes) there)

    -- and what it hasn't
    lacks : archive_map b id ≡ None → archive_map b id ≡ at (in_intervals id part.intervals)
    lacks none = none ∙ by (in_intervals id part.intervals) refl (archive_map a id) refl
      where
        by : (t : Bool) → in_intervals id part.intervals ≡ t → (o : Option (List ℕ)) → archive_map a id ≡ o → None ≡ (if t then o else None)
        by false lies o e = refl
        by true lies None e = refl
        by true lies (Some bytes) e =
            let found = whole.only id bytes e in
            let p = found.0 in
            let in_it : inside part.intervals p ≡ true = ap (λ i. in_intervals i part.intervals) found.2 ∙ lies in
            let there = solid_kept p ∙ ap (λ t. cond t (get (solid tiles) p) None) in_it ∙ found.1 in
            absurd (none-some bytes (sym none ∙ ap (archive_map b) (sym found.2) ∙ held.each p bytes there))

pub cut_out : (tiles : TileSet) (part : TilePart) (whole own : List ℕ) → HoldsExactly whole tiles → HoldsExactly own (part_of (Some part.intervals) tiles) → (id : ℕ) → archive_map own id ≡ cut (archive_map whole) part id
cut_out tiles part a b whole held id = by (archive_map b id) refl
  where
    by : (o : Option (List ℕ)) → archive_map b id ≡ o → archive_map b id ≡ cut (archive_map a) part id
    by None e = lacks tiles part a b whole held id e
    by (Some bytes) e = has tiles part a b whole held id bytes e
