-- The parts of an archive, joined.
use Rattle.tile_join.proofs.Common.{ap, Bool, false, if◌then◌else◌, List, None, Option, refl, Some, sym, true, true≢false, ℕ, [], ◌∙◌, ◌∷◌, ◌≡◌}
use Rattle.std.proofs.Common.{◌||◌}
use Rattle.pm_walk.specs.Intervals.{in_intervals}
use Rattle.tile_extract.specs.Part.{cut}
use Rattle.tile_extract.specs.declared.part.TilePart.{TilePart}
use Rattle.tile_join.specs.Common.{archive_map}
use Rattle.tile_join.specs.Join.{joined, joined_over, no_tiles, over_tile}
use Rattle.tile_join.specs.Parts.{ArePartsOf, Cover, in_parts}

same_over : (o : Option (List ℕ)) → over_tile o o ≡ o
same_over None = refl
same_over (Some x) = refl

-- a part over what is there already
keeps : (map below : ℕ → Option (List ℕ)) (p : TilePart) (id : ℕ) → below id ≡ map id → over_tile (cut map p id) (below id) ≡ map id
keeps map below p id is = by (in_intervals id p.intervals)
  where
    by : (t : Bool) → over_tile (if t then map id else None) (below id) ≡ map id
    by true = ap (over_tile (map id)) is ∙ same_over (map id)
    by false = is

-- the tile of the map stays
stays : (map below : ℕ → Option (List ℕ)) (bs : List (List ℕ)) (ps : List TilePart) (id : ℕ) → ArePartsOf map bs ps → below id ≡ map id → joined_over below bs id ≡ map id
stays map below [] ps id are is = is
stays map below (b ∷ bs) [] id are is = absurd are
stays map below (b ∷ bs) (p ∷ ps) id are is =
    stays map (λ n. over_tile (archive_map b n) (below n)) bs ps id are.1 (ap (λ o. over_tile o (below id)) (are.0 id) ∙ keeps map below p id is)

-- and comes from the first part that has its id
comes_in : (map below : ℕ → Option (List ℕ)) (bs : List (List ℕ)) (ps : List TilePart) (id : ℕ) → ArePartsOf map bs ps → below id ≡ None → in_parts id ps ≡ true → joined_over below bs id ≡ map id
comes_in map below [] [] id are none lies = absurd (true≢false (sym lies))
comes_in map below [] (p ∷ ps) id are none lies = absurd are
comes_in map below (b ∷ bs) [] id are none lies = absurd are
comes_in map below (b ∷ bs) (p ∷ ps) id are none lies =
    by (in_intervals id p.intervals) refl (λ empty later. comes_in map (λ n. over_tile (archive_map b n) (below n)) bs ps id are.1 empty later) lies
  where
    at : over_tile (archive_map b id) (below id) ≡ over_tile (cut map p id) None
    at = ap (λ o. over_tile o (below id)) (are.0 id) ∙ ap (over_tile (cut map p id)) none

    some_over : (o : Option (List ℕ)) → over_tile o None ≡ o
    some_over None = refl
    some_over (Some x) = refl

    by : (t : Bool) → in_intervals id p.intervals ≡ t → (over_tile (archive_map b id) (below id) ≡ None → in_parts id ps ≡ true → joined_over (λ n. over_tile (archive_map b n) (below n)) bs id ≡ map id) → (t || in_parts id ps) ≡ true → joined_over (λ n. over_tile (archive_map b n) (below n)) bs id ≡ map id
    by true in_it later lies = stays map (λ n. over_tile (archive_map b n) (below n)) bs ps id are.1 (at ∙ some_over (cut map p id) ∙ ap (λ t. if t then map id else None) in_it)
    by false out later lies = later (at ∙ some_over (cut map p id) ∙ ap (λ t. if t then map id else None) out) lies

pub joins : (map : ℕ → Option (List ℕ)) (bs : List (List ℕ)) (parts : List TilePart) → ArePartsOf map bs parts → Cover map parts → (id : ℕ) → joined bs id ≡ map id
joins map bs parts are cover id = by (map id) refl
  where
    by : (o : Option (List ℕ)) → map id ≡ o → joined bs id ≡ map id
    by None none = stays map no_tiles bs parts id are (sym none)
    by (Some bytes) some = comes_in map no_tiles bs parts id are refl (cover id bytes some)
