-- The last test, and the set that passes it.
use Rattle.mb_load.proofs.Common.{algorithm_of, All, ap, are_distinct, AreTilesOf, by_place, Cell, Content, contents_by_id, contents_held, dates_in, due_by, Err, false, filter_map, from_entries}
use Rattle.mb_load.proofs.Common.{HashAlgorithm, Held, held_by, id_in, Kept, List, map, MbtType, names_held, names_of, nothing_edited, NoUniquenessConstraint, Ok, Option, PatchType, Place, place_cmp}
use Rattle.mb_load.proofs.Common.{place_twice, rows_due, StoredTile, sym, tile_dates, tile_id, tile_in, tile_value, tiles_held, true, unless, ℕ, ◌∙◌, ◌≡◌}
use Rattle.mb_lists.specs.Entries.{place_of}
use Rattle.mb_loaded.specs.HeldEntries.{held_of}
use Rattle.mb_lists.specs.declared.entries.StoredName.{StoredName}
use Rattle.mb_loaded.proofs.HeldLemmas.{edited_none, places_listed, states_same}

-- what stands when all tests but the last passed
pub record ArePassed (layout : MbtType) (patch_type : Option PatchType) (metadata ids rows : List (List Cell)) (algorithm : HashAlgorithm) (ids' : List (List Cell)) (contents : List Content) (order : List ℕ) (tiles : List StoredTile) (names : List StoredName) : Type 0 where
  pub due : rows_due layout patch_type metadata ids rows ≡ due_by (held_by layout patch_type metadata ids rows) (place_twice layout ids rows)
  pub same : ids' ≡ ids
  pub algorithm_is : algorithm ≡ algorithm_of metadata
  pub tiles_are : AreTilesOf layout ids' rows contents tiles
  pub contents_are : contents_held contents order ≡ contents_by_id ids'
  pub names_are : names_held names ≡ names_of metadata
  pub contents_kept : All (λ (c : Content). c.standing ≡ Kept) contents
  pub names_kept : All (λ (n : StoredName). n.standing ≡ Kept) names

module _ (layout : MbtType) (patch_type : Option PatchType) (metadata ids rows : List (List Cell)) (algorithm : HashAlgorithm) (ids' : List (List Cell)) (contents : List Content) (order : List ℕ) (tiles : List StoredTile) (names : List StoredName) (p : ArePassed layout patch_type metadata ids rows algorithm ids' contents order tiles names) where
  twice_same : place_twice layout ids rows ≡ unless (are_distinct place_cmp (map place_of tiles)) NoUniquenessConstraint
  twice_same =
      ap (λ x. place_twice layout x rows) (sym p.same)
      ∙ (ap (λ l. unless (are_distinct place_cmp (map (λ (t : Place × Option (List ℕ)). t.0) l)) NoUniquenessConstraint) (sym p.tiles_are.values)
      ∙ ap (λ l. unless (are_distinct place_cmp l) NoUniquenessConstraint) (places_listed (tile_value contents) tiles p.tiles_are.whole))

  state_same : (held_of layout algorithm patch_type contents order tiles names).state ≡ held_by layout patch_type metadata ids rows
  state_same = states_same layout algorithm (algorithm_of metadata) patch_type (tiles_held (tile_value contents) tiles) (from_entries (filter_map (tile_in layout ids) rows)) (names_held names) (names_of metadata) (tiles_held (tile_id contents) tiles) (by_place (id_in layout) rows) (contents_held contents order) (contents_by_id ids) (tiles_held tile_dates tiles) (by_place (dates_in layout) rows)
      p.algorithm_is
      (ap (from_entries {R = place_cmp}) p.tiles_are.values ∙ ap (λ x. from_entries {R = place_cmp} (filter_map (tile_in layout x) rows)) p.same)
      p.names_are p.tiles_are.ids (p.contents_are ∙ ap contents_by_id p.same) p.tiles_are.times

  pub set_due : are_distinct place_cmp (map place_of tiles) ≡ true → (set : Held) → set ≡ held_of layout algorithm patch_type contents order tiles names → (rows_due layout patch_type metadata ids rows ≡ Ok set.state) × (set.edited ≡ nothing_edited)
  set_due apart set is = (
    p.due ∙ (ap (due_by (held_by layout patch_type metadata ids rows)) (twice_same ∙ ap (λ b. unless b NoUniquenessConstraint) apart) ∙ ap Ok (sym (ap (λ (h : Held). h.state) is ∙ state_same))),
    ap (λ (h : Held). h.edited) is ∙ edited_none layout algorithm patch_type contents order tiles names p.contents_kept p.tiles_are.kept p.names_kept,
  )

  pub twice_due : are_distinct place_cmp (map place_of tiles) ≡ false → rows_due layout patch_type metadata ids rows ≡ Err NoUniquenessConstraint
  twice_due twice = p.due ∙ ap (due_by (held_by layout patch_type metadata ids rows)) (twice_same ∙ ap (λ b. unless b NoUniquenessConstraint) twice)
