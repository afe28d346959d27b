-- A tile, and a name, as a set gives it.
use Rattle.set_options.proofs.Common.{ap, blob_cell, Cell, List, Members, Option, place_at, sym, text_cell, with_cell, with_entry, with_tile, ℕ, ◌∙◌, ◌≡◌}
use Rattle.mb_tables.specs.Tiles.{Place}
use Rattle.tile_ids.specs.Coord.{Coord}
use Rattle.set_options.specs.ArchiveJson.{with_name}
use Rattle.set_options.specs.declared.facts.TileFacts.{TileFacts}

-- the tile of an entry
pub tile_step : (old new : TileFacts) (zoom : ℕ) (c : Coord) (cell : Cell) → new ≡ with_cell old zoom cell → zoom ≡ c.z → (e : Place × Option (List ℕ)) → (e.0 ≡ place_at c) × (blob_cell e.1 ≡ cell) → new ≡ with_tile old e
tile_step old new zoom c cell step of e is = step ∙ λ i. with_cell old ((of ∙ sym (ap (λ (p : Place). p.zoom) is.0)) i) (sym is.1 i)

-- the name of an entry
pub name_step : (old new : Members) (name : List ℕ) (cell : Cell) → new ≡ with_name old name cell → (e : List ℕ × Option (List ℕ)) → (e.0 ≡ name) × (text_cell e.1 ≡ cell) → new ≡ with_entry old e
name_step old new name cell step e is = step ∙ λ i. with_name old (sym is.0 i) (sym is.1 i)
