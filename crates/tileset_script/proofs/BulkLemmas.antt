-- Ids and their coordinates, and the rows of the first ids.
use Rattle.tileset_script.proofs.Common.{ap, arith, bulk_tables, Cell, List, no_rows, numbered_row, refl, row_added, suc, Tables, Takes, true, with_row, ℕ, ◌+◌, ◌/◌, ◌∙◌, ◌≡◌}
pub use Rattle.tile_ids.proofs.Bijection.{is_coord_of}
use Rattle.tile_ids.specs.Hilbert.{coord_of}
use Rattle.mb_tables.specs.Schema.{set_tables}
use Rattle.mb_tables.specs.declared.kind.MbtType.TheVariants.{Flat}
use Rattle.mb_tables.specs.declared.table.TableName.TheVariants.{Tiles}
use Rattle.tileset_script.proofs.RowLemmas.{row_stands}

-- no tile, and one more
pub no_tiles : (repeat : ℕ) → no_rows (set_tables Flat) ≡ bulk_tables 0 repeat
unfolding bulk_tables
no_tiles repeat = refl

pub one_more : (id repeat : ℕ) (t new : Tables) (row : List Cell) → t ≡ bulk_tables id repeat → row ≡ numbered_row (coord_of id) (id / repeat) → Takes (row_added Tiles row t) true new → new ≡ bulk_tables (id + 1) repeat
unfolding bulk_tables
one_more id repeat t new row so is h =
    let next : suc id ≡ id + 1 = omega arith in
    row_stands Tiles row t new h ∙ (ap (λ u. with_row u Tiles row) so ∙ (ap (with_row (bulk_tables id repeat) Tiles) is ∙ ap (λ n. bulk_tables n repeat) next))
