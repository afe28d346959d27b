-- What stays of the tables of a layout when the rows of others are taken.
use Rattle.mb_load.proofs.Common.{content_rows, Hash, MbtType, Metadata, Normalized, refl, Tables, tile_table, without_rows, ◌≡◌}

pub tiles_stay : (layout : MbtType) (t : Tables) → (without_rows t Metadata).rows (tile_table layout) ≡ t.rows (tile_table layout)
tiles_stay (Normalized view Hash) t = refl
tiles_stay _ t = refl

pub contents_stay : (layout : MbtType) (t : Tables) → content_rows layout (without_rows (without_rows t Metadata) (tile_table layout)) ≡ content_rows layout t
contents_stay (Normalized view Hash) t = refl
contents_stay _ t = refl
