-- Tables without rows.
use Rattle.std.specs.Prelude.{◌≡◌, [], Some, None}
use Rattle.mb_load.specs.Common.{content_rows, index_missing, layout_of, MbtType, Metadata, metadata_missing, patch_type_of, Tables, tile_table}

-- tables that describe a set of the layout which isn't a table of patches, and have no rows of it
pub record AreEmpty (layout : MbtType) (t : Tables) : Type 0 where
  pub is_layout : layout_of t.descriptions ≡ Some layout
  pub whole : patch_type_of t.descriptions ≡ None
  pub described : metadata_missing t.descriptions ≡ None
  pub indexed : index_missing t.descriptions layout ≡ None
  pub tiles : t.rows (tile_table layout) ≡ []
  pub contents : content_rows layout t ≡ []
  pub names : t.rows Metadata ≡ []
