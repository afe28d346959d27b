-- The tests that a set of tables must pass to be loaded, in their order.
use Rattle.std.specs.Prelude.{List, [], ◌∷◌, Option}
use Rattle.mb_load.specs.Common.{algorithm_of, algorithm_unknown, Cell, content_kind_wrong, content_rows, hash_wrong, id_twice, index_missing, MbtError, MbtType, Metadata, metadata_missing}
use Rattle.mb_load.specs.Common.{name_kind_wrong, name_twice, place_twice, reference_missing, Tables, tile_bad, tile_kind_wrong, tile_table}

-- the refusal of each test over the rows of metadata, of contents and of tiles, in the order of the tests
abbrev pub row_refusals : MbtType → List (List Cell) → List (List Cell) → List (List Cell) → List (Option MbtError)
row_refusals layout metadata contents rows =
    id_twice contents
    ∷ tile_kind_wrong layout rows
    ∷ content_kind_wrong layout contents
    ∷ name_kind_wrong metadata
    ∷ name_twice metadata
    ∷ algorithm_unknown metadata
    ∷ tile_bad layout contents rows
    ∷ reference_missing layout contents rows
    ∷ hash_wrong layout (algorithm_of metadata) contents rows
    ∷ place_twice layout contents rows
    ∷ []

-- the refusal of each test of a layout, the tests over its descriptions first
abbrev pub refusals : MbtType → Tables → List (Option MbtError)
refusals layout t =
    metadata_missing t.descriptions
    ∷ index_missing t.descriptions layout
    ∷ row_refusals layout (t.rows Metadata) (content_rows layout t) (t.rows (tile_table layout))
