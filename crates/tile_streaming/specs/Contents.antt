-- What is held of contents by id while their bytes stay in the store.
use Rattle.std.specs.Prelude.{ℕ, ◌≡◌, ◌%◌, ◌^◌, Bool, true, false, cond, is_some, List, [], ◌∷◌, length, map, nat_le, Option, None}
use Rattle.mb_tables.specs.declared.cell.Cell.TheVariants.{Null, Other}
use Rattle.tile_streaming.specs.Common.{AreIndexed, bytes_of, Cell, cell_at, content_from, content_of, content_rows, contents_of, Content, HashAlgorithm, is_gzip, is_normalized, is_null, MbtType, option_map, Tables, xxh3_64}
use Rattle.tile_streaming.specs.RowTests.{AreFindings}
use Rattle.tile_streaming.specs.declared.contents.Known.{Known}
use Rattle.tile_streaming.specs.declared.contents.SeenContents.{SeenContents}
use Rattle.tile_streaming.specs.declared.mark.ContentMark.{ContentMark}

-- the mark of bytes
abbrev pub content_mark : List ℕ → ContentMark
content_mark bytes = record {
  digest = xxh3_64 bytes;
  length = length bytes % 2 ^ 32;
  is_long = nat_le (2 ^ 32) (length bytes);
  gzip = is_gzip bytes;
}

-- the mark of a cell of contents, where null has no bytes; none of a cell that is neither bytes nor null
abbrev pub mark_of_cell : Cell → Option ContentMark
mark_of_cell cell = option_map (λ c. content_mark (bytes_of c)) (contents_of cell)

-- the mark of the contents that have an id; null is no id
abbrev pub mark_under : List (List Cell) → Cell → Option ContentMark
mark_under contents id = cond (is_null id) None (mark_of_cell (content_of contents id))

-- a cell that holds no bytes: null for contents, and another kind for a cell that is none
abbrev pub hollow : Cell → Cell
hollow cell = cond (is_some (contents_of cell)) Null Other

-- rows of contents with such cells
abbrev pub hollow_row : List Cell → List Cell
hollow_row row = cell_at 0 row ∷ hollow (cell_at 1 row) ∷ []

abbrev pub hollow_rows : List (List Cell) → List (List Cell)
hollow_rows rows = map hollow_row rows

abbrev pub hollow_content : Content → Content
hollow_content c = record { id = c.id; cell = hollow c.cell; standing = c.standing }

-- the marks of rows of contents
abbrev pub marks_by_row : List (List Cell) → List (Option ContentMark)
marks_by_row rows = map (λ row. mark_of_cell (cell_at 1 row)) rows

-- what is known are the ids of rows of contents, in their order and in that of ids, and the marks of the rows
pub record Knows (contents : List (List Cell)) (k : Known) : Type 0 where
  pub items : k.list.items.items ≡ map content_from (hollow_rows contents)
  pub indexed : AreIndexed k.list.items.items k.list.live k.list.order.items
  pub marks : k.marks.items ≡ marks_by_row contents

-- what was found in rows of contents, and what is held of them
pub record SeesContents (layout : MbtType) (a : HashAlgorithm) (contents : List (List Cell)) (seen : SeenContents) : Type 0 where
  pub findings : AreFindings layout a contents [] seen.findings
  pub items : seen.items.items ≡ map content_from (hollow_rows contents)
  pub marks : seen.marks.items ≡ marks_by_row contents

-- the rows of contents that a store tells, or some that its answers could be of where it tells nothing; a layout that
-- isn't normalised has none
pub record AreContents (layout : MbtType) (tells : Bool) (told : Tables) (contents : List (List Cell)) : Type 0 where
  pub are_told : tells ≡ true → contents ≡ content_rows layout told
  pub none : is_normalized layout ≡ false → contents ≡ []

-- all rows of contents of a layout were seen
pub record HasSeen (layout : MbtType) (a : HashAlgorithm) (tells : Bool) (told : Tables) (seen : SeenContents) : Type 0 where
  pub contents : List (List Cell)
  pub are : AreContents layout tells told contents
  pub sees : SeesContents layout a contents seen
