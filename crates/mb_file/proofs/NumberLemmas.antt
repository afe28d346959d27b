-- Rows with a key have its number.
use Rattle.std.proofs.Common.{arith, length, List, refl, take, true, [], ℕ, ◌<◌, ◌∷◌, ◌≡◌}
use Rattle.mb_tables.proofs.CellLemmas.{cells_eq-Decides}
use Rattle.mb_tables.specs.Key.{has_key, key_cells}
use Rattle.mb_tables.specs.Table.{key_of, width}
use Rattle.mb_tables.specs.declared.cell.Cell.{Cell}
use Rattle.mb_tables.specs.declared.cell.Cell.TheVariants.{Blob, Int, Null, Other, Text}
use Rattle.mb_tables.specs.declared.key.RowKey.{RowKey}
use Rattle.mb_tables.specs.declared.key.RowKey.TheVariants.{IntId, TextId, Tile}
use Rattle.mb_tables.specs.declared.table.TableName.{TableName}
use Rattle.mb_tables.specs.declared.table.TableName.TheVariants.{Images, Map, Metadata, TileCache, Tiles, TilesData, TilesShallow, TilesWithHash}
use Rattle.mb_file.specs.Numbers.{number_of_key, number_of_row}

module _ (secret : ℕ) where
  -- a key of three columns
  by_place : (row : List Cell) (key : RowKey) → 3 < length row → take 3 row ≡ key_cells key → number_of_row secret row ≡ number_of_key secret key
  by_place [] key long e = absurd (omega (arith, long))
  by_place (a ∷ []) key long e = absurd (omega (arith, long))
  by_place (a ∷ b ∷ []) key long e = absurd (omega (arith, long))
  by_place (a ∷ b ∷ c ∷ []) key long e = absurd (omega (arith, long))
  by_place (a ∷ b ∷ c ∷ d ∷ more) (Tile zoom column row) long e = cc
  by_place (a ∷ b ∷ c ∷ d ∷ more) (IntId id) long e = absurd (let h = e in cc)
  by_place (a ∷ b ∷ c ∷ d ∷ more) (TextId id) long e = absurd (let h = e in cc)

  -- a number in the first of two cells
  of_pair : (id : _) (b : Cell) → number_of_row secret (Int id ∷ b ∷ []) ≡ number_of_key secret (IntId id)
  of_pair id Null = refl
  of_pair id (Int n) = refl
  of_pair id (Text t) = refl
  of_pair id (Blob t) = refl
  of_pair id Other = refl

  -- a key of one column
  by_id : (row : List Cell) (key : RowKey) → length row ≡ 2 → take 1 row ≡ key_cells key → number_of_row secret row ≡ number_of_key secret key
  by_id [] key long e = absurd (omega (arith, long))
  by_id (a ∷ []) key long e = absurd (omega (arith, long))
  by_id (a ∷ b ∷ c ∷ more) key long e = absurd (omega (arith, long))
  by_id (a ∷ b ∷ []) (Tile zoom column row) long e = absurd (let h = e in cc)
  by_id (a ∷ b ∷ []) (IntId id) long e = let same : a ≡ Int id = cc in rw same (of_pair id b)
  by_id (a ∷ b ∷ []) (TextId id) long e = let same : a ≡ Text id = cc in rw same refl

  pub same_number : (table : TableName) (key : RowKey) (row : List Cell) → length row ≡ width table → has_key table key row ≡ true → number_of_row secret row ≡ number_of_key secret key
  same_number table key row wide has = by table wide ((cells_eq-Decides (key_of table row) (key_cells key)).0 has)
    where
      by : (table : TableName) → length row ≡ width table → key_of table row ≡ key_cells key → number_of_row secret row ≡ number_of_key secret key
      by Tiles wide e = by_place row key (omega (arith, wide)) e
      by TilesWithHash wide e = by_place row key (omega (arith, wide)) e
      by Map wide e = by_place row key (omega (arith, wide)) e
      by Images wide e = by_id row key wide e
      by TilesShallow wide e = by_place row key (omega (arith, wide)) e
      by TilesData wide e = by_id row key wide e
      by TileCache wide e = by_place row key (omega (arith, wide)) e
      by Metadata wide e = by_id row key wide e
