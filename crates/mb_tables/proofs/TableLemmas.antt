-- Tables by number and by name.
use Rattle.mb_tables.proofs.Common.{ap, cond, eq-eqb, eqb-true, refl, sym, table_eq, table_number, true, ℕ, ◌==◌, ◌∙◌, ◌≡◌}
use Rattle.mb_tables.specs.declared.table.TableName.{TableName}
use Rattle.mb_tables.specs.declared.table.TableName.TheVariants.{Tiles, TilesWithHash, Map, Images, TilesShallow, TilesData, TileCache, Metadata}

table_at : ℕ → TableName
table_at n = cond (n == 0) Tiles (cond (n == 1) TilesWithHash (cond (n == 2) Map (cond (n == 3) Images (cond (n == 4) TilesShallow (cond (n == 5) TilesData (cond (n == 6) TileCache Metadata))))))

at_own : (t : TableName) → table_at (table_number t) ≡ t
unfolding table_at
at_own Tiles = refl
at_own TilesWithHash = refl
at_own Map = refl
at_own Images = refl
at_own TilesShallow = refl
at_own TilesData = refl
at_own TileCache = refl
at_own Metadata = refl

-- the number of a table says which it is
pub same_table : (t u : TableName) → table_eq t u ≡ true → t ≡ u
same_table t u h = sym (at_own t) ∙ (ap table_at (eqb-true (table_number t) (table_number u) h) ∙ at_own u)

pub table_eq-refl : (t : TableName) → table_eq t t ≡ true
table_eq-refl t = eq-eqb (table_number t) (table_number t) refl

-- what holds of each table by name
pub by_tables : (P : TableName → Type 0) → P Tiles → P TilesWithHash → P Map → P Images → P TilesShallow → P TilesData → P TileCache → P Metadata → (t : TableName) → P t
by_tables P a b c d e f g h Tiles = a
by_tables P a b c d e f g h TilesWithHash = b
by_tables P a b c d e f g h Map = c
by_tables P a b c d e f g h Images = d
by_tables P a b c d e f g h TilesShallow = e
by_tables P a b c d e f g h TilesData = f
by_tables P a b c d e f g h TileCache = g
by_tables P a b c d e f g h Metadata = h
