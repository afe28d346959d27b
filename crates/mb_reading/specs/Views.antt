-- Which texts make a view that has exactly the tiles of a layout's tables, by the statement that they are.
use Rattle.std.specs.Prelude.{ℕ, codes, Bool, true, false, not, ◌&&◌, ◌||◌, ◌==◌, List, [], ◌∷◌, length, Option, Some, None, is_some, Result, Ok, Err}
use Rattle.mb_reading.specs.Common.{contents_of, FlatWithHash, id_text, list_any, MbtType, Normalized, places_of, str_eq_ignore_ascii_case, table_text, TableName, TilesWithHash}
use Rattle.sqlite_ast.specs.Layer.{Layer, ShownLayer}
use Rattle.sqlite_ast.specs.declared.Binary.TheVariants.{Eq}
use Rattle.sqlite_ast.specs.declared.Core.{Core, out-Core}
use Rattle.sqlite_ast.specs.declared.Expr.{Expr, out-Expr}
use Rattle.sqlite_ast.specs.declared.Expr.TheOpen.{Expr-F, Shown-F}
use Rattle.sqlite_ast.specs.declared.Origin.{Origin}
use Rattle.sqlite_ast.specs.declared.Origin.TheVariants as origins
use Rattle.sqlite_ast.specs.declared.Select.{Select, out-Select}
use Rattle.sqlite_ast.specs.declared.Shown.{Shown, out-Shown}
use Rattle.sqlite_ast.specs.declared.Source.{Source, out-Source}
use Rattle.sqlite_ast.specs.declared.Statement.{Statement}
use Rattle.sqlite_ast.specs.declared.Statement.TheVariants.{CreateView}
use Rattle.sqlite_syntax.specs.Statement.{parse}
use Rattle.sqlite_syntax.specs.declared.error.ParseError.{ParseError}
use Rattle.sqlite_syntax.specs.declared.statement.Parsed.{Parsed}

-- a name, in any ASCII case
abbrev pub is_name : List ℕ → List ℕ → Bool
is_name text name = str_eq_ignore_ascii_case text name

-- `TABLE.NAME`
abbrev pub is_own_at : TableName → List ℕ → Layer → Bool
is_own_at table name (Expr-F.Column (Some t) n) = is_name t (table_text table) && is_name n name
is_own_at table name _ = false

unfoldable pub is_own_column : TableName → List ℕ → Expr → Bool
is_own_column table name e = is_own_at table name (out-Expr e)

-- `TABLE.NAME` or `NAME`
abbrev pub is_column_at : TableName → List ℕ → Layer → Bool
is_column_at table name (Expr-F.Column (Some t) n) = is_name t (table_text table) && is_name n name
is_column_at table name (Expr-F.Column None n) = is_name n name
is_column_at table name _ = false

unfoldable pub is_column : TableName → List ℕ → Expr → Bool
is_column table name e = is_column_at table name (out-Expr e)

-- such a column, alone or `AS NAME`
abbrev pub shows_at : TableName → List ℕ → ShownLayer → Bool
shows_at table name (Shown-F.One e None text) = is_column table name e
shows_at table name (Shown-F.One e (Some alias) text) = is_name alias name && is_column table name e
shows_at table name _ = false

unfoldable pub shows : TableName → List ℕ → Shown → Bool
shows table name s = shows_at table name (out-Shown s)

abbrev pub has_shown : TableName → List ℕ → List Shown → Bool
has_shown table name columns = list_any (shows table name) columns

-- the place of a tile and its contents, and nothing else
unfoldable pub shows_tiles : TableName → TableName → List Shown → Bool
shows_tiles places contents columns =
    length columns == 4 && has_shown places (codes "zoom_level") columns && has_shown places (codes "tile_column") columns && has_shown places (codes "tile_row") columns
    && has_shown contents (codes "tile_data") columns

abbrev pub is_table : TableName → Origin Select → Bool
is_table table (origins.Table name) = is_name name (table_text table)
is_table table (origins.Query query) = false

-- a table under its own name, which no LEFT JOIN adds
unfoldable pub is_source : TableName → Source → Bool
is_source table s = not (out-Source s).is_left && not (is_some (out-Source s).alias) && is_table table (out-Source s).origin

-- without ON and USING
unfoldable pub is_bare : Source → Bool
is_bare s = not (is_some (out-Source s).on) && length (out-Source s).using == 0

-- `PLACES.ID = CONTENTS.ID`, or the other way round
abbrev pub links_at : TableName → TableName → List ℕ → Layer → Bool
links_at places contents id (Expr-F.Binary Eq left right) =
    is_own_column places id left && is_own_column contents id right || is_own_column contents id left && is_own_column places id right
links_at places contents id _ = false

unfoldable pub links : TableName → TableName → List ℕ → Expr → Bool
links places contents id e = links_at places contents id (out-Expr e)

-- `ON` such an equation, or `USING (ID)`
abbrev pub joins_by : TableName → TableName → List ℕ → Option Expr → List (List ℕ) → Bool
joins_by places contents id (Some e) using = links places contents id e
joins_by places contents id None (name ∷ []) = is_name name id
joins_by places contents id None _ = false

unfoldable pub joins : TableName → TableName → List ℕ → Source → Bool
joins places contents id s = joins_by places contents id (out-Source s).on (out-Source s).using

-- one table
abbrev pub is_alone : TableName → List Source → Bool
is_alone table (s ∷ []) = is_source table s && is_bare s
is_alone table _ = false

-- the tables of places and of contents, in either order, joined by an id
abbrev pub are_joined : TableName → TableName → List ℕ → List Source → Bool
are_joined places contents id (s ∷ t ∷ []) =
    (is_source places s && is_source contents t || is_source contents s && is_source places t) && is_bare s && joins places contents id t
are_joined places contents id _ = false

-- SELECT and FROM alone
unfoldable pub is_plain_core : Core → Bool
is_plain_core c = not (out-Core c).distinct && not (is_some (out-Core c).filter) && length (out-Core c).group == 0 && not (is_some (out-Core c).having)

unfoldable pub is_plain : Select → Bool
is_plain q =
    length (out-Select q).with == 0 && length (out-Select q).others == 0 && length (out-Select q).order == 0 && not (is_some (out-Select q).limit) && not (is_some (out-Select q).offset)
    && is_plain_core (out-Select q).first

-- all rows of the tables of a layout, each once
abbrev pub takes_all : MbtType → Core → Bool
takes_all FlatWithHash c = shows_tiles TilesWithHash TilesWithHash (out-Core c).shown && is_alone TilesWithHash (out-Core c).from
takes_all (Normalized view schema) c =
    shows_tiles (places_of schema) (contents_of schema) (out-Core c).shown && are_joined (places_of schema) (contents_of schema) (id_text schema) (out-Core c).from
takes_all _ c = false

unfoldable pub is_query : MbtType → Select → Bool
is_query layout q = is_plain q && takes_all layout (out-Select q).first

abbrev pub makes : MbtType → Statement → Bool
makes layout (CreateView if_missing name columns query) = length columns == 0 && is_query layout query
makes layout _ = false

abbrev pub makes_parsed : MbtType → Result Parsed ParseError → Bool
makes_parsed layout (Ok p) = makes layout p.statement
makes_parsed layout (Err e) = false

-- whether a text makes a view of exactly the tiles of the layout's tables
unfoldable pub is_view_text : MbtType → List ℕ → Bool
is_view_text layout text = makes_parsed layout (parse text)
