-- The questions by which a set is read, all of one state of a database, and what comes of their answers.
use Rattle.std.specs.Prelude.{ℕ, ◌≡◌, ◌⊎◌, Bool, true, false, List, [], Ok, Err, Some, None, IsTrue, MatchBool}
use Rattle.mb_reading.specs.Common.{Flat, Held, IsUnchanged, MbtType, Metadata, Row, Shown, State, state, Survives, TableName, tile_table, Tiles}
use Rattle.sqlite.specs.Listing.{understood}
use Rattle.sqlite.specs.Schema.{Schema}
use Rattle.sqlite.specs.Store.{Ghosts}
use Rattle.sqlite.specs.declared.error.Error.{Error}
use Rattle.sqlite.specs.declared.error.Error.TheVariants.{SqlInputError}
use Rattle.sqlite_resolve.specs.declared.compiled.Compiled.{Compiled}
use Rattle.sqlite_resolve.specs.declared.error.CompileError.{CompileError}
use Rattle.mb_reading.specs.Filling.{Fits, Read, content_table, fits, has_contents, may_lack, read_on, start}
use Rattle.mb_reading.specs.Master.{first_layout, is_there}
use Rattle.mb_reading.specs.Texts.{master_text, rows_text}

-- nothing is committed: a crash leaves what it could leave before
abbrev pub CommitsNothing : {S : Type 0} → Ghosts S → Held S → Held S → Type 0
CommitsNothing g old new = Survives (state g old) (state g new) (λ _. ⊥)

-- a database is as it was, and so is a connection that is open
pub record Stays (old new : State) : Type 0 where
  pub now : new.now ≡ old.now
  pub same : IsTrue new.is_open → IsUnchanged old new

-- the text asks for rows and writes none, whatever the schema
abbrev pub OnlyAsks : List ℕ → Type 0
OnlyAsks text = (schema : Schema) (c : Compiled) → understood schema text ≡ Ok c → c.returning ≡ None

-- a database in this state shows these rows to a text
abbrev pub Shows : List ℕ → State → List Row → Type 0
Shows text s rows = Shown text [] s s rows

-- a refusal of a text itself leaves all as it was
abbrev pub Refuses : List ℕ → State → State → Error → Type 0
Refuses text old new e = (fault : CompileError) → e ≡ SqlInputError fault → (understood old.now.schema text ≡ Err fault) × IsUnchanged old new

-- whether it is one
abbrev pub is_input : Error → Bool
is_input (SqlInputError fault) = true
is_input _ = false

-- a table is filled with the rows that the database shows to its statement; or it isn't asked for
unfoldable pub ReadsTable : Bool → TableName → State → Read → Read → Type 0
ReadsTable has table s t u = MatchBool has ((rows : List Row) × Shows (rows_text table) s rows × (u ≡ read_on table t rows) × Fits table t.0 rows) (u ≡ t)

-- a table is none of its layout: its statement isn't understood, or an answer has a value that no set
-- has there, or a key twice
unfoldable pub IsUnfit : Bool → TableName → State → Read → Type 0
IsUnfit has table s t =
    (has ≡ true) × (may_lack table ≡ true)
    × (((fault : CompileError) × (understood s.now.schema (rows_text table) ≡ Err fault)) ⊎ ((rows : List Row) × Shows (rows_text table) s rows × (fits table t.0 rows ≡ false)))

-- the metadata, if there is one, the contents, if the layout has a table of them, and the tiles are read
unfoldable pub ReadsLayout : MbtType → Bool → State → Read → Type 0
ReadsLayout layout has_names s t =
    (names : Read) × (contents : Read) × ReadsTable has_names Metadata s (start layout) names
    × ReadsTable (has_contents layout) (content_table layout) s names contents × ReadsTable true (tile_table layout) s contents t

-- the table of contents, or that of tiles, is none of the layout
unfoldable pub LacksLayout : MbtType → Bool → State → Type 0
LacksLayout layout has_names s =
    (names : Read) × ReadsTable has_names Metadata s (start layout) names
    × (IsUnfit (has_contents layout) (content_table layout) s names
    ⊎ ((contents : Read) × ReadsTable (has_contents layout) (content_table layout) s names contents × IsUnfit true (tile_table layout) s contents))

-- a set is read in a layout, or flat where a table is none of that layout
unfoldable pub ReadsEither : MbtType → Bool → State → Read → Type 0
ReadsEither layout has_names s t = ReadsLayout layout has_names s t ⊎ LacksLayout layout has_names s × ReadsLayout Flat has_names s t

-- a set is read in a layout, and where something is named `tiles` it may be read flat instead
abbrev pub ReadsBy : Bool → MbtType → Bool → State → Read → Type 0
ReadsBy has_tiles layout has_names s t = MatchBool has_tiles (ReadsEither layout has_names s t) (ReadsLayout layout has_names s t)

-- a set is read in the layout that its tables and its view `tiles` tell, or flat through that view
unfoldable pub ReadsSet : State → Read → Type 0
ReadsSet s t =
    (master : List Row) × (layout : MbtType) × Shows master_text s master × (first_layout master ≡ Some layout) × ReadsBy (is_there master Tiles) layout (is_there master Metadata) s t
