-- Scripts: what they say, or the number of their first bad line.
use Rattle.std.specs.Prelude.{ℕ, zero, suc, ◌+◌, is_some, not, ◌&&◌, List, [], ◌∷◌, ◌++◌, ◌-◌, ◌^◌, nat_eq, length, if◌then◌else◌, Option, Some, None, Result, Ok, Err, codes}
use Rattle.tileset_script.specs.Common.{bytes_eq, Cell, Coord, find, is_duplicate, is_table, lines_of, no_rows, number_to, option_and_then, option_map, option_to_list, table_text, TableName, Tables}
use Rattle.tileset_script.specs.Common.{width, with_row, words_of}
use Rattle.tileset_script.specs.declared.script.options.ScriptOptions.{ScriptOptions}
use Rattle.mb_store.specs.Sizes.{all_tables}
use Rattle.tileset_script.specs.Cell.{cell_of}
use Rattle.tileset_script.specs.Layout.{layout_named, tables_of}
use Rattle.tileset_script.specs.Setting.{options_of, setting_of}
use Rattle.tileset_script.specs.declared.layout.Layout.{Layout}
use Rattle.tileset_script.specs.declared.script.line.Line.{Line}
use Rattle.tileset_script.specs.declared.script.line.Line.TheVariants.{Nothing, Given, Base, Patch, Row, Query}
use Rattle.tileset_script.specs.declared.script.setting.Setting.{Setting}

-- what a script says: options, the tables of the base and of each patch, and the coordinates that are asked for
pub record Script : Type 0 where
  pub options : ScriptOptions
  pub base : Tables
  pub patches : List Tables
  pub queries : List Coord

-- a row of so many cells, one for each word
abbrev pub row_of : ℕ → List (List ℕ) → Option (List Cell)
row_of zero [] = Some []
row_of zero (word ∷ words) = None
row_of (suc n) [] = None
row_of (suc n) (word ∷ words) = option_and_then (λ cell. option_map (λ row. cell ∷ row) (row_of n words)) (cell_of word)

-- the table of a name
abbrev pub table_named : List ℕ → Option TableName
table_named word = find (λ table. bytes_eq word (table_text table)) all_tables

-- a coordinate of zoom 0 to 31
abbrev pub query_line : List ℕ → List ℕ → List ℕ → Option Line
query_line zoom column row =
    option_and_then (λ z. option_and_then (λ x. option_map (λ y. Query (record { z = z; x = x; y = y })) (number_to (2 ^ z - 1) row)) (number_to (2 ^ z - 1) column)) (number_to 31 zoom)

-- what the words behind a line's first word say
abbrev pub layout_words : List (List ℕ) → Option Layout
layout_words (word ∷ []) = layout_named word
layout_words _ = None

abbrev pub row_words : List (List ℕ) → Option Line
row_words [] = None
row_words (name ∷ cells) = option_and_then (λ table. option_map (Row table) (row_of (width table) cells)) (table_named name)

abbrev pub query_words : List (List ℕ) → Option Line
query_words (z ∷ x ∷ y ∷ []) = query_line z x y
query_words _ = None

abbrev pub option_words : List (List ℕ) → Option Line
option_words [] = None
option_words (name ∷ values) = option_map Given (setting_of name values)

abbrev pub line_by : List ℕ → List (List ℕ) → Option Line
line_by word words =
    if bytes_eq word (codes "row") then row_words words else
    (if bytes_eq word (codes "query") then query_words words else
    (if bytes_eq word (codes "option") then option_words words else
    (if bytes_eq word (codes "base") then option_map Base (layout_words words) else
    (if bytes_eq word (codes "patch") then option_map Patch (layout_words words) else None))))

abbrev pub words_line : List (List ℕ) → Option Line
words_line [] = None
words_line (word ∷ words) = line_by word words

-- what a line says; nothing where it is empty or begins with `#`
unfoldable pub line_of : List ℕ → Option Line
line_of [] = Some Nothing
line_of (b ∷ line) = if nat_eq b 35 then Some Nothing else words_line (words_of (b ∷ line))

-- what lines said so far: settings, the stores before the latest one, that one, and the coordinates that are asked for
pub record Draft : Type 0 where
  pub settings : List Setting
  pub earlier : List Tables
  pub latest : Option Tables
  pub queries : List Coord

-- one store more
abbrev pub begun : Draft → Layout → Draft
begun d layout = record d { earlier = d.earlier ++ option_to_list d.latest; latest = Some (no_rows (tables_of layout)) }

-- a store with one row more, None where it doesn't describe the table, or has a row of the same key
abbrev pub row_added : TableName → List Cell → Tables → Option Tables
row_added table row t = if is_table t.descriptions table && not (is_duplicate t table row) then Some (with_row t table row) else None

-- with one line more, None where the line doesn't stand in its section or repeats a key
abbrev pub with_line : Draft → Line → Option Draft
with_line d Nothing = Some d
with_line d (Given setting) = if is_some d.latest then None else Some (record d { settings = d.settings ++ setting ∷ [] })
with_line d (Base layout) = if is_some d.latest then None else Some (begun d layout)
with_line d (Patch layout) = if is_some d.latest && nat_eq (length d.queries) 0 then Some (begun d layout) else None
with_line d (Row table row) = if nat_eq (length d.queries) 0 then option_map (λ t. record d { latest = Some t }) (option_and_then (row_added table row) d.latest) else None
with_line d (Query c) = if is_some d.latest then Some (record d { queries = d.queries ++ c ∷ [] }) else None

-- the script, where there is a store: the first is the base, and the others are patches
abbrev pub ended : Draft → Option Script
ended d = elim (d.earlier ++ option_to_list d.latest) [
  | [] ↦ None
  | base ∷ patches ↦ Some (record { options = options_of d.settings; base = base; patches = patches; queries = d.queries })
]

-- a script has a base line
abbrev pub at_end : ℕ → Draft → Result Script ℕ
at_end n d = elim (ended d) [ None ↦ Err n | Some s ↦ Ok s ]

-- the lines from this one on, behind a draft
abbrev pub script_from : ℕ → Draft → List (List ℕ) → Result Script ℕ
script_from n d [] = at_end n d
script_from n d (line ∷ lines) = elim (option_and_then (with_line d) (line_of line)) [ None ↦ Err n | Some e ↦ script_from (n + 1) e lines ]

-- before the first line
abbrev pub no_lines : Draft
no_lines = record { settings = []; earlier = []; latest = None; queries = [] }

unfoldable pub script_of : List ℕ → Result Script ℕ
script_of input = script_from 1 no_lines (lines_of input)
