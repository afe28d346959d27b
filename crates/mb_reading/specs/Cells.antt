-- What a value of a file becomes as a cell of a set, by its column. None stands for a value that no set has there.
use Rattle.std.specs.Prelude.{ℕ, pos, Bool, ◌==◌, ◌&&◌, ◌||◌, cond, List, length, Option, Some, None}
use Rattle.mb_reading.specs.Common.{Blob, Cell, Int, is_ascii_hexdigit, is_utf8, list_all, list_any, Null, Text, Value}
use Rattle.std.specs.Float.{Float, binary64, float_to_signed}
use Rattle.std.specs.Float.Ieee
use Rattle.std.specs.Int.{w64}
use Rattle.line_words.specs.Number.{number_to}
use Rattle.mb_reading.specs.declared.value_kind.ValueKind.{ValueKind}
use Rattle.mb_reading.specs.declared.value_kind.ValueKind.TheVariants as kinds
use Rattle.sqlite_value.specs.declared.value.Value.TheVariants as sql

-- the kind of a value
abbrev pub kind_of : Value → ValueKind
kind_of sql.Null = kinds.Null
kind_of (sql.Int n) = kinds.Integer
kind_of (sql.Real x) = kinds.Real
kind_of (sql.Text t) = kinds.Text
kind_of (sql.Blob b) = kinds.Blob

-- a floating point number that is whole as that number, another one as null
abbrev pub real_cell : Float → Cell
real_cell x = cond (Ieee.eq (Ieee.of_int binary64 (float_to_signed w64 x)) x) (Int (float_to_signed w64 x)) Null

-- the number that a text spells in at most nine digits, null where it spells none
abbrev pub spelled_cell : List ℕ → Cell
spelled_cell t = by (number_to 999999999 t)
  where
    by : Option ℕ → Cell
    by None = Null
    by (Some n) = Int (pos n)

-- a zoom, a column or a row: what isn't a whole number is null, which is no place
abbrev pub place_cell : Value → Cell
place_cell sql.Null = Null
place_cell (sql.Int n) = Int n
place_cell (sql.Real x) = real_cell x
place_cell (sql.Text t) = spelled_cell t
place_cell (sql.Blob b) = Null

-- contents: a text as its bytes
abbrev pub data_cell : Value → Option Cell
data_cell sql.Null = Some Null
data_cell (sql.Int n) = None
data_cell (sql.Real x) = None
data_cell (sql.Text t) = Some (Blob t)
data_cell (sql.Blob b) = Some (Blob b)

-- a text in UTF-8
abbrev pub text_cell : List ℕ → Option Cell
text_cell t = cond (is_utf8 t) (Some (Text t)) None

-- 16 or 32 hexadecimal digits
abbrev pub is_digest : List ℕ → Bool
is_digest t = (length t == 16 || length t == 32) && list_all is_ascii_hexdigit t

-- a digest, or null
abbrev pub digest_cell : Value → Option Cell
digest_cell sql.Null = Some Null
digest_cell (sql.Text t) = cond (is_digest t) (text_cell t) None
digest_cell _ = None

-- the number of contents, or null
abbrev pub number_cell : Value → Option Cell
number_cell sql.Null = Some Null
number_cell (sql.Int n) = Some (Int n)
number_cell _ = None

-- a text of the metadata: UTF-8 without a zero byte
abbrev pub plain_cell : List ℕ → Option Cell
plain_cell t = cond (list_any (λ b. b == 0) t) None (text_cell t)

-- a name of the metadata
abbrev pub name_cell : Value → Option Cell
name_cell (sql.Text t) = cond (length t == 0) None (plain_cell t)
name_cell _ = None

-- the text of a value, where it is one
abbrev pub spelling_cell : Value → Option Cell
spelling_cell (sql.Text t) = plain_cell t
spelling_cell _ = None

-- a value of the metadata: a number by the text that SQLite spells it in
abbrev pub value_cell : Value → Value → Option Cell
value_cell sql.Null spelling = Some Null
value_cell (sql.Int n) spelling = spelling_cell spelling
value_cell (sql.Real x) spelling = spelling_cell spelling
value_cell (sql.Text t) spelling = plain_cell t
value_cell (sql.Blob b) spelling = None
