-- What a reading leaves out, counted.
use Rattle.std.specs.Prelude.{ℕ, ◌+◌, ◌==◌, cond, Option, Some, None, List, [], ◌∷◌}
use Rattle.mb_reading.specs.Common.{column, Metadata, Row, TableName, Value}
use Rattle.mb_reading.specs.declared.filling.Step.{Step}
use Rattle.mb_reading.specs.declared.filling.Step.TheVariants as steps
use Rattle.mb_reading.specs.declared.left_out.LeftOut.{LeftOut}
use Rattle.mb_reading.specs.declared.left_out.PlaceValue.{PlaceValue}
use Rattle.mb_reading.specs.declared.left_out.PlaceValue.TheVariants as places
use Rattle.mb_reading.specs.declared.left_out.PlaceValues.{PlaceValues}
use Rattle.sqlite_value.specs.declared.value.Value.TheVariants as sql

abbrev pub nothing_left : LeftOut
nothing_left = record { without_number = 0; too_deep = 0; outside_grid = 0; first = None; without_text = 0; repeated_names = 0 }

abbrev pub place_value : Value → PlaceValue
place_value sql.Null = places.Null
place_value (sql.Int n) = places.Integer n
place_value (sql.Real x) = places.Real x
place_value (sql.Text t) = places.Text
place_value (sql.Blob b) = places.Blob

abbrev pub place_values : Row → PlaceValues
place_values r = record { zoom_level = place_value (column r 0); tile_column = place_value (column r 1); tile_row = place_value (column r 2) }

abbrev pub or_first : Option PlaceValues → PlaceValues → Option PlaceValues
or_first (Some first) next = Some first
or_first None next = Some next

-- a count of 64 bits, which stays at its greatest
abbrev pub one_more : ℕ → ℕ
one_more n = cond (n == 18446744073709551615) n (n + 1)

-- with an answer on a table of which this became
abbrev pub counted : TableName → Row → Step → LeftOut → LeftOut
counted table r steps.NoNumber l = record l { without_number = one_more l.without_number; first = or_first l.first (place_values r) }
counted table r steps.TooDeep l = record l { too_deep = one_more l.too_deep; first = or_first l.first (place_values r) }
counted table r steps.Outside l = record l { outside_grid = one_more l.outside_grid; first = or_first l.first (place_values r) }
counted Metadata r steps.Odd l = record l { without_text = one_more l.without_text }
counted Metadata r steps.Repeated l = record l { repeated_names = one_more l.repeated_names }
counted table r _ l = l
