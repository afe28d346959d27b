-- Whether the tiles of marks are too many or too long for an archive.
use Rattle.std.specs.Prelude.{◌^◌, ◌||◌, Bool, List, length, nat_le, sum_by}
use Rattle.tile_streaming.specs.Common.{list_any}
use Rattle.tile_streaming.specs.declared.mark.Mark.{Mark}

-- a tile of 2^32 bytes
abbrev pub is_too_long : Mark → Bool
is_too_long m = m.is_long || nat_le (2 ^ 32) m.length

-- such a tile, 2^32 tiles, or 2^60 bytes in all
abbrev pub overflow_of : List Mark → Bool
overflow_of marks = list_any is_too_long marks || (nat_le (2 ^ 32) (length marks) || nat_le (2 ^ 60) (sum_by (λ m. m.length) marks))
