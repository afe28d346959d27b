-- What the tiles of marks say of an archive.
use Rattle.std.specs.Prelude.{◌&&◌, Bool, List, cond, fold, nat_eq, not}
use Rattle.tile_streaming.specs.Common.{coord_of, no_facts, TileFacts, with_filled}
use Rattle.tile_streaming.specs.declared.mark.Mark.{Mark}

-- a mark of no byte
abbrev pub is_empty : Mark → Bool
is_empty m = nat_eq m.length 0 && not m.is_long

-- a tile more, by its mark; one of no byte says nothing
abbrev pub with_mark : TileFacts → Mark → TileFacts
with_mark f m = cond (is_empty m) f (with_filled f (coord_of m.id).z m.gzip)

-- what all of them say
abbrev pub facts_of_marks : List Mark → TileFacts
facts_of_marks marks = fold with_mark no_facts marks
