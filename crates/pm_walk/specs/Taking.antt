-- What the tests of a tile entry give where the whole is walked.
use Rattle.std.specs.Prelude.{◌≡◌, ◌≢◌, ◌+◌, ℕ, true, List, nat_eq, if◌then◌else◌, Option, Some, None, is_some, Result, Ok, Err}
use Rattle.pm_format.specs.declared.error.PmtError.TheVariants as errors
use Rattle.pm_format.specs.declared.error.ReadCause.TheVariants as causes
use Rattle.pm_walk.specs.Common.{Entry, Header, range_of}
use Rattle.pm_walk.specs.Collecting.{IsShallow, taken}
use Rattle.pm_walk.specs.Walk.{run_refusal, tile_refusal}
use Rattle.pm_walk.specs.declared.error.WalkError.{WalkError}
use Rattle.pm_walk.specs.declared.error.WalkError.TheVariants.{Archive, TooManyTiles}
use Rattle.pm_walk.specs.declared.extent.Extent.TheVariants.{Whole}

-- The refusal behind the test of its range: that of its run, and where it has bytes, too little room for its tiles.
abbrev pub room_refusal : Option ℕ → Option WalkError
room_refusal None = Some TooManyTiles
room_refusal (Some left) = None

abbrev pub then_room : Option ℕ → Entry → Option WalkError → Option WalkError
then_room room e (Some x) = Some x
then_room room e None = if nat_eq e.length 0 then None else room_refusal (taken room e.run_length)

abbrev pub behind_range : Option ℕ → Entry → Option WalkError
behind_range room e = then_room room e (run_refusal e)

-- told or not, what isn't refused: an entry that is empty, or one of zooms up to 30 whose tiles there is
-- room for, with its contents
abbrev pub IsTaken : Option ℕ → Entry → Option (List ℕ) → Type 0
IsTaken room e None = e.length ≡ 0
IsTaken room e (Some contents) = (e.length ≢ 0) × IsShallow e × (is_some (taken room e.run_length) ≡ true)

-- Over told bytes, which contents they are, and the first refusal. A fault and running out of memory may come in the
-- place of both, and a wrong number of bytes never does.
abbrev pub Takes : Option ℕ → Header → List ℕ → Entry → Result (Option (List ℕ)) WalkError → Type 0
Takes room h b e (Ok None) = tile_refusal Whole h b e ≡ None
Takes room h b e (Ok (Some contents)) = (tile_refusal Whole h b e ≡ None) × (range_of b (h.data_offset + e.offset) e.length ≡ Some contents)
Takes room h b e (Err (Archive errors.OutOfMemory)) = Unit {0}
Takes room h b e (Err (Archive (errors.Reading causes.Fault))) = Unit {0}
Takes room h b e (Err (Archive (errors.UnexpectedNumberOfBytesReturned asked got))) = ⊥
Takes room h b e (Err TooManyTiles) = (tile_refusal Whole h b e ≡ None) × (e.length ≢ 0) × (taken room e.run_length ≡ None)
Takes room h b e (Err x) = tile_refusal Whole h b e ≡ Some x
