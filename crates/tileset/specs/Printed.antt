-- What is printed of a report, whatever the medium tells.
use Rattle.std.specs.Prelude.{ℕ, ◌≡◌, ◌++◌, List, [], Option, Result, Ok, is_some}
use Rattle.tileset.specs.Common.{ConvertError, ConvertReport, Coord, Gains}
use Rattle.mb_loaded.specs.Aggregate.{aggregate}
use Rattle.mb_loaded.specs.State.{State}
use Rattle.pm_format.specs.Options.{Options}
use Rattle.tile_bridge.specs.Convert.{HasPlaces}
use Rattle.tileset.specs.Places.{places_text}
use Rattle.tileset.specs.Summary.{summary}
use Rattle.tileset_script.specs.declared.words.Command.{Command}
use Rattle.tileset_script.specs.declared.words.Command.TheVariants.{ConvertHex, ConvertFile, Bulk}

-- what is held gained some bytes
abbrev pub Grows : Option (List ℕ) → Option (List ℕ) → Type 0
Grows old new = (bytes : List ℕ) × Gains old new bytes

-- The report is of the set that is due: its hash is the set's, and its places are those of the set's archive, or over a
-- medium that tells nothing of what the writer took the bytes of the tiles for.
pub record IsOfDue (due : Result State ConvertError) (o : Options) (medium : Option (List ℕ)) (r : ConvertReport) : Type 0 where
  pub final : State
  pub set : due ≡ Ok final
  pub hash : r.aggregate ≡ aggregate final.algorithm final.tiles
  pub places : HasPlaces o final.tiles medium r

-- the lines of a command on a report: the answers, the hash and the numbers, or the places of an archive
-- that is made of two numbers
abbrev pub lines_on : Command → List Coord → ConvertReport → List ℕ
lines_on ConvertHex queries r = summary queries r
lines_on ConvertFile queries r = summary queries r
lines_on (Bulk tiles repeat leaf) queries r = places_text (is_some leaf) r.places

-- what stands behind them: nothing, or the dump
abbrev pub MayFollow : Command → List ℕ → Type 0
MayFollow ConvertHex rest = Unit {0}
MayFollow _ rest = rest ≡ []

-- the sink gained these lines, and what may stand behind them
abbrev pub Prints : Command → List Coord → ConvertReport → Option (List ℕ) → Option (List ℕ) → Type 0
Prints asked queries r old new = (rest : List ℕ) × MayFollow asked rest × Gains old new (lines_on asked queries r ++ rest)
