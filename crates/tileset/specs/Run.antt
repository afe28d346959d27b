-- What a run answers, and what it leaves.
use Rattle.std.specs.Prelude.{ℕ, ◌≡◌, ◌≢◌, ◌+◌, ◌-◌, ◌^◌, ◌≤◌, ◌<◌, ◌⊎◌, false, List, [], ◌∷◌, length, map, nat_lt, if◌then◌else◌, Option, Some, None, is_some, Result, Ok, Err, IfSome, IsOk}
use Rattle.tileset.specs.Common.{archive_map, bulk_script, command, Compression, ConvertError, ConvertReport, Coord, Gains, GainsFront, id_of, IsArchiveOf, IsAtEnd, IsEmpty, IsPlain, IsShort}
use Rattle.tileset.specs.Common.{LeavesPart, outcome, places_read, Script, script_of}
use Rattle.pm_contents.specs.Pieces.{BothTold}
use Rattle.pm_format.specs.declared.compression.Compression.TheVariants as compression
use Rattle.mb_tables.specs.Refusals.{is_free}
use Rattle.mb_loaded.specs.State.{State}
use Rattle.mb_loaded.specs.Aggregate.{aggregate}
use Rattle.tile_bridge.specs.ReadingBack.{IsReadBack}
use Rattle.tile_bridge.specs.declared.error.ConvertError.TheVariants as refusals
use Rattle.tileset.specs.Dump.{IsOtherRange}
use Rattle.tileset.specs.Printed.{IsOfDue, Prints}
use Rattle.tileset.specs.Report.{bulk_text, file_text, report_text}
use Rattle.byte_streams.specs.declared.input.TheConstants.{MAX_INPUT}
use Rattle.tileset.specs.declared.outcome.Outcome.{Outcome}
use Rattle.tileset.specs.declared.outcome.Outcome.TheVariants.{Done, Refused, Usage, BadScript, InputFault, OutputFault, MediumFault, OutOfMemory, InputTooLong, ReadBack}
use Rattle.tileset_script.specs.declared.words.Command.{Command}
use Rattle.tileset_script.specs.declared.words.Command.TheVariants.{ConvertHex, ConvertFile, Bulk}

-- what a run is given: its words, what is left of the input, and what the medium holds, where they tell
pub record Given : Type 0 where
  pub words : List (List ℕ)
  pub input : Option (List ℕ)
  pub medium : Option (List ℕ)

abbrev pub given_of : List (List ℕ) → Option (List ℕ) → Option (List ℕ) → Given
given_of words input medium = record { words = words; input = input; medium = medium }

-- the input spells this script, where it tells
abbrev pub Spells : Option (List ℕ) → Script → Type 0
Spells input s = IfSome input (λ bytes. script_of bytes ≡ Ok s)

-- the script of a command: the one that the input spells, or that of two numbers
abbrev pub IsScriptOf : Command → Option (List ℕ) → Script → Type 0
IsScriptOf ConvertHex input s = IsShort input × Spells input s
IsScriptOf ConvertFile input s = IsShort input × Spells input s
IsScriptOf (Bulk tiles repeat leaf) input s = s ≡ bulk_script tiles repeat leaf

-- the words are a command, and this is its script
pub record IsScript (given : Given) (s : Script) : Type 0 where
  pub asked : Command
  pub words : command given.words ≡ Some asked
  pub script : IsScriptOf asked given.input s

-- what the set of a script comes to: the state that is converted, or the first refusal
abbrev pub converted : Script → Result State ConvertError
converted s = outcome s.base s.patches s.options.force s.options.verify

-- The answer, in the order of the tests: words, input, script, medium, label of directories, set. None where
-- what decides it isn't told.
abbrev pub answer_set : Result State ConvertError → Outcome
answer_set (Ok final) = Done
answer_set (Err e) = Refused e

abbrev pub answer_label : Script → Compression → Outcome
answer_label s compression.None = answer_set (converted s)
answer_label s label = Refused (refusals.UnsupportedCompression label)

abbrev pub answer_medium : Script → List ℕ → Outcome
answer_medium s (byte ∷ bytes) = Refused (refusals.MediumNotEmpty (length (byte ∷ bytes)))
answer_medium s [] = answer_label s s.options.writer.internal_compression

abbrev pub answer_script : Result Script ℕ → Option (List ℕ) → Option Outcome
answer_script (Err line) medium = Some (BadScript line)
answer_script (Ok s) None = None
answer_script (Ok s) (Some bytes) = Some (answer_medium s bytes)

abbrev pub answer_input : Option (List ℕ) → Option (List ℕ) → Option Outcome
answer_input None medium = None
answer_input (Some bytes) medium = if nat_lt MAX_INPUT (length bytes) then Some InputTooLong else answer_script (script_of bytes) medium

abbrev pub answer_command : Option Command → Option (List ℕ) → Option (List ℕ) → Option Outcome
answer_command None input medium = Some Usage
answer_command (Some ConvertHex) input medium = answer_input input medium
answer_command (Some ConvertFile) input medium = answer_input input medium
answer_command (Some (Bulk tiles repeat leaf)) input medium = answer_script (Ok (bulk_script tiles repeat leaf)) medium

abbrev pub answer : Given → Option Outcome
answer given = answer_command (command given.words) given.input given.medium

-- what may come in place of the answer: running out of memory, and a fault, whose count then rose
abbrev pub Yields : Outcome → Type 0
Yields OutOfMemory = Unit {0}
Yields InputFault = Unit {0}
Yields OutputFault = Unit {0}
Yields MediumFault = Unit {0}
Yields _ = ⊥

-- the answer is the wanted one, or what it yields to
abbrev pub Gives : Option Outcome → Outcome → Type 0
Gives wanted given = IfSome wanted (λ w. (given ≡ w) ⊎ Yields given)

-- the input is told, within the limit, and spells this script
abbrev pub TellsScript : Option (List ℕ) → Script → Type 0
TellsScript None s = ⊥
TellsScript (Some bytes) s = (length bytes ≤ MAX_INPUT) × (script_of bytes ≡ Ok s)

-- the script of a command is told
abbrev pub IsTold : Command → Option (List ℕ) → Script → Type 0
IsTold ConvertHex input s = TellsScript input s
IsTold ConvertFile input s = TellsScript input s
IsTold (Bulk tiles repeat leaf) input s = s ≡ bulk_script tiles repeat leaf

-- the words are a command whose script is told, its directories are plain, its set can be
-- converted, and the medium is empty
pub record IsValid (given : Given) (s : Script) : Type 0 where
  pub asked : Command
  pub words : command given.words ≡ Some asked
  pub script : IsTold asked given.input s
  pub plain : IsPlain s.options.writer
  pub final : State
  pub set : converted s ≡ Ok final
  pub empty : given.medium ≡ Some []

-- a script of the command with this property
abbrev pub SomeScript : Given → (Script → Type 0) → Type 0
SomeScript given P = (s : Script) × IsScript given s × P s

-- When each refusal of a script's conversion comes; never another of its errors. The refusal of a store is none of a
-- fault or of running out of memory.
abbrev pub RefusedBy : Script → Option (List ℕ) → ConvertError → Type 0
RefusedBy s medium (refusals.MediumNotEmpty n) = (0 < n) × IfSome medium (λ bytes. n ≡ length bytes)
RefusedBy s medium (refusals.UnsupportedCompression label) = IsEmpty medium × (label ≡ s.options.writer.internal_compression) × (label ≢ compression.None)
RefusedBy s medium (refusals.Store place e) = IsEmpty medium × IsPlain s.options.writer × (converted s ≡ Err (refusals.Store place e)) × (is_free e ≡ false)
RefusedBy s medium refusals.IndexEntryOverflow = IsEmpty medium × IsPlain s.options.writer × (converted s ≡ Err refusals.IndexEntryOverflow)
RefusedBy s medium _ = ⊥

-- the script can be converted: the medium is empty, where it tells, directories are plain, and the set comes to a state
abbrev pub IsConvertible : Script → Option (List ℕ) → Type 0
IsConvertible s medium = IsEmpty medium × IsPlain s.options.writer × IsOk (converted s)

-- When each answer on a script comes.
abbrev pub AnsweredBy : Script → Option (List ℕ) → Outcome → Type 0
AnsweredBy s medium Done = IsConvertible s medium
AnsweredBy s medium (Refused e) = RefusedBy s medium e
AnsweredBy s medium OutputFault = IsConvertible s medium
AnsweredBy s medium MediumFault = Unit {0}
AnsweredBy s medium OutOfMemory = Unit {0}
AnsweredBy s medium (ReadBack e) = (medium ≡ None) × IsConvertible s medium × IsReadBack e
AnsweredBy s medium _ = ⊥

-- a command whose script is the input
abbrev pub ReadsInput : Option Command → Type 0
ReadsInput (Some ConvertHex) = Unit {0}
ReadsInput (Some ConvertFile) = Unit {0}
ReadsInput _ = ⊥

-- When each answer comes. The faults have their causes by the counts, and running out of memory is free.
abbrev pub Causes : Given → Outcome → Type 0
Causes given Usage = command given.words ≡ None
Causes given (BadScript line) = ReadsInput (command given.words) × IsShort given.input × IfSome given.input (λ bytes. script_of bytes ≡ Err line)
Causes given InputTooLong = ReadsInput (command given.words) × IfSome given.input (λ bytes. MAX_INPUT < length bytes)
Causes given InputFault = ReadsInput (command given.words)
Causes given OutOfMemory = Unit {0}
Causes given Done = SomeScript given (λ s. AnsweredBy s given.medium Done)
Causes given (Refused e) = SomeScript given (λ s. AnsweredBy s given.medium (Refused e))
Causes given OutputFault = SomeScript given (λ s. AnsweredBy s given.medium OutputFault)
Causes given MediumFault = SomeScript given (λ s. AnsweredBy s given.medium MediumFault)
Causes given (ReadBack e) = SomeScript given (λ s. AnsweredBy s given.medium (ReadBack e))

-- How many bytes of the input were taken: more than the limit exactly where the answer is InputTooLong.
abbrev pub Taken : ℕ → ℕ → Outcome → Type 0
Taken before now InputTooLong = now < 2 ^ 64 - 1 → before + MAX_INPUT < now
Taken before now _ = now ≤ before + MAX_INPUT

-- the medium holds the archive of the script: well formed, with the script's options, and with exactly the tiles of at
-- least one byte that the base has after its patches, each under its id
abbrev pub HoldsArchive : Script → Option (List ℕ) → Option (List ℕ) → Type 0
HoldsArchive s old new = BothTold (λ before b. (final : State) × (converted s ≡ Ok final) × IsArchiveOf b s.options.writer final.tiles) old new

-- What the medium holds in the end, where there is a script. After Done and after a fault of the sink it is the archive
-- of the script. After a fault of the medium and running out of memory a medium that was empty shows no part: no reader
-- opens its bytes, or the whole archive stands.
abbrev pub LeftBy : Script → Option (List ℕ) → Option (List ℕ) → Outcome → Type 0
LeftBy s old new Done = HoldsArchive s old new
LeftBy s old new OutputFault = HoldsArchive s old new
LeftBy s old new OutOfMemory = BothTold (LeavesPart s.options.writer (Some (converted s))) old new
LeftBy s old new MediumFault = BothTold (LeavesPart s.options.writer (Some (converted s))) old new
LeftBy s old new _ = new ≡ old

-- What the medium holds in the end.
abbrev pub LeavesMedium : Given → Option (List ℕ) → Outcome → Type 0
LeavesMedium given new Done = SomeScript given (λ s. LeftBy s given.medium new Done)
LeavesMedium given new OutputFault = SomeScript given (λ s. LeftBy s given.medium new OutputFault)
LeavesMedium given new MediumFault = SomeScript given (λ s. LeftBy s given.medium new MediumFault)
LeavesMedium given new OutOfMemory = (new ≡ given.medium) ⊎ SomeScript given (λ s. LeftBy s given.medium new OutOfMemory)
LeavesMedium given new _ = new ≡ given.medium

-- the text that a command writes on the way to Done, on queries, the aggregate hash of the set, and
-- the bytes of the archive
abbrev pub command_text : Command → List Coord → List ℕ → List ℕ → List ℕ
command_text ConvertHex queries hash b = report_text queries hash b
command_text ConvertFile queries hash b = file_text queries hash b
command_text (Bulk tiles repeat leaf) queries hash b = bulk_text (is_some leaf) (places_read b)

-- the text on a script whose set came to a state
abbrev pub text_of : Command → Script → State → List ℕ → List ℕ
text_of asked s final b = command_text asked s.queries (aggregate final.algorithm final.tiles) b

-- The text was begun: the script can be converted, the medium holds its archive, and the sink gained a front of the
-- text on the bytes that the medium holds.
pub record HasBegun (asked : Command) (s : Script) (medium left old new : Option (List ℕ)) : Type 0 where
  pub convertible : IsConvertible s medium
  pub archive : HoldsArchive s medium left
  pub final : State
  pub set : converted s ≡ Ok final
  pub front : IfSome left (λ b. GainsFront old new (text_of asked s final b))

-- What the sink gained in the end, where there is a script, what the medium held and what it holds then: the text, a
-- front of it, or nothing.
abbrev pub WrittenBy : Command → Script → Option (List ℕ) → Option (List ℕ) → Option (List ℕ) → Option (List ℕ) → Outcome → Type 0
WrittenBy asked s medium left old new Done = (final : State) × (converted s ≡ Ok final) × IfSome left (λ b. Gains old new (text_of asked s final b))
WrittenBy asked s medium left old new OutputFault = HasBegun asked s medium left old new
WrittenBy asked s medium left old new MediumFault = (new ≡ old) ⊎ HasBegun asked s medium left old new
WrittenBy asked s medium left old new OutOfMemory = (new ≡ old) ⊎ HasBegun asked s medium left old new
WrittenBy asked s medium left old new (ReadBack e) = (new ≡ old) ⊎ HasBegun asked s medium left old new
WrittenBy asked s medium left old new _ = new ≡ old

-- a script of the command whose text was begun
abbrev pub SomeBegun : Given → Option (List ℕ) → Option (List ℕ) → Option (List ℕ) → Type 0
SomeBegun given left old new = (s : Script) × (is : IsScript given s) × HasBegun is.asked s given.medium left old new

-- What the sink gained in the end.
abbrev pub LeavesOutput : Given → Option (List ℕ) → Option (List ℕ) → Option (List ℕ) → Outcome → Type 0
LeavesOutput given left old new Done = (s : Script) × (is : IsScript given s) × WrittenBy is.asked s given.medium left old new Done
LeavesOutput given left old new OutputFault = SomeBegun given left old new
LeavesOutput given left old new MediumFault = (new ≡ old) ⊎ SomeBegun given left old new
LeavesOutput given left old new OutOfMemory = (new ≡ old) ⊎ SomeBegun given left old new
LeavesOutput given left old new (ReadBack e) = (new ≡ old) ⊎ SomeBegun given left old new
LeavesOutput given left old new _ = new ≡ old

-- What the sink gained after Done, whatever the medium tells: the lines of a report that is of the script's set.
abbrev pub PrintedBy : Command → Script → Option (List ℕ) → Option (List ℕ) → Option (List ℕ) → Outcome → Type 0
PrintedBy asked s medium old new Done = (r : ConvertReport) × IsOfDue (converted s) s.options.writer medium r × Prints asked s.queries r old new
PrintedBy asked s medium old new _ = Unit {0}

-- the same of a run
abbrev pub PrintsReport : Given → Option (List ℕ) → Option (List ℕ) → Outcome → Type 0
PrintsReport given old new Done = (s : Script) × (is : IsScript given s) × PrintedBy is.asked s given.medium old new Done
PrintsReport given old new _ = Unit {0}

-- the outcome of an attempt
abbrev pub outcome_of : {T : Type 0} → Result T Outcome → Outcome
outcome_of (Ok _) = Done
outcome_of (Err e) = e

-- the answers and places of a report are those of the bytes
pub record IsReported (queries : List Coord) (r : ConvertReport) (b : List ℕ) : Type 0 where
  pub answers : r.answers ≡ map (λ c. archive_map b (id_of c)) queries
  pub places : places_read b ≡ Some r.places

-- The answers before there is a script.
abbrev pub LoadCauses : Option (List ℕ) → Outcome → Type 0
LoadCauses input (BadScript line) = IsShort input × IfSome input (λ bytes. script_of bytes ≡ Err line)
LoadCauses input InputTooLong = IfSome input (λ bytes. MAX_INPUT < length bytes)
LoadCauses input InputFault = Unit {0}
LoadCauses input OutOfMemory = Unit {0}
LoadCauses input _ = ⊥

abbrev pub ScriptCauses : Command → Option (List ℕ) → Outcome → Type 0
ScriptCauses ConvertHex input e = LoadCauses input e
ScriptCauses ConvertFile input e = LoadCauses input e
ScriptCauses (Bulk tiles repeat leaf) input e = e ≡ OutOfMemory

-- the input is read to its end where it has the script
abbrev pub IsReadFor : Option Command → Option (List ℕ) → Type 0
IsReadFor (Some ConvertHex) left = IsAtEnd left
IsReadFor (Some ConvertFile) left = IsAtEnd left
IsReadFor (Some (Bulk tiles repeat leaf)) left = Unit {0}
IsReadFor None left = ⊥

-- the input isn't asked where it has no script: what is left of it, how much was taken, and how often it failed, before
-- and now
abbrev pub IsUntaken : Option Command → Option (List ℕ) → Option (List ℕ) → ℕ → ℕ → ℕ → ℕ → Type 0
IsUntaken (Some ConvertHex) old new before now failed fails = Unit {0}
IsUntaken (Some ConvertFile) old new before now failed fails = Unit {0}
IsUntaken _ old new before now failed fails = (new ≡ old) × (now ≡ before) × (fails ≡ failed)

abbrev pub LoadTakes : {T : Type 0} → ℕ → ℕ → Result T Outcome → Type 0
LoadTakes before now (Ok _) = now ≤ before + MAX_INPUT
LoadTakes before now (Err e) = Taken before now e

-- The answers once the archive is written.
abbrev pub ReportCauses : Option (List ℕ) → Outcome → Type 0
ReportCauses told OutputFault = Unit {0}
ReportCauses told MediumFault = Unit {0}
ReportCauses told OutOfMemory = Unit {0}
ReportCauses told (ReadBack e) = (told ≡ None) × IsOtherRange e
ReportCauses told _ = ⊥

-- The answers while lines are written for which the medium isn't asked.
abbrev pub LinesCauses : Outcome → Type 0
LinesCauses OutputFault = Unit {0}
LinesCauses OutOfMemory = Unit {0}
LinesCauses _ = ⊥
