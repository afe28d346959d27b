-- That both ways to convert agree: `convert_owned`, which holds the contents, and `convert_patched`, which holds marks.
use Rattle.std.specs.Prelude.{ℕ, ◌≡◌, Bool, true, false, List, Result, Ok, Err, IfSome}
use Rattle.tile_bridge.specs.declared.error.ConvertError.TheVariants.{MediumFault, OutOfMemory, StoreFault}
use Rattle.tile_streaming.specs.Common.{archive_map, ConvertError, ConvertReport, Options, State}
use Rattle.tile_streaming.specs.declared.error.StreamError.{StreamError}
use Rattle.tile_streaming.specs.declared.error.StreamError.TheVariants.{Convert, StoreChanged}
use Rattle.tile_streaming.specs.declared.report.StreamReport.{StreamReport}

-- an error that says nothing of the sets: a fault, or lack of memory
abbrev pub is_hindrance : ConvertError → Bool
is_hindrance (StoreFault place) = true
is_hindrance MediumFault = true
is_hindrance OutOfMemory = true
is_hindrance _ = false

-- the state that is due has one archive: no two options may be given to it
abbrev pub HasOneArchive : (State → Options → Type 0) → Result State ConvertError → Type 0
HasOneArchive gives due = (s : State) → due ≡ Ok s → (x y : Options) → gives s x → gives s y → x ≡ y

-- Both ways answered Ok, and left these bytes: a the one that holds contents, b the one that holds marks. They have the
-- same tiles, and answer the same; where the state has one archive, they are the same bytes.
pub record IsSameArchive (gives : State → Options → Type 0) (due : Result State ConvertError) (r : ConvertReport) (a : List ℕ) (s : StreamReport) (b : List ℕ) : Type 0 where
  pub tiles : (id : ℕ) → archive_map b id ≡ archive_map a id
  pub answers : s.answers ≡ r.answers
  pub aggregate : IfSome s.aggregate (λ hash. hash ≡ r.aggregate)
  pub bytes : HasOneArchive gives due → b ≡ a
  pub places : HasOneArchive gives due → s.places ≡ r.places

-- Both ways come to the same archive, or to the same refusal, unless one of them was hindered.
abbrev pub Agree : (State → Options → Type 0) → Result State ConvertError → Result ConvertReport ConvertError → List ℕ → Result StreamReport StreamError → List ℕ → Type 0
Agree gives due (Ok r) a (Ok s) b = IsSameArchive gives due r a s b
Agree gives due (Ok r) a (Err (Convert f)) b = is_hindrance f ≡ true
Agree gives due (Err e) a (Ok s) b = is_hindrance e ≡ true
Agree gives due (Err e) a (Err (Convert f)) b = is_hindrance e ≡ false → is_hindrance f ≡ false → f ≡ e
Agree gives due _ a (Err StoreChanged) b = ⊥
