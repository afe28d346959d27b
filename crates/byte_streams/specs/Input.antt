-- how long an input is, and how much of it was taken
use Rattle.std.specs.Prelude.{ℕ, ◌≡◌, ◌+◌, ◌-◌, ◌^◌, ◌≤◌, ◌<◌, List, length, IfSome, Vec, Ok, Err}
use Rattle.std.specs.declared.alloc.Global.{Global}
use Rattle.byte_streams.specs.Common.{Grew, Option, Result}
use Rattle.byte_streams.specs.Streams.{Loses}
use Rattle.byte_streams.specs.declared.input.InputError.{InputError}
use Rattle.byte_streams.specs.declared.input.InputError.TheVariants.{Fault, TooLong, OutOfMemory}
use Rattle.byte_streams.specs.declared.input.TheConstants.{MAX_INPUT}

-- the input is within the limit, where it tells
abbrev pub IsShort : Option (List ℕ) → Type 0
IsShort input = IfSome input (λ bytes. length bytes ≤ MAX_INPUT)

-- how much was taken where the input wasn't taken to its end
abbrev pub StopCounts : ℕ → ℕ → InputError → Type 0
StopCounts before now TooLong = now < 2 ^ 64 - 1 → before + MAX_INPUT < now
StopCounts before now Fault = now ≤ before + MAX_INPUT
StopCounts before now OutOfMemory = now ≤ before + MAX_INPUT

-- Ok took exactly its bytes, not too many. TooLong comes exactly where too many were taken, by the count.
abbrev pub InputCounts : ℕ → ℕ → Result (Vec ℕ Global) InputError → Type 0
InputCounts before now (Ok bytes) = Grew before now (length bytes.items) × (length bytes.items ≤ MAX_INPUT)
InputCounts before now (Err e) = StopCounts before now e

-- the count of faults stands, but for a fault and running out of memory
abbrev pub FaultsStand : {A : Type 0} → ℕ → ℕ → Result A InputError → Type 0
FaultsStand before now (Ok x) = now ≡ before
FaultsStand before now (Err TooLong) = now ≡ before
FaultsStand before now (Err Fault) = Unit {0}
FaultsStand before now (Err OutOfMemory) = Unit {0}

-- All that was left was taken: these bytes, not too many, by what was left and by the count.
pub record TakesAll (took : List ℕ → Type 0) (left rest : Option (List ℕ)) (before now : ℕ) : Type 0 where
  pub bytes : List ℕ
  pub took_them : took bytes
  pub lost : Loses left rest bytes
  pub counted : Grew before now (length bytes)
  pub few : length bytes ≤ MAX_INPUT
