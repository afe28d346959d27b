-- What a server leaves of the counts of faults of its source, its input and its output: each stands, but for a fault of
-- the object and running out of memory.
use Rattle.std.specs.Prelude.{◌≡◌, ℕ, Result, Ok, Err}
use Rattle.pm_format.specs.Faults.{StandsAtError}
use Rattle.tile_serve.specs.declared.error.ServeError.{ServeError}
use Rattle.tile_serve.specs.declared.error.ServeError.TheVariants as serve
use Rattle.tile_serve.specs.declared.outcome.ServeOutcome.{ServeOutcome}
use Rattle.tile_serve.specs.declared.outcome.ServeOutcome.TheVariants.{Refused, InputFault, OutputFault, OutOfMemory}

-- where a line isn't answered, or there is no server
abbrev pub StandsUnserved : ℕ → ℕ → ServeError → Type 0
StandsUnserved before now (serve.Opening e) = StandsAtError before now e
StandsUnserved before now serve.Fault = Unit {0}
StandsUnserved before now serve.OutOfMemory = Unit {0}
StandsUnserved before now e = now ≡ before

-- by what a call on the archive answers
abbrev pub FaultsStand : {A : Type 0} → ℕ → ℕ → Result A ServeError → Type 0
FaultsStand before now (Ok x) = now ≡ before
FaultsStand before now (Err e) = StandsUnserved before now e

-- that of the source, by what a run ends in
abbrev pub SourceStands : ℕ → ℕ → ServeOutcome → Type 0
SourceStands before now (Refused e) = StandsUnserved before now e
SourceStands before now OutOfMemory = Unit {0}
SourceStands before now _ = now ≡ before

-- that of the input
abbrev pub InputStands : ℕ → ℕ → ServeOutcome → Type 0
InputStands before now InputFault = Unit {0}
InputStands before now OutOfMemory = Unit {0}
InputStands before now _ = now ≡ before

-- that of the output
abbrev pub OutputStands : ℕ → ℕ → ServeOutcome → Type 0
OutputStands before now OutputFault = Unit {0}
OutputStands before now OutOfMemory = Unit {0}
OutputStands before now _ = now ≡ before
