-- What a run of the server ends in, and why.
use Rattle.std.specs.Prelude.{◌≤◌, ◌<◌, ℕ, ◌+◌, ◌-◌, ◌^◌, List, Option, Some, None, Result, IsOk}
use Rattle.tile_serve.specs.Common.{MAX_INPUT, PmtError}
use Rattle.tile_serve.specs.Answers.{OpeningCauses, RefusesOpening}
use Rattle.tile_serve.specs.Serving.{RefusalCauses}
use Rattle.tile_serve.specs.declared.error.ServeError.TheVariants as serve
use Rattle.tile_serve.specs.declared.limits.ServeLimits.{ServeLimits}
use Rattle.tile_serve.specs.declared.outcome.ServeOutcome.{ServeOutcome}
use Rattle.tile_serve.specs.declared.outcome.ServeOutcome.TheVariants.{Done, Refused, Usage, InputFault, OutputFault, InputTooLong}

-- usage is the outcome exactly where the words are no limits
abbrev pub IsFor : Option ServeLimits → ServeOutcome → Type 0
IsFor None Usage = Unit {0}
IsFor None outcome = ⊥
IsFor (Some limits) Usage = ⊥
IsFor (Some limits) outcome = Unit {0}

-- How many bytes of the input were taken: more than the limit exactly where the outcome is InputTooLong.
abbrev pub Taken : ℕ → ℕ → ServeOutcome → Type 0
Taken before now InputTooLong = now < 2 ^ 64 - 1 → before + MAX_INPUT < now
Taken before now _ = now ≤ before + MAX_INPUT

-- where an outcome needs an archive that opens, it opens; else the refusal is that of opening
abbrev pub OpensFor : {A : Type 0} → Result A PmtError → ServeOutcome → Type 0
OpensFor wanted Done = IsOk wanted
OpensFor wanted (Refused (serve.Opening e)) = RefusesOpening wanted (serve.Opening e)
OpensFor wanted (Refused e) = IsOk wanted
OpensFor wanted OutputFault = IsOk wanted
OpensFor wanted _ = Unit {0}

-- why the backend's part of a run is refused, told or not
abbrev pub SourceCauses : Option (List ℕ) → ℕ → ℕ → ServeOutcome → Type 0
SourceCauses told before now (Refused (serve.Opening e)) = OpeningCauses before now (serve.Opening e)
SourceCauses told before now (Refused e) = RefusalCauses told before now e
SourceCauses told before now _ = Unit {0}

-- an outcome before the archive is opened
abbrev pub IsUnopened : ServeOutcome → Type 0
IsUnopened Usage = Unit {0}
IsUnopened InputFault = Unit {0}
IsUnopened InputTooLong = Unit {0}
IsUnopened _ = ⊥

-- an outcome before a line is answered
abbrev pub IsSilent : ServeOutcome → Type 0
IsSilent (Refused (serve.Opening e)) = Unit {0}
IsSilent outcome = IsUnopened outcome

-- what a run of requests that were read ends in
abbrev pub IsRead : ServeOutcome → Type 0
IsRead Usage = ⊥
IsRead InputFault = ⊥
IsRead InputTooLong = ⊥
IsRead _ = Unit {0}
