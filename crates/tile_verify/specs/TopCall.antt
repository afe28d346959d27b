-- What a run of the verifier ends in.
use Rattle.std.specs.Prelude.{ℕ, List, [], ◌∷◌, Result, Ok, Err}
use Rattle.tile_verify.specs.declared.error.VerifyError.{VerifyError}
use Rattle.tile_verify.specs.declared.error.VerifyError.TheVariants as errors
use Rattle.tile_verify.specs.declared.outcome.VerifyOutcome.{VerifyOutcome}
use Rattle.tile_verify.specs.declared.outcome.VerifyOutcome.TheVariants.{Done, Refused, Usage, OutOfMemory}
use Rattle.tile_verify.specs.declared.report.VerifyReport.{VerifyReport}

-- usage is the outcome exactly where there are words
abbrev pub IsFor : List (List ℕ) → VerifyOutcome → Type 0
IsFor [] Usage = ⊥
IsFor [] outcome = Unit {0}
IsFor (w ∷ ws) Usage = Unit {0}
IsFor (w ∷ ws) outcome = ⊥

-- what holds of the answer of the check that an outcome stands for
abbrev pub OfCheck : (Result VerifyReport VerifyError → Type 0) → VerifyOutcome → Type 0
OfCheck P (Done r) = P (Ok r)
OfCheck P (Refused e) = P (Err e)
OfCheck P Usage = Unit {0}
OfCheck P OutOfMemory = P (Err errors.OutOfMemory)
