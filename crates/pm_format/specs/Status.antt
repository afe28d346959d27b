-- The statuses that programs end with.
use Rattle.std.specs.Prelude.{◌≡◌, ℕ, [], ◌∷◌, refl}
use Rattle.pm_format.specs.declared.error.PmtError.{PmtError}
use Rattle.pm_format.specs.declared.error.PmtError.TheVariants as errors
use Rattle.pm_format.specs.declared.error.ReadCause.TheVariants as causes
use Rattle.pm_format.specs.declared.status.TheConstants.{DONE, REFUSED, USAGE, NO_INPUT, INPUT_FAULT, OUTPUT_FAULT, FAULT, OUT_OF_MEMORY, INPUT_TOO_LONG, READ_BACK, OTHER_FORM}

-- a refusal of an archive: the failing of its source has a status of its own
abbrev pub archive_status : PmtError → ℕ
archive_status (errors.Reading causes.Fault) = FAULT
archive_status e = REFUSED

-- the statuses by their numbers
pub numbers : DONE ∷ REFUSED ∷ USAGE ∷ NO_INPUT ∷ INPUT_FAULT ∷ OUTPUT_FAULT ∷ FAULT ∷ OUT_OF_MEMORY ∷ INPUT_TOO_LONG ∷ READ_BACK ∷ OTHER_FORM ∷ [] ≡ 0 ∷ 1 ∷ 2 ∷ 3 ∷ 4 ∷ 5 ∷ 6 ∷ 7 ∷ 8 ∷ 9 ∷ 10 ∷ []
numbers = refl

pub unreadable : archive_status (errors.Reading causes.Fault) ≡ 6
unreadable = refl

pub past_end : archive_status (errors.Reading causes.PastEnd) ≡ 1
past_end = refl
