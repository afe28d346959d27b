-- The status and the line of each outcome.
use Rattle.std.specs.Prelude.{◌≡◌, ℕ, ◌++◌, List, codes, refl}
use Rattle.std.specs.Fmt.{decimal}
use Rattle.pm_format.specs.ErrorName.{error_name}
use Rattle.pm_format.specs.Status.{archive_status}
use Rattle.pm_format.specs.declared.error.PmtError.TheVariants as errors
use Rattle.pm_format.specs.declared.status.TheConstants.{DONE, REFUSED, USAGE, FAULT, OUT_OF_MEMORY}
use Rattle.tile_verify.specs.declared.broken.Reason.{Reason}
use Rattle.tile_verify.specs.declared.broken.Reason.TheVariants as reasons
use Rattle.tile_verify.specs.declared.error.VerifyError.{VerifyError}
use Rattle.tile_verify.specs.declared.error.VerifyError.TheVariants as verify
use Rattle.tile_verify.specs.declared.outcome.VerifyOutcome.{VerifyOutcome}
use Rattle.tile_verify.specs.declared.outcome.VerifyOutcome.TheVariants.{Done, Refused, Usage, OutOfMemory}
use Rattle.tile_verify.specs.declared.report.VerifyReport.{VerifyReport}

abbrev pub status : VerifyOutcome → ℕ
status (Done r) = DONE
status (Refused (verify.Opening e)) = archive_status e
status (Refused verify.Fault) = FAULT
status (Refused e) = REFUSED
status Usage = USAGE
status OutOfMemory = OUT_OF_MEMORY

abbrev pub reason_name : Reason → List ℕ
reason_name reasons.IdsFall = codes "IdsFall"
reason_name reasons.OutsideRange = codes "OutsideRange"
reason_name reasons.PastMaxId = codes "PastMaxId"
reason_name reasons.RunOverlaps = codes "RunOverlaps"
reason_name reasons.TooDeep = codes "TooDeep"
reason_name reasons.LeafPastEnd = codes "LeafPastEnd"
reason_name reasons.NotDecoded = codes "NotDecoded"
reason_name reasons.TilePastEnd = codes "TilePastEnd"

-- two texts with a space between
abbrev pub spaced : List ℕ → List ℕ → List ℕ
spaced a b = a ++ (codes " " ++ b)

abbrev pub refusal : VerifyError → List ℕ
refusal (verify.Opening e) = codes "opening " ++ error_name e
refusal (verify.Broken at why directories) = codes "broken " ++ spaced (decimal at.depth) (spaced (decimal at.offset) (spaced (decimal at.index) (reason_name why)))
refusal verify.Fault = codes "source fault"
refusal (verify.Short asked got) = codes "short " ++ spaced (decimal asked) (decimal got)
refusal verify.OutOfMemory = codes "out of memory"

abbrev pub report_text : VerifyReport → List ℕ
report_text r = spaced (decimal r.directories) (spaced (decimal r.addressed) (spaced (decimal r.entries) (decimal r.contents)))

abbrev pub line : VerifyOutcome → List ℕ
line (Done r) = codes "sound " ++ (report_text r ++ codes "\n")
line (Refused e) = refusal e ++ codes "\n"
line Usage = codes "usage: tile_verify IN\n"
line OutOfMemory = codes "out of memory\n"

pub cut_header : line (Refused (verify.Opening errors.InvalidHeader)) ≡ codes "opening InvalidHeader\n"
cut_header = refl
