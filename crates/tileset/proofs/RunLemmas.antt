-- What a run answers and leaves once there is a script.
use Rattle.tileset.proofs.Common.{AnsweredBy, Causes, Command, command_text, ConvertCauses, converted, ConvertLeaves, ConvertReport, Coord, Err, Gains, GainsFront, Given, HasAggregate, HasBegun}
use Rattle.tileset.proofs.Common.{HoldsArchive, IfSome, inl, inr, IsArchiveOf, IsConvertible, IsEmpty, IsErrAnd, IsScript, LeavesMedium, LeavesOutput, LeavesPart, LeftBy, List, None, Ok}
use Rattle.tileset.proofs.Common.{Option, Outcome, outcome_of, refl, ReportCauses, Result, Script, Some, SomeBegun, State, subst, sym, text_of, WrittenBy, ℕ, [], ◌∙◌, ◌∷◌, ◌≡◌}
use Rattle.tileset.proofs.Common.{◌⊎◌}
use Rattle.pm_contents.specs.Pieces.{BothTold}
use Rattle.tile_bridge.specs.ReadingBack.{IsReadBack}
use Rattle.pm_format.specs.declared.error.PmtError.{PmtError}
use Rattle.pm_format.specs.declared.error.PmtError.TheVariants as errors
use Rattle.pm_format.specs.declared.error.ReadCause.TheVariants as causes
use Rattle.tileset.specs.Dump.{IsOtherRange}
use Rattle.tileset.specs.declared.outcome.Outcome.TheVariants as outcomes

pub err_outcome : {T : Type 0} (r : Result T Outcome) (o : Outcome) → IsErrAnd r (λ x. x ≡ o) → outcome_of r ≡ o
err_outcome (Ok x) o h = absurd h
err_outcome (Err e) o h = h

-- over a medium whose archive is written
both_archive : (s : Script) (coords : List Coord) (r : ConvertReport) (old new : Option (List ℕ)) → ConvertLeaves s.options.writer (Some (converted s)) coords (Ok r) old new → HoldsArchive s old new
both_archive s coords r None None h = tt
both_archive s coords r None (Some new) h = absurd h
both_archive s coords r (Some old) None h = absurd h
both_archive s coords r (Some old) (Some new) h = (h.0, h.1, h.2.archive)

pub archive_left : (s : Script) (coords : List Coord) (r : ConvertReport) (old told new : Option (List ℕ)) → ConvertLeaves s.options.writer (Some (converted s)) coords (Ok r) old told → new ≡ told → HoldsArchive s old new
archive_left s coords r old told new h same = subst (HoldsArchive s old) (sym same) (both_archive s coords r old told h)

-- an archive on a medium that was empty is no part
no_part : (s : Script) (old new : Option (List ℕ)) → IsEmpty old → HoldsArchive s old new → BothTold (LeavesPart s.options.writer (Some (converted s))) old new
no_part s None None empty h = tt
no_part s None (Some b) empty h = absurd h
no_part s (Some a) None empty h = absurd h
no_part s (Some []) (Some b) empty h = inr h
no_part s (Some (x ∷ xs)) (Some b) empty h = absurd (cc)

-- a medium that tells nothing told nothing before
untold_before : (old new : Option (List ℕ)) (P : List ℕ → List ℕ → Type 0) → BothTold P old new → new ≡ None → old ≡ None
untold_before None new P h none = refl
untold_before (Some a) None P h none = absurd h
untold_before (Some a) (Some b) P h none = absurd (cc)

-- the report is refused by a fault or running out of memory, or over a medium that tells nothing
reported_by : (asked : Command) (s : Script) (old told new : Option (List ℕ)) (e : Outcome) → IsEmpty old → HoldsArchive s old new → new ≡ told → ReportCauses told e → LeftBy s old new e
reported_by asked s old told new outcomes.OutputFault empty h same c = h
reported_by asked s old told new outcomes.OutOfMemory empty h same c = no_part s old new empty h
reported_by asked s old told new outcomes.MediumFault empty h same c = no_part s old new empty h
reported_by asked s old told new (outcomes.ReadBack e) empty h same c = same ∙ c.0 ∙ sym (untold_before old new (λ before b. (final : State) × (converted s ≡ Ok final) × IsArchiveOf b s.options.writer final.tiles) h (same ∙ c.0))
reported_by asked s old told new x empty h same c = absurd c

pub reported_medium : (asked : Command) (s : Script) (coords : List Coord) (report : ConvertReport) (old told new : Option (List ℕ)) (e : Outcome) (r : Result Unit Outcome) → IsEmpty old → ConvertLeaves s.options.writer (Some (converted s)) coords (Ok report) old told → new ≡ told → ReportCauses told e → IsErrAnd r (λ x. x ≡ e) → LeftBy s old new (outcome_of r)
reported_medium asked s coords report old told new e r empty leaves same causes ended =
    subst (LeftBy s old new) (sym (err_outcome r e ended)) (reported_by asked s old told new e empty (archive_left s coords report old told new leaves same) same causes)

-- a range that isn't there is no archive that is read back
other_range : (e : PmtError) → IsOtherRange e → IsReadBack e
other_range (errors.Reading causes.PastEnd) h = tt
other_range (errors.UnexpectedNumberOfBytesReturned asked got) h = h
other_range _ h = absurd h

reported_answer : (s : Script) (coords : List Coord) (report : ConvertReport) (old told : Option (List ℕ)) (e : Outcome) → IsConvertible s old → ConvertLeaves s.options.writer (Some (converted s)) coords (Ok report) old told → ReportCauses told e → AnsweredBy s old e
reported_answer s coords report old told outcomes.OutputFault can h c = can
reported_answer s coords report old told outcomes.OutOfMemory can h c = tt
reported_answer s coords report old told outcomes.MediumFault can h c = tt
reported_answer s coords report old told (outcomes.ReadBack e) can h c = (untold_before old told _ h c.0, can, other_range e c.1)
reported_answer s coords report old told x can h c = absurd c

pub reported_causes : (s : Script) (coords : List Coord) (report : ConvertReport) (old told : Option (List ℕ)) (e : Outcome) (r : Result Unit Outcome) → ConvertCauses s.options.writer (Some (converted s)) old (Ok report) → ConvertLeaves s.options.writer (Some (converted s)) coords (Ok report) old told → ReportCauses told e → IsErrAnd r (λ x. x ≡ e) → AnsweredBy s old (outcome_of r)
reported_causes s coords report old told e r can leaves causes ended = subst (AnsweredBy s old) (sym (err_outcome r e ended)) (reported_answer s coords report old told e can leaves causes)

begun_written : (asked : Command) (s : Script) (told medium left old new : Option (List ℕ)) (e : Outcome) → ReportCauses told e → HasBegun asked s medium left old new → WrittenBy asked s medium left old new e
begun_written asked s told medium left old new outcomes.OutputFault c h = h
begun_written asked s told medium left old new outcomes.OutOfMemory c h = inr h
begun_written asked s told medium left old new outcomes.MediumFault c h = inr h
begun_written asked s told medium left old new (outcomes.ReadBack e) c h = inr h
begun_written asked s told medium left old new x c h = absurd c

pub reported_output : (asked : Command) (s : Script) (coords : List Coord) (report : ConvertReport) (medium told left old new : Option (List ℕ)) (e : Outcome) (r : Result Unit Outcome) → ConvertCauses s.options.writer (Some (converted s)) medium (Ok report) → ConvertLeaves s.options.writer (Some (converted s)) coords (Ok report) medium told → left ≡ told → ReportCauses told e → IsErrAnd r (λ x. x ≡ e)
    → HasAggregate (Some (converted s)) report → IfSome left (λ b. GainsFront old new (command_text asked s.queries report.aggregate b)) → WrittenBy asked s medium left old new (outcome_of r)
reported_output asked s coords report medium told left old new e r can leaves same causes ended hash h =
    let front : IfSome left (λ b. GainsFront old new (text_of asked s hash.0 b)) = subst (λ t. IfSome left (λ b. GainsFront old new (command_text asked s.queries t b))) hash.2 h in
    subst (WrittenBy asked s medium left old new) (sym (err_outcome r e ended))
    (begun_written asked s told medium left old new e causes (record { convertible = can; archive = archive_left s coords report medium told left leaves same; final = hash.0; set = hash.1; front = front }))

-- the whole text
pub done_output : (asked : Command) (s : Script) (report : ConvertReport) (medium left old new : Option (List ℕ)) → HasAggregate (Some (converted s)) report → IfSome left (λ b. Gains old new (command_text asked s.queries report.aggregate b)) → WrittenBy asked s medium left old new outcomes.Done
done_output asked s report medium left old new hash h = (hash.0, hash.1, subst (λ t. IfSome left (λ b. Gains old new (command_text asked s.queries t b))) hash.2 h)

-- What is known of a run, from what is known of its script.
pub causes_by : (given : Given) (s : Script) (o : Outcome) → IsScript given s → AnsweredBy s given.medium o → Causes given o
causes_by given s outcomes.Done is h = (s, is, h)
causes_by given s (outcomes.Refused e) is h = (s, is, h)
causes_by given s outcomes.OutputFault is h = (s, is, h)
causes_by given s outcomes.MediumFault is h = (s, is, h)
causes_by given s (outcomes.ReadBack e) is h = (s, is, h)
causes_by given s outcomes.OutOfMemory is h = tt
causes_by given s x is h = absurd h

pub medium_by : (given : Given) (s : Script) (new : Option (List ℕ)) (o : Outcome) → IsScript given s → LeftBy s given.medium new o → LeavesMedium given new o
medium_by given s new outcomes.Done is h = (s, is, h)
medium_by given s new outcomes.OutputFault is h = (s, is, h)
medium_by given s new outcomes.MediumFault is h = (s, is, h)
medium_by given s new outcomes.OutOfMemory is h = inr (s, is, h)
medium_by given s new x is h = h

begun_by : (given : Given) (s : Script) (left old new : Option (List ℕ)) → (is : IsScript given s) → (new ≡ old) ⊎ HasBegun is.asked s given.medium left old new → (new ≡ old) ⊎ SomeBegun given left old new
begun_by given s left old new is (inl same) = inl same
begun_by given s left old new is (inr begun) = inr (s, is, begun)

pub output_by : (given : Given) (s : Script) (left old new : Option (List ℕ)) (o : Outcome) → (is : IsScript given s) → WrittenBy is.asked s given.medium left old new o → LeavesOutput given left old new o
output_by given s left old new outcomes.Done is h = (s, is, h)
output_by given s left old new outcomes.OutputFault is h = (s, is, h)
output_by given s left old new outcomes.MediumFault is h = begun_by given s left old new is h
output_by given s left old new (outcomes.ReadBack e) is h = begun_by given s left old new is h
output_by given s left old new outcomes.OutOfMemory is h = begun_by given s left old new is h
output_by given s left old new x is h = h

-- what holds of a text, on equal queries and equal bytes
pub text_moved : (asked : Command) (P : List ℕ → Type 0) (told next : Option (List ℕ)) (qs queries : List Coord) (hash : List ℕ) → qs ≡ queries → next ≡ told
    → IfSome told (λ b. P (command_text asked qs hash b)) → IfSome next (λ b. P (command_text asked queries hash b))
text_moved asked P told next qs queries hash p r h =
    subst (λ m. IfSome m (λ b. P (command_text asked queries hash b))) (sym r) (subst (λ x. IfSome told (λ b. P (command_text asked x hash b))) p h)
