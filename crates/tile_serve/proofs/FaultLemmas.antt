-- What counts of faults that stand give, where a line or a run ends.
use Rattle.tile_serve.proofs.Common.{Err, List, of_input, of_serve, of_sink, Ok, Option, PmtError, Result, ServeError, ServeOutcome, SinkFault, subst, sym, ℕ, ◌≡◌}
use Rattle.byte_streams.specs.Input as input
use Rattle.byte_streams.specs.declared.input.InputError.{InputError}
use Rattle.byte_streams.specs.declared.input.InputError.TheVariants as ends
use Rattle.byte_streams.specs.declared.sink.SinkFault.TheVariants as sink
use Rattle.pm_format.specs.Faults as archive
use Rattle.pm_format.specs.declared.error.PmtError.TheVariants as errors
use Rattle.pm_format.specs.declared.error.ReadCause.TheVariants as causes
use Rattle.tile_serve.specs.Answers.{opening_error, taken}
use Rattle.tile_serve.specs.Faults.{FaultsStand, InputStands, OutputStands, SourceStands, StandsUnserved}
use Rattle.tile_serve.specs.declared.error.ServeError.TheVariants as serve

-- what a look-up ends in
pub taken_stands : (before now : ℕ) (r : Result (Option (List ℕ)) PmtError) → archive.FaultsStand before now r → FaultsStand before now (taken r)
taken_stands before now (Ok found) h = h
taken_stands before now (Err errors.InvalidEntry) h = h
taken_stands before now (Err (errors.Reading causes.PastEnd)) h = h
taken_stands before now (Err (errors.Reading causes.Fault)) h = tt
taken_stands before now (Err (errors.SourceModified opened read)) h = h
taken_stands before now (Err (errors.UnexpectedNumberOfBytesReturned asked got)) h = h
taken_stands before now (Err e) h = tt

-- why an archive doesn't open
pub opening_stands : (before now : ℕ) (e : PmtError) → archive.StandsAtError before now e → StandsUnserved before now (opening_error e)
opening_stands before now errors.OutOfMemory h = tt
opening_stands before now e h = h

-- an error of the archive, as an outcome
serve_source_by : (before now : ℕ) (e : ServeError) → StandsUnserved before now e → SourceStands before now (of_serve e)
serve_source_by before now serve.OutOfMemory h = tt
serve_source_by before now e h = h

pub serve_source : (before now : ℕ) (e : ServeError) (o : ServeOutcome) → o ≡ of_serve e → StandsUnserved before now e → SourceStands before now o
serve_source before now e o is h = subst (SourceStands before now) (sym is) (serve_source_by before now e h)

serve_output_by : (before now : ℕ) (e : ServeError) → now ≡ before → OutputStands before now (of_serve e)
serve_output_by before now serve.OutOfMemory same = tt
serve_output_by before now e same = same

pub serve_output : (before now : ℕ) (e : ServeError) (o : ServeOutcome) → o ≡ of_serve e → now ≡ before → OutputStands before now o
serve_output before now e o is same = subst (OutputStands before now) (sym is) (serve_output_by before now e same)

-- a fault of the output, as an outcome
sink_source_by : (before now : ℕ) (f : SinkFault) → now ≡ before → SourceStands before now (of_sink f)
sink_source_by before now sink.Fault same = same
sink_source_by before now sink.OutOfMemory same = tt

pub sink_source : (before now : ℕ) (f : SinkFault) (o : ServeOutcome) → o ≡ of_sink f → now ≡ before → SourceStands before now o
sink_source before now f o is same = subst (SourceStands before now) (sym is) (sink_source_by before now f same)

sink_output_by : (before now : ℕ) (f : SinkFault) → OutputStands before now (of_sink f)
sink_output_by before now sink.Fault = tt
sink_output_by before now sink.OutOfMemory = tt

pub sink_output : (before now : ℕ) (f : SinkFault) (o : ServeOutcome) → o ≡ of_sink f → OutputStands before now o
sink_output before now f o is = subst (OutputStands before now) (sym is) (sink_output_by before now f)

-- an input that isn't read to its end, as an outcome
input_own_by : (A : Type 0) (before now : ℕ) (e : InputError) → input.FaultsStand {A = A} before now (Err e) → InputStands before now (of_input e)
input_own_by A before now ends.Fault h = tt
input_own_by A before now ends.TooLong h = h
input_own_by A before now ends.OutOfMemory h = tt

pub input_own : (A : Type 0) (before now : ℕ) (e : InputError) (o : ServeOutcome) → o ≡ of_input e → input.FaultsStand {A = A} before now (Err e) → InputStands before now o
input_own A before now e o is h = subst (InputStands before now) (sym is) (input_own_by A before now e h)

input_source_by : (before now : ℕ) (e : InputError) → now ≡ before → SourceStands before now (of_input e)
input_source_by before now ends.Fault same = same
input_source_by before now ends.TooLong same = same
input_source_by before now ends.OutOfMemory same = tt

pub input_source : (before now : ℕ) (e : InputError) (o : ServeOutcome) → o ≡ of_input e → now ≡ before → SourceStands before now o
input_source before now e o is same = subst (SourceStands before now) (sym is) (input_source_by before now e same)

input_output_by : (before now : ℕ) (e : InputError) → now ≡ before → OutputStands before now (of_input e)
input_output_by before now ends.Fault same = same
input_output_by before now ends.TooLong same = same
input_output_by before now ends.OutOfMemory same = tt

pub input_output : (before now : ℕ) (e : InputError) (o : ServeOutcome) → o ≡ of_input e → now ≡ before → OutputStands before now o
input_output before now e o is same = subst (OutputStands before now) (sym is) (input_output_by before now e same)
