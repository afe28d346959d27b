-- Which counts of faults stand where a step ends a run.
use Rattle.tileset.proofs.Common.{Err, IsErrAnd, Outcome, outcome_of, Result, subst, sym, ℕ, ◌≡◌}
use Rattle.byte_media.specs.Media.{StandsAtError}
use Rattle.byte_media.specs.declared.backend.ReadFault.{ReadFault}
use Rattle.byte_media.specs.declared.backend.ReadFault.TheVariants as read
use Rattle.byte_streams.specs.Input.{FaultsStand}
use Rattle.byte_streams.specs.declared.input.InputError.{InputError}
use Rattle.byte_streams.specs.declared.input.InputError.TheVariants as input
use Rattle.tile_bridge.specs.declared.error.ConvertError.{ConvertError}
use Rattle.tile_bridge.specs.Stands.{MediumStandsAt}
use Rattle.tile_bridge.specs.declared.error.ConvertError.TheVariants as convert
use Rattle.tileset.proofs.RunLemmas.{err_outcome}
use Rattle.tileset.specs.Outcomes.{of_convert, of_input, of_read}
use Rattle.tileset.specs.Stands.{InputStands, MediumStands, OutputStands}
use Rattle.tileset.specs.declared.outcome.Outcome.TheVariants as outcomes

-- a count that stands anyway
pub input_stands : (before now : ℕ) (o : Outcome) → now ≡ before → InputStands before now o
input_stands before now outcomes.InputFault same = tt
input_stands before now outcomes.OutOfMemory same = tt
input_stands before now _ same = same

pub medium_stands : (before now : ℕ) (o : Outcome) → now ≡ before → MediumStands before now o
medium_stands before now outcomes.MediumFault same = tt
medium_stands before now outcomes.OutOfMemory same = tt
medium_stands before now _ same = same

-- a step that ends a run, behind steps at whose end the count was what it was
pub output_ended : (before mid now : ℕ) (e : Outcome) (r : Result Unit Outcome) → mid ≡ before → OutputStands mid now e → IsErrAnd r (λ x. x ≡ e) → OutputStands before now (outcome_of r)
output_ended before mid now e r same h is = subst (OutputStands before now) (sym (err_outcome r e is)) (subst (λ n. OutputStands n now e) same h)

pub medium_ended : (before mid now : ℕ) (e : Outcome) (r : Result Unit Outcome) → mid ≡ before → MediumStands mid now e → IsErrAnd r (λ x. x ≡ e) → MediumStands before now (outcome_of r)
medium_ended before mid now e r same h is = subst (MediumStands before now) (sym (err_outcome r e is)) (subst (λ n. MediumStands n now e) same h)

-- calls that fail
pub input_failed : (before now : ℕ) (e : InputError) → FaultsStand {A = Unit {0}} before now (Err e) → InputStands before now (of_input e)
input_failed before now input.Fault stands = tt
input_failed before now input.TooLong stands = stands
input_failed before now input.OutOfMemory stands = tt

pub read_failed : (before now : ℕ) (e : ReadFault) → StandsAtError before now e → MediumStands before now (of_read e)
read_failed before now read.Fault stands = tt
read_failed before now read.PastEnd stands = stands
read_failed before now (read.Short asked got) stands = stands
read_failed before now read.OutOfMemory stands = tt

pub convert_failed : (before now : ℕ) (e : ConvertError) → MediumStandsAt before now e → MediumStands before now (of_convert e)
convert_failed before now convert.MediumFault stands = tt
convert_failed before now convert.OutOfMemory stands = tt
convert_failed before now _ stands = stands
