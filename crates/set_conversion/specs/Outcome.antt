-- The status of each outcome, and the text that is printed of it.
use Rattle.std.specs.Prelude.{◌≡◌, ℕ, ◌++◌, List, [], codes, Option, Some, None, refl}
use Rattle.std.specs.Fmt.{decimal}
use Rattle.pm_format.specs.declared.status.TheConstants.{DONE, REFUSED, USAGE, NO_INPUT, INPUT_FAULT, OUTPUT_FAULT, FAULT, OUT_OF_MEMORY, READ_BACK, OTHER_FORM}
use Rattle.tile_bridge.specs.declared.error.ConvertError.{ConvertError}
use Rattle.tile_bridge.specs.declared.error.ConvertError.TheVariants as convert
use Rattle.set_conversion.specs.declared.outcome.ConversionOutcome.{ConversionOutcome}
use Rattle.set_conversion.specs.declared.outcome.ConversionOutcome.TheVariants.{Done, Refused, Taken, Unread, LeftOut, Usage, NoSet, InputFault, OutputFault, MediumFault, OutOfMemory, ReadBack, OtherForm}

-- the outcome that an error of the conversion ends a run in
abbrev pub of_convert : ConvertError → ConversionOutcome
of_convert (convert.MediumNotEmpty length) = Refused (convert.MediumNotEmpty length)
of_convert (convert.UnsupportedCompression label) = Refused (convert.UnsupportedCompression label)
of_convert (convert.Store place e) = Refused (convert.Store place e)
of_convert convert.IndexEntryOverflow = Refused convert.IndexEntryOverflow
of_convert (convert.StoreFault place) = Refused (convert.StoreFault place)
of_convert convert.MediumFault = MediumFault
of_convert (convert.ReadBack e) = ReadBack e
of_convert convert.OutOfMemory = OutOfMemory

abbrev pub status : ConversionOutcome → ℕ
status (Done r) = DONE
status (Refused e) = REFUSED
status Taken = REFUSED
status Unread = REFUSED
status LeftOut = REFUSED
status Usage = USAGE
status NoSet = NO_INPUT
status InputFault = INPUT_FAULT
status OutputFault = OUTPUT_FAULT
status MediumFault = FAULT
status OutOfMemory = OUT_OF_MEMORY
status (ReadBack e) = READ_BACK
status OtherForm = OTHER_FORM

-- the lines on an archive: how many tiles and different contents it has, how long it is, and the aggregate hash of its
-- tiles where there is one
abbrev pub report_lines : Option (List ℕ) → ℕ → ℕ → ℕ → List ℕ
report_lines None addressed contents total =
    codes "tiles " ++ (decimal addressed ++ (codes ", contents " ++ (decimal contents ++ (codes "\nbytes " ++ (decimal total ++ codes "\n")))))
report_lines (Some aggregate) addressed contents total =
    codes "tiles " ++ (decimal addressed ++ (codes ", contents " ++ (decimal contents ++ (codes "\nbytes " ++ (decimal total ++ (codes "\naggregate " ++ (aggregate ++ codes "\n")))))))

abbrev pub text : ConversionOutcome → List ℕ
text (Done r) = report_lines r.aggregate r.places.addressed r.places.contents r.places.length
text _ = []

pub no_lines : text NoSet ≡ []
no_lines = refl

pub another_form : text OtherForm ≡ []
another_form = refl

pub an_overflow : status (of_convert convert.IndexEntryOverflow) ≡ 1
an_overflow = refl

pub a_fault : status (of_convert convert.MediumFault) ≡ 6
a_fault = refl
