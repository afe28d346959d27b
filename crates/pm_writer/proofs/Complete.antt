-- What fits is refused by faults and running out of memory alone.
use Rattle.pm_writer.proofs.Common.{AddCauses, ArchiveFits, arith, Compression, CreateCauses, Distinct, Err, false, FinishCauses, List, Options, PmtError, PutCauses, refl, ℕ, ◌<◌, ◌^◌, ◌≡◌}
use Rattle.pm_format.specs.declared.compression.Compression.TheVariants as compression
use Rattle.pm_format.specs.declared.error.PmtError.TheVariants as errors
use Rattle.pm_format.specs.declared.error.ReadCause.TheVariants as causes

-- the beginning of a writer whose directories are labelled plain
pub start_refused : (A : Type 0) (label : Compression) (before now : ℕ) (e : PmtError) → label ≡ compression.None → CreateCauses {A = A} label before now (Err e) → PutCauses before now (Err e)
start_refused A label before now (errors.UnsupportedCompression refused) plain c = c.1 plain
start_refused A label before now (errors.Reading causes.Fault) plain c = c.1
start_refused A label before now errors.OutOfMemory plain c = tt
start_refused A label before now _ plain c = absurd c

-- an add that fits, to a writer whose medium didn't fail
pub add_refused : (label : Compression) (size : ℕ) (fits : Type 0) (before now : ℕ) (e : PmtError) → label ≡ compression.None → fits → AddCauses label false size fits before now (Err e) → PutCauses before now (Err e)
add_refused label size fits before now errors.Failed plain f c = absurd (cc)
add_refused label size fits before now (errors.UnsupportedCompression refused) plain f c = c.2 plain
add_refused label size fits before now errors.IndexEntryOverflow plain f c = c.2 f
add_refused label size fits before now (errors.Reading causes.Fault) plain f c = c.4
add_refused label size fits before now errors.OutOfMemory plain f c = tt
add_refused label size fits before now _ plain f c = absurd c

-- and what a write or a read of the medium answers an add with
pub put_refused : (size : ℕ) (fits : Type 0) (before now : ℕ) (e : PmtError) → 0 < size → size < 2 ^ 32 → PutCauses before now (Err e) → AddCauses compression.None false size fits before now (Err e)
put_refused size fits before now (errors.Reading causes.Fault) some low c = (refl, refl, some, low, c)
put_refused size fits before now errors.OutOfMemory some low c = (refl, refl, some, low)
put_refused size fits before now _ some low c = absurd c

-- the end of an archive of adds with distinct ids that fit
pub finish_refused : (A : Type 0) (o : Options) (adds : List (ℕ × List ℕ)) (before now : ℕ) (e : PmtError) → Distinct adds → ArchiveFits o adds → FinishCauses {A = A} o adds false before now (Err e) → PutCauses before now (Err e)
finish_refused A o adds before now errors.Failed d f c = absurd (cc)
finish_refused A o adds before now (errors.OverlappingEntries id) d f c = omega (arith, c.1.twice, d id)
finish_refused A o adds before now errors.IndexEntryOverflow d f c = c.2 f
finish_refused A o adds before now (errors.Reading causes.Fault) d f c = c.2
finish_refused A o adds before now errors.OutOfMemory d f c = tt
finish_refused A o adds before now _ d f c = absurd c
