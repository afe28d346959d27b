-- The tests of the digests of all tiles that a set, and a patch for it, have in their metadata.
use Rattle.std.specs.Prelude.{Bool, cond, ◌||◌, Option, Some, None, Result, Ok, Err}
use Rattle.mb_constraints.specs.Common.{CannotDiffFileWithoutHash, DiffingDiffFile, MbtError, PatchFileHasNoBeforeHash, PatchFileHasNoHashes, unless}

-- a set that is to be patched has its digest, and none of before or after a patch
abbrev pub base_refused : Bool → Bool → Bool → Option MbtError
base_refused has_agg has_before has_after = cond has_agg (cond (has_before || has_after) (Some DiffingDiffFile) None) (Some CannotDiffFileWithoutHash)

-- a patch has the digests of before and after it
abbrev pub patch_refused : Bool → Bool → Option MbtError
patch_refused has_before has_after = cond has_after (unless has_before PatchFileHasNoBeforeHash) (Some PatchFileHasNoHashes)

-- a test that isn't made where the patch is forced
abbrev pub unless_forced : Bool → Option MbtError → Option MbtError
unless_forced force refusal = cond force None refusal

-- the answer of a test
abbrev pub refused_by : Option MbtError → Result (Unit {0}) MbtError
refused_by None = Ok tt
refused_by (Some refusal) = Err refusal
