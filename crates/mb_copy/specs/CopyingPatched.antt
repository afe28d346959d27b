-- What a copy with a patch answers, and what it leaves.
use Rattle.std.specs.Prelude.{◌≡◌, Bool, true, false, None, Result, Ok}
use Rattle.mb_copy.specs.Common.{Answers, begun, MbtError, refused_by, State, state_of, Tables}
use Rattle.mb_copy.specs.Copying.{IsAnew, has_any}
use Rattle.mb_copy.specs.PatchOrder.{may_be_patch, may_be_patched, may_copy_patched, patch_answer}
use Rattle.mb_copy.specs.PatchedSource.{source_patched}
use Rattle.mb_copy.specs.declared.copier.MbtilesCopier.{MbtilesCopier}

-- the answer of a copy of a set with a patch into a destination: by whether that describes anything, as it tells it, or
-- as its answers could be of
pub record IsPutPatched (c : MbtilesCopier) (source patch : State) (tells : Bool) (told : Tables) (answer : Result (Unit {0}) MbtError) : Type 0 where
  pub described : Bool
  pub is_described : tells ≡ true → described ≡ has_any told.descriptions
  pub answers : Answers (refused_by (may_copy_patched c described source patch)) answer

-- the answer of a copy from a store with a patch in another one
pub record IsAnsweredPatched (c : MbtilesCopier) (patch_tells : Bool) (patch_told : Tables) (source_tells : Bool) (source_told : Tables) (tells : Bool) (told : Tables) (answer : Result (Unit {0}) MbtError) : Type 0 where
  pub patch : Tables
  pub is_patch : patch_tells ≡ true → patch ≡ patch_told
  pub source : Tables
  pub is_source : source_tells ≡ true → source ≡ source_told
  pub described : Bool
  pub is_described : tells ≡ true → described ≡ has_any told.descriptions
  pub answers : Answers (begun (patch_answer c described source) patch) answer

-- the tables of a destination after the copy of a set with a patch: those of the patched set, which no test refused
pub record IsCopiedPatched (c : MbtilesCopier) (source patch : State) (old new : Tables) : Type 0 where
  pub passed : may_copy_patched c false source patch ≡ None
  pub copied : IsAnew c (source_patched source patch) old new

-- the same of a source and a patch that tell their tables or not: then of some tables that their answers could be of
pub record IsCopiedPatchedBy (c : MbtilesCopier) (patch_tells : Bool) (patch_told : Tables) (source_tells : Bool) (source_told : Tables) (old new : Tables) : Type 0 where
  pub patch_tables : Tables
  pub is_patch : patch_tells ≡ true → patch_tables ≡ patch_told
  pub patch : State
  pub read : state_of patch_tables ≡ Ok patch
  pub is_whole : may_be_patch c patch ≡ None
  pub source_tables : Tables
  pub is_source : source_tells ≡ true → source_tables ≡ source_told
  pub source : State
  pub loaded : state_of source_tables ≡ Ok source
  pub can_be_patched : may_be_patched c source ≡ None
  pub copied : IsCopiedPatched c source patch old new
