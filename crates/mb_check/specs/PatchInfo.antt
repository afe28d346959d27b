-- What a set says of itself as a patch, or as the base of one.
use Rattle.std.specs.Prelude.{Result, Ok}
use Rattle.mb_check.specs.declared.patch_info.PatchFileInfo.{PatchFileInfo}
use Rattle.mb_check.specs.Common.{after_hash, agg_hash, before_hash, MbtError, State}

-- its layout, its hash of all tiles and those of before and after a patch, and the kind of the patches
-- that its tables describe
abbrev pub patch_info : State → PatchFileInfo
patch_info s = record {
  mbt_type = s.layout;
  agg_tiles_hash = agg_hash s.metadata;
  agg_tiles_hash_before_apply = before_hash s.metadata;
  agg_tiles_hash_after_apply = after_hash s.metadata;
  patch_type = s.patch_type;
}

abbrev pub info_answer : State → Result PatchFileInfo MbtError
info_answer s = Ok (patch_info s)
