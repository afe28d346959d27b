-- The words by which kinds of patches are shown, and their tables.
use Rattle.std.specs.Prelude.{ℕ, codes, List, Option, Some, None}
use Rattle.mb_tables.specs.declared.patch_type.PatchType.{PatchType}
use Rattle.mb_tables.specs.declared.patch_type.PatchType.TheVariants as patches
use Rattle.mb_tables.specs.declared.patch_type.PatchTypeCli.{PatchTypeCli}
use Rattle.mb_tables.specs.declared.patch_type.PatchTypeCli.TheVariants as cli_patches

abbrev pub patch_words : PatchType → List ℕ
patch_words patches.BinDiffGz = codes "bin-diff-gz"
patch_words patches.BinDiffRaw = codes "bin-diff-raw"

abbrev pub cli_patch_words : PatchTypeCli → List ℕ
cli_patch_words cli_patches.Whole = codes "whole"
cli_patch_words cli_patches.BinDiffGz = codes "bin-diff-gz"
cli_patch_words cli_patches.BinDiffRaw = codes "bin-diff-raw"

-- the kind of patch that a command line names
abbrev pub patch_of : PatchTypeCli → Option PatchType
patch_of cli_patches.Whole = None
patch_of cli_patches.BinDiffGz = Some patches.BinDiffGz
patch_of cli_patches.BinDiffRaw = Some patches.BinDiffRaw

-- the tables of patches of each kind
abbrev pub patch_text : PatchType → List ℕ
patch_text patches.BinDiffGz = codes "bsdiffrawgz"
patch_text patches.BinDiffRaw = codes "bsdiffraw"
