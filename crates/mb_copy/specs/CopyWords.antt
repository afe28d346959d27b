-- What of a set is copied, and the words by which that is shown.
use Rattle.std.specs.Prelude.{ℕ, codes, Bool, true, false, List}
use Rattle.mb_copy.specs.declared.copy_type.CopyType.{CopyType}
use Rattle.mb_copy.specs.declared.copy_type.CopyType.TheVariants.{All, Metadata, Tiles}

abbrev pub copy_words : CopyType → List ℕ
copy_words All = codes "all"
copy_words Metadata = codes "metadata"
copy_words Tiles = codes "tiles"

abbrev pub copies_tiles : CopyType → Bool
copies_tiles Metadata = false
copies_tiles _ = true

abbrev pub copies_metadata : CopyType → Bool
copies_metadata Tiles = false
copies_metadata _ = true
