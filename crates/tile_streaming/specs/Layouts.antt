-- Layouts of what is held over a base of which marks are held.
use Rattle.std.specs.Prelude.{Bool, true, false}
use Rattle.mb_tables.specs.declared.kind.MbtType.TheVariants.{Flat, FlatWithHash}
use Rattle.mb_tables.specs.declared.kind.NormalizedSchema.TheVariants.{Hash}
use Rattle.tile_streaming.specs.Common.{Cache, MbtType, Normalized}

-- whether contents stand under their digests
abbrev pub has_digests : MbtType → Bool
has_digests (Normalized view Hash) = true
has_digests _ = false

-- The layout of what is held over a base: that of the base where contents stand under their digests, and else one
-- without contents by id, whose patches are tested as those of the base.
abbrev pub over_layout : MbtType → MbtType
over_layout Flat = Flat
over_layout FlatWithHash = Flat
over_layout (Normalized view Hash) = Normalized view Hash
over_layout _ = Cache
