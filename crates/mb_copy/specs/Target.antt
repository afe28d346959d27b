-- The layout, the algorithm and the mode of a copy.
use Rattle.std.specs.Prelude.{ℕ, ◌==◌, true, Option, Some, None, option_map, unwrap_or}
use Rattle.std.specs.Option.{option_or}
use Rattle.mb_copy.specs.declared.copier.MbtilesCopier.{MbtilesCopier}
use Rattle.mb_copy.specs.Common.{CopyDuplicateMode, HashAlgorithm, MbtError, MbtType, MismatchedTargetType, Override, started_as, unless}
use Rattle.mb_tables.specs.declared.kind.MbtType.TheVariants as layouts
use Rattle.mb_tables.specs.declared.kind.MbtTypeCli.{MbtTypeCli}
use Rattle.mb_tables.specs.declared.kind.MbtTypeCli.TheVariants as cli
use Rattle.mb_tables.specs.declared.kind.NormalizedSchema.TheVariants.{Hash}

-- the layout that a word of a command line stands for
abbrev pub layout_of_cli : MbtTypeCli → MbtType
layout_of_cli cli.Flat = layouts.Flat
layout_of_cli cli.FlatWithHash = layouts.FlatWithHash
layout_of_cli cli.Normalized = layouts.Normalized true Hash
layout_of_cli cli.Cache = layouts.Cache

-- the layout that is asked for, if one is
abbrev pub asked_type : MbtilesCopier → Option MbtType
asked_type c = option_or c.dst_type (option_map layout_of_cli c.dst_type_cli)

-- the layout that a copy is to have: that which is asked for, else that of its source
abbrev pub wanted_type : MbtilesCopier → MbtType → MbtType
wanted_type c source = unwrap_or (asked_type c) source

-- the layout that is made for it: ids that are numbers become digests
abbrev pub made_type : MbtilesCopier → MbtType → MbtType
made_type c source = started_as (wanted_type c source)

-- the algorithm that is made for it
abbrev pub wanted_algorithm : MbtilesCopier → HashAlgorithm → HashAlgorithm
wanted_algorithm c source = unwrap_or c.hash_algorithm source

-- what counts where both sets have a tile or a name
abbrev pub mode_of : MbtilesCopier → CopyDuplicateMode
mode_of c = unwrap_or c.on_duplicate Override

-- the kind of a layout, without its fields
abbrev pub kind_number : MbtType → ℕ
kind_number layouts.Flat = 0
kind_number layouts.FlatWithHash = 1
kind_number (layouts.Normalized view schema) = 2
kind_number layouts.Cache = 3

-- a described destination has another kind than is asked for
abbrev pub kind_wrong : MbtType → Option MbtType → Option MbtError
kind_wrong actual None = None
kind_wrong actual (Some desired) = unless (kind_number actual == kind_number desired) (MismatchedTargetType actual desired)
