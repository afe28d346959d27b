-- A conversion with the options that its set says of itself.
use Rattle.std.specs.Prelude.{Bool}
use Rattle.pm_format.specs.Options.{Options, default_options}
use Rattle.pm_format.specs.declared.tile_type.TileType.TheVariants as types
use Rattle.set_conversion.specs.Common.{ConvertOptions}

-- options of an archive of which nothing is known yet; directories are labelled `None`
abbrev pub plain_options : Options
plain_options = default_options types.Unknown

-- what is asked before the set is known
abbrev pub asked_before : Bool → Bool → ConvertOptions
asked_before force verify = record { force = force; verify = verify; writer = plain_options }
