-- Conversions whose stores don't fail.
use Rattle.tileset.specs.Common.{ConvertError}
use Rattle.tile_bridge.specs.declared.error.ConvertError.TheVariants.{StoreFault}
use Rattle.tile_bridge.specs.declared.options.ConvertOptions.{ConvertOptions}
use Rattle.tileset_script.specs.declared.script.options.ScriptOptions.{ScriptOptions}

-- the options of a conversion that those of a script are
abbrev pub options_for : ScriptOptions → ConvertOptions
options_for o = record { force = o.force; verify = o.verify; writer = o.writer }

-- an error that isn't a store's fault
abbrev pub IsNoStoreFault : ConvertError → Type 0
IsNoStoreFault (StoreFault place) = ⊥
IsNoStoreFault _ = Unit {0}
