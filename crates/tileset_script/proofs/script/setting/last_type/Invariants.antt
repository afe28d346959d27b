-- the last type so far, and that of the rest
use Rattle.tileset_script.proofs.Common.{drop, type_in, ◌≡◌}
use Rattle.pm_format.specs.declared.tile_type.TileType.TheVariants.{Unknown}
use Rattle.tileset_script.proofs.script.setting.last_type.Given as goal

abbrev pub invariant-loop-setting : goal.invariant-loop-setting
invariant-loop-setting l = type_in l.tile_type (drop l.setting-index l.settings) ≡ type_in Unknown l.settings
