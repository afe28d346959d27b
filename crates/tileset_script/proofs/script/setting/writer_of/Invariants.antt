-- the options so far, and what the rest makes of them
use Rattle.tileset_script.proofs.Common.{with_settings, writer_of, ◌≡◌}
use Rattle.std.specs.Vec.Iter.{into_iter_items}
use Rattle.tileset_script.proofs.script.setting.writer_of.Given as goal

abbrev pub invariant-loop-setting : goal.invariant-loop-setting
invariant-loop-setting l = with_settings l.writer (into_iter_items l.setting-iterator) ≡ writer_of l.fn.settings.items
