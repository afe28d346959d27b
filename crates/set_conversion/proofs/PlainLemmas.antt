-- The options of a set label directories `None`.
use Rattle.set_conversion.proofs.Common.{ap, None, Option, refl, Some, ℕ, ◌∙◌}
use Rattle.std.specs.Prelude.{unwrap_or}
use Rattle.mb_loaded.specs.State.{State}
use Rattle.pm_format.specs.Options.{Options}
use Rattle.set_options.specs.OptionsOfSet.{AreOptionsOfSet, said_by, unsaid_center, with_bounds, with_center, with_center_zoom, writer_of}
use Rattle.set_options.specs.declared.extents.SetBounds.{SetBounds}
use Rattle.set_options.specs.declared.extents.SetCenter.{SetCenter}
use Rattle.set_options.specs.declared.options.SetOptions.{SetOptions}
use Rattle.tile_bridge.specs.Convert.{IsPlain}

bounded : (b : Option SetBounds) (o : Options) → IsPlain o → IsPlain (with_bounds b o)
bounded None o plain = plain
bounded (Some b) o plain = plain

zoomed : (zoom : Option ℕ) (o : Options) → IsPlain o → IsPlain (with_center_zoom zoom o)
zoomed None o plain = plain
zoomed (Some zoom) o plain = plain

centered : (c : SetCenter) (o : Options) → IsPlain o → IsPlain (with_center c o)
centered c o plain = zoomed c.zoom (record o { center_longitude = c.longitude; center_latitude = c.latitude }) plain

pub said_plain : (o : SetOptions) → IsPlain (writer_of o)
said_plain o = centered (unwrap_or o.center (unsaid_center o.bounds o.zooms.0)) (with_bounds o.bounds _) (bounded o.bounds _ refl)

pub plain_of_set : (s : State) (o : Options) → AreOptionsOfSet s o → IsPlain o
plain_of_set s o of = ap (λ (o : Options). o.internal_compression) of.are ∙ said_plain (said_by s of.text)
