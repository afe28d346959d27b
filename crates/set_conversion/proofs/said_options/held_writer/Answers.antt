use Rattle.set_conversion.proofs.Common.{subst, sym}
use Rattle.set_conversion.proofs.HeldLemmas.{options_held}
use Rattle.set_conversion.proofs.PlainLemmas.{said_plain}
use Rattle.set_options.specs.OptionsOfSet.{AreOptionsOfSet}
use Rattle.tile_bridge.specs.Convert.{IsPlain}
use Rattle.set_conversion.proofs.said_options.held_writer.Goals as goal

pub returns-clause-given : goal.returns-clause-given
returns-clause-given c = λ s held. subst (AreOptionsOfSet s) (sym c.into_writer-writer.ensures) (options_held s c.args.set.now.names c.tile_facts.result c.in_ok-said.said held.names (c.tile_facts.ensures s held) c.in_ok-said.ensures)

pub returns-clause-plain : goal.returns-clause-plain
returns-clause-plain c = subst IsPlain (sym c.into_writer-writer.ensures) (said_plain c.in_ok-said.said)
