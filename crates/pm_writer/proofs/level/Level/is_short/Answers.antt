use Rattle.pm_writer.proofs.Common.{All, IsShort, subst, sym}
use Rattle.pm_writer.proofs.CuttingLemmas.{short_by, short_named}
use Rattle.pm_writer.proofs.level.Level.is_short.Goals as goal

pub returns : goal.returns
returns c = λ place ls w.
    let ns = c.args.self.now.names.items in (
      (λ yes. short_by place ns ls w.names (subst (All IsShort) c.deref.ensures.value (c.are_short.ensures.0 yes))),
      (λ short. c.are_short.ensures.1 (subst (All IsShort) (sym c.deref.ensures.value) (short_named place ns ls w.names short))),
    )
