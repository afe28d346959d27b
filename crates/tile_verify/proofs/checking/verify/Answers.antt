use Rattle.tile_verify.proofs.CheckingLemmas.{told_sound}
use Rattle.tile_verify.proofs.ReadsLemmas.{made_opened}
use Rattle.tile_verify.proofs.checking.verify.Goals as goal

pub returns-in-Ok-walk_all-clause-answer : goal.returns-in-Ok-walk_all-clause-answer
returns-in-Ok-walk_all-clause-answer g c =
    told_sound (g.B.Backend.told c.args.source.now) (g.B.Backend.told c.open.new.backend) c.in-Ok.state c.in-Ok-walk_all.met c.report.result c.open.ensures.kept.told c.in-Ok.ensures.open c.report.ensures c.in-Ok-walk_all.ensures.answer

pub returns-clause-made : goal.returns-clause-made
returns-clause-made g c = made_opened _ _ _ _ _ c.in-Err-walk_all.error c.open.ensures.reads c.in-Err-walk_all.ensures.causes c.in-Err-walk_all.ensures.made
