use Rattle.pm_writer.proofs.Common.{refl}
use Rattle.pm_writer.proofs.AddedBytes.{ends_at, told_contents, within_end}
use Rattle.pm_writer.proofs.state.WriterState.seek.Goals as goal

pub seek-requires-clause-within : goal.seek-requires-clause-within
seek-requires-clause-within g c =
    let w = c.requires.writes in
    within_end w.0 _ c.args.self.now w.1 _ w.2 c.requires.alive (ends_at w.0 _ c.args.self.now w.1 c.args.self.now.adds.contents.total w.2 c.requires.alive refl)

pub returns-in-Ok-clause-found : goal.returns-in-Ok-clause-found
returns-in-Ok-clause-found g c = λ o adds w. c.in-Ok.ensures.found adds ((w.held c.requires.alive).means) (told_contents o (g.M.Backend.told c.args.medium.now) c.args.self.now adds w c.requires.alive)
