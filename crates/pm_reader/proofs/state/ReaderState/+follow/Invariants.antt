use Rattle.pm_reader.proofs.state.ReaderState.+follow.Given as goal

abbrev pub decreases-follow : goal.decreases-follow
decreases-follow g l = l.left
