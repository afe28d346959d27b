use Rattle.pm_reader.proofs.view.follow.+follow.Given as goal

abbrev pub decreases-follow : goal.decreases-follow
decreases-follow l = l.left
