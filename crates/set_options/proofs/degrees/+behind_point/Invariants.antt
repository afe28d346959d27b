-- fewer places are left
use Rattle.set_options.proofs.degrees.+behind_point.Given as goal

abbrev pub decreases-behind_point : goal.decreases-behind_point
decreases-behind_point l = l.places
