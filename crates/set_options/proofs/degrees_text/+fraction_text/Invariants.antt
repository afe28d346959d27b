-- fewer places are left
use Rattle.set_options.proofs.degrees_text.+fraction_text.Given as goal

abbrev pub decreases-fraction_text : goal.decreases-fraction_text
decreases-fraction_text l = l.places
