use Rattle.std.proofs.Common.{ap, sym, ◌∙◌}
use Rattle.set_options.proofs.laws.sets_give_options_once.Goals as goal
use Rattle.set_options.specs.OptionsOfSet.{options_of_set}

pub returns : goal.returns
returns c = λ s x y whole one other.
    one.are ∙ ap (options_of_set s) (one.is_text.compact whole ∙ sym (other.is_text.compact whole)) ∙ sym other.are
