use Rattle.tile_streaming.proofs.Common.{ap, Bool, cond, ConvertError, None, Result, Some, State, true, ◌&&◌, ◌∙◌, ◌≡◌}
use Rattle.tile_streaming.proofs.laws.told_tables_have_one_outcome.Goals as goal

pub returns : goal.returns
returns g c = λ base patches o tells all. both _ _ _ tells all
  where
    both : (a b : Bool) (x : Result State ConvertError) → a ≡ true → b ≡ true → cond (a && b) (Some x) None ≡ Some x
    both a b x is other = ap (λ t. cond (t && b) (Some x) None) is ∙ ap (λ t. cond (true && t) (Some x) None) other
