-- The values of an answer that a set has columns for.
use Rattle.std.specs.Prelude.{◌≡◌, [], ◌∷◌}
use Rattle.mb_reading.specs.Common.{column, owned, Row}
use Rattle.mb_reading.specs.declared.answer.Answer.{Answer}

abbrev pub answer_row : Answer → Row
answer_row a = owned a.first ∷ owned a.second ∷ owned a.third ∷ owned a.fourth ∷ owned a.fifth ∷ []

-- the same values in the first five columns
pub record SameAnswer (r s : Row) : Type 0 where
  pub first : column r 0 ≡ column s 0
  pub second : column r 1 ≡ column s 1
  pub third : column r 2 ≡ column s 2
  pub fourth : column r 3 ≡ column s 3
  pub fifth : column r 4 ≡ column s 4
