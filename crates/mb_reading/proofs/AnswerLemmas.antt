-- What an answer is read as and counted as depends on its first five values.
use Rattle.mb_reading.proofs.Common.{ap, column, counted, Images, Map, Metadata, refl, Row, sym, TableName, TileCache, Tiles, TilesData, TilesShallow, TilesWithHash, [], ◌∙◌, ◌∷◌, ◌≡◌}
use Rattle.mb_reading.specs.Common.{Value}
use Rattle.mb_reading.specs.Answer.{SameAnswer}
use Rattle.mb_reading.specs.Rows.{row_in}
use Rattle.mb_reading.specs.declared.filling.Step.{Step}
use Rattle.mb_reading.specs.declared.filling.Step.TheVariants as steps
use Rattle.mb_reading.specs.declared.left_out.LeftOut.{LeftOut}

-- the first five values
abbrev five : Row → Row
five r = column r 0 ∷ column r 1 ∷ column r 2 ∷ column r 3 ∷ column r 4 ∷ []

put : (x y : Value) (xs ys : Row) → x ≡ y → xs ≡ ys → x ∷ xs ≡ y ∷ ys
put x y xs ys first rest = ap (λ v. v ∷ xs) first ∙ ap (λ vs. y ∷ vs) rest

same_five : (r s : Row) → SameAnswer r s → five r ≡ five s
same_five r s same = put _ _ _ _ same.first (put _ _ _ _ same.second (put _ _ _ _ same.third (put _ _ _ _ same.fourth (put _ _ _ _ same.fifth refl))))

row_by_five : (table : TableName) (r : Row) → row_in table r ≡ row_in table (five r)
row_by_five Tiles r = refl
row_by_five TilesWithHash r = refl
row_by_five Map r = refl
row_by_five Images r = refl
row_by_five TilesShallow r = refl
row_by_five TilesData r = refl
row_by_five TileCache r = refl
row_by_five Metadata r = refl

pub same_row : (table : TableName) (r s : Row) → SameAnswer r s → row_in table r ≡ row_in table s
same_row table r s same = row_by_five table r ∙ ap (row_in table) (same_five r s same) ∙ sym (row_by_five table s)

count_by_five : (table : TableName) (r : Row) (step : Step) (l : LeftOut) → counted table r step l ≡ counted table (five r) step l
count_by_five table r steps.NoNumber l = refl
count_by_five table r steps.TooDeep l = refl
count_by_five table r steps.Outside l = refl
count_by_five Metadata r steps.Odd l = refl
count_by_five Metadata r steps.Repeated l = refl
count_by_five _ r steps.Odd l = refl
count_by_five _ r steps.Repeated l = refl
count_by_five _ r steps.Added l = refl

pub same_count : (table : TableName) (r s : Row) (step : Step) (l : LeftOut) → SameAnswer r s → counted table r step l ≡ counted table s step l
same_count table r s step l same = count_by_five table r step l ∙ ap (λ v. counted table v step l) (same_five r s same) ∙ sym (count_by_five table s step l)
