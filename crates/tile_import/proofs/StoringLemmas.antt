-- Sets into which tiles can be put.
use Rattle.tile_import.proofs.Common.{ap, Bool, editable, Err, false, is_editable, MbtError, None, none-some, Ok, refl, Some, State, sym, true, unless, unless_numbered, ◌∙◌, ◌≡◌}
use Rattle.mb_tables.specs.declared.error.MbtError.TheVariants.{UnsupportedCopyOperation}
use Rattle.mb_tables.specs.declared.kind.MbtType.{MbtType}

pub refused_as : (s : State) (layout : MbtType) (e : MbtError) → layout ≡ s.layout → unless (is_editable layout) UnsupportedCopyOperation ≡ Some e → editable s ≡ Err e
refused_as s layout e same is = ap (λ l. unless_numbered s (is_editable l)) (sym same) ∙ by (is_editable layout) is
  where
    by : (b : Bool) → unless b UnsupportedCopyOperation ≡ Some e → unless_numbered s b ≡ Err e
    by true is = absurd (none-some e is)
    by false is = cc

pub taken_as : (s : State) (layout : MbtType) → layout ≡ s.layout → unless (is_editable layout) UnsupportedCopyOperation ≡ None → editable s ≡ Ok s
taken_as s layout same is = ap (λ l. unless_numbered s (is_editable l)) (sym same) ∙ by (is_editable layout) is
  where
    by : (b : Bool) → unless b UnsupportedCopyOperation ≡ None → unless_numbered s b ≡ Ok s
    by true is = refl
    by false is = absurd (none-some UnsupportedCopyOperation (sym is))
