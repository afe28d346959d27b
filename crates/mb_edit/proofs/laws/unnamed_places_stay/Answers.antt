use Rattle.mb_edit.proofs.LawLemmas.{get-unnamed}
use Rattle.mb_edit.proofs.laws.unnamed_places_stay.Goals as goal

pub returns : goal.returns
returns c = get-unnamed
