use Rattle.mb_load.proofs.EditedFrom.{from_only_referenced, from_removed_name, from_removed_tile, from_with_name, from_with_tile, from_without_name, from_without_tile}
use Rattle.mb_load.proofs.NullFrom.{from_with_dates, from_with_null}
use Rattle.mb_load.proofs.SharedFrom.{from_with_tiles}
use Rattle.mb_load.proofs.laws.edits_stay_loaded.Goals as goal

pub returns-clause-put : goal.returns-clause-put
returns-clause-put c = from_with_tile

pub returns-clause-shared : goal.returns-clause-shared
returns-clause-shared c = from_with_tiles

pub returns-clause-nulled : goal.returns-clause-nulled
returns-clause-nulled c = λ t h p on flat loaded. from_with_null t h p loaded on flat

pub returns-clause-dated : goal.returns-clause-dated
returns-clause-dated c = λ t h p dates cache there are loaded. from_with_dates t h p loaded dates cache there are

pub returns-clause-removed : goal.returns-clause-removed
returns-clause-removed c = λ t h p loaded. (from_removed_tile t h p loaded, from_without_tile t h p loaded)

pub returns-clause-named : goal.returns-clause-named
returns-clause-named c = from_with_name

pub returns-clause-unnamed : goal.returns-clause-unnamed
returns-clause-unnamed c = λ t h name loaded. (from_removed_name t h name loaded, from_without_name t h name loaded)

pub returns-clause-dropped : goal.returns-clause-dropped
returns-clause-dropped c = from_only_referenced
