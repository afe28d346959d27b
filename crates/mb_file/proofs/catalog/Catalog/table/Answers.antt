use Rattle.mb_file.proofs.CatalogLemmas.{entry_found}
use Rattle.mb_file.proofs.catalog.Catalog.table.Goals as goal

pub returns : goal.returns
returns c = entry_found c.args.table _ _ _ c.as_slice.ensures.value c.listed_in.ensures
