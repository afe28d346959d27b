use Rattle.std.proofs.Common.{map}
use Rattle.std.specs.Option.{option_copied}
use Rattle.std.proofs.lemmas.Result.{IfOk-weaker}
use Rattle.mb_file.specs.Catalog.{entry_of}
use Rattle.mb_file.specs.FilePages.{pages_of}
use Rattle.mb_file.proofs.PartsLemmas.{metadata_held}
use Rattle.mb_file.proofs.opening.names.Goals as goal

pub returns-clause-holds : goal.returns-clause-holds
returns-clause-holds g c = λ trusted free.
    IfOk-weaker c.metadata.result _ _
    (λ names are. metadata_held c.args.source.now.pages.usable (pages_of c.args.source.now.pages) (map entry_of c.args.catalog.now.tables.items) (option_copied c.table-listed.result) names
    c.args.source.now.left_out c.metadata.new.source.left_out c.table-listed.ensures are) (c.metadata.ensures.read trusted free)
