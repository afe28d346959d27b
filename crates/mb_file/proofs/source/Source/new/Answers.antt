use Rattle.sqlite_pager.specs.Pager as below
use Rattle.sqlite_pages.proofs.Doubt.{clean_of}
use Rattle.sqlite_wal.proofs.StateLemmas.{open_from}
use Rattle.mb_file.proofs.source.Source.new.Goals as goal

pub returns-clause-live : goal.returns-clause-live
returns-clause-live g c = λ ready clean. c.in_ok-taken.ensures.live (open_from (below.state c.args.pages.pager) ready (clean_of _ clean))
