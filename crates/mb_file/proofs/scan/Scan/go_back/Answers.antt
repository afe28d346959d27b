use Rattle.mb_file.proofs.ScanLemmas.{restarted, rowids_of}
use Rattle.mb_file.proofs.scan.Scan.go_back.Goals as goal

pub returns-then-to-self-clause-stands : goal.returns-then-to-self-clause-stands
returns-then-to-self-clause-stands c = λ layout usable root pages table columns rows stored scan.
    c.restart.ensures.stands (rowids_of layout usable pages rows _ scan.among) layout usable root pages table columns rows stored scan.few

pub returns-then-to-self-clause-same : goal.returns-then-to-self-clause-same
returns-then-to-self-clause-same c = restarted _ _ c.restart.ensures.same
