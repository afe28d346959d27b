use Rattle.std.proofs.Common.{refl}
use Rattle.mb_file.proofs.CursorLemmas.{all_from_least, ids_fit}
use Rattle.mb_file.proofs.NotedLemmas.{none_noted}
use Rattle.mb_file.proofs.ScanLemmas.{at_first}
use Rattle.mb_file.proofs.scan.Scan.new.Goals as goal

pub returns-clause-stands : goal.returns-clause-stands
returns-clause-stands c = λ rowids layout usable root pages table columns rows stored few.
    at_first layout usable pages table columns rows _ (c.new.ensures.among rowids layout usable pages rows) (c.new.ensures.left rowids layout usable root rows stored) refl few

pub returns-clause-noted : goal.returns-clause-noted
returns-clause-noted c = λ layout usable root secret table columns rows stored.
    none_noted secret table columns rows _ c.new-2.ensures.items refl refl (all_from_least rows (ids_fit stored))
