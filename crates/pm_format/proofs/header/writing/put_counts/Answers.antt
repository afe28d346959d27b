use Rattle.pm_format.proofs.Common.{append_assoc}
use Rattle.pm_format.proofs.header.writing.put_counts.Goals as goal

pub returns : goal.returns
returns c = rw (c.put_word-3.ensures, c.put_word-2.ensures, c.put_word.ensures) (simp append_assoc)
