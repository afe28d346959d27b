use Rattle.pm_format.proofs.HeaderLemmas.{head_again}
use Rattle.pm_format.proofs.header.Header.write_bytes.Goals as goal

pub returns-clause-again : goal.returns-clause-again
returns-clause-again c = λ rest. rw c.put_header.ensures.bytes (head_again c.args.self.now rest c.put_header.ensures.fits)
