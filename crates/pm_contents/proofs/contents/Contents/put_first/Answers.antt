use Rattle.pm_contents.proofs.Common.{refl}
use Rattle.pm_contents.proofs.ContentLemmas.{finds_alike, holds_alike}
use Rattle.pm_contents.proofs.contents.Contents.put_first.Goals as goal

pub returns-clause-put : goal.returns-clause-put
returns-clause-put g c = λ name cs h same new. c.push_first.ensures.put name cs c.args.bytes.now (holds_alike name c.args.self.now c.reserve.new.self cs c.in_ok-reserve.ensures.alike h) same refl new

pub returns-clause-finds : goal.returns-clause-finds
returns-clause-finds g c = λ name cs h k same new.
    let alike = c.in_ok-reserve.ensures.alike in
    c.push_first.ensures.finds name cs c.args.bytes.now (holds_alike name c.args.self.now c.reserve.new.self cs alike h) (finds_alike name c.args.self.now c.reserve.new.self cs alike k) same refl new
