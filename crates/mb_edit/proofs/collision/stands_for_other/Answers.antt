use Rattle.mb_edit.proofs.Common.{bytes_eq, get, not, ◌∙◌, ◌≡◌}
use Rattle.mb_edit.proofs.EntryLemmas.{other_blob}
use Rattle.mb_edit.proofs.OrderLemmas.{same_two}
use Rattle.mb_edit.proofs.collision.stands_for_other.Goals as goal

pub returns-in-Some-Blob : goal.returns-in-Some-Blob
returns-in-Some-Blob c =
    let r : c.ne.result ≡ not (bytes_eq c.in-Some-Blob.stored c.args.bytes.now) = c.ne.ensures ∙ same_two (λ a b. not (bytes_eq a b)) c.as_bytes.result.now c.in-Some-Blob.stored c.as_bytes-in-Some-Blob.result.now c.args.bytes.now c.as_bytes.ensures c.as_bytes-in-Some-Blob.ensures in
    other_blob (get c.args.base.now.state.contents c.args.id.now) c.in-Some-Blob.field-0.now c.in-Some-Blob.stored c.args.bytes.now c.ne.result c.in-Some-Blob.ensures c.in-Some-Blob.field-0-is r
