use Rattle.pm_contents.proofs.Common.{ap, btree_map_len, content_cmp, Contents, length, None, refl, rules, Some, Updates, ◌+◌, ◌≡◌}
use Rattle.pm_contents.proofs.ContentLemmas.{IsOther, finds_other, holds_other, others_back}
use Rattle.pm_contents.proofs.contents.Contents.put_other.Given.{Over}
use Rattle.pm_contents.proofs.contents.Contents.put_other.Goals as goal

abbrev after : (g : Over) → goal.After-self-in-Ok-2-1 g → Contents
after g c = record { firsts = c.args.self.now.firsts; others = c.self-in-Ok-1.given.0; total = c.args.self.now.total + length c.as_bytes-bytes.result.now }

other : (g : Over) (c : goal.After-self-in-Ok-2-1 g) → IsOther c.args.self.now (after g c) c.args.content
other g c =
    let old = c.args.self.now in
    let same : c.as_bytes-bytes.result.now ≡ c.args.content = search rules in
    let update : Updates content_cmp old.others c.self-in-Ok-1.given.0 c.args.content (Some old.total) = search rules in
    let one : btree_map_len c.self-in-Ok-1.given.0 ≡ btree_map_len old.others + 1 = search rules in
    record { none = c.requires.other; updates = update; count = one; firsts = refl; total = ap (λ z. old.total + length z) same }

pub returns-in-Ok-clause-put : goal.returns-in-Ok-clause-put
returns-in-Ok-clause-put g c = λ name cs s taken is h f. holds_other c.args.self.now (after g c) c.args.content (other g c) name cs s is h taken f

pub returns-in-Ok-clause-finds : goal.returns-in-Ok-clause-finds
returns-in-Ok-clause-finds g c = λ name cs s is h k new. finds_other c.args.self.now (after g c) c.args.content (other g c) name cs s is h k new

pub returns-in-Ok-Vacant-clause-refused : goal.returns-in-Ok-Vacant-clause-refused
returns-in-Ok-Vacant-clause-refused g c =
    let old = c.args.self.now in
    let update : Updates content_cmp old.others c.self-in-Err-write_at-1.given.0 c.args.content None = search rules in
    let length : btree_map_len c.self-in-Err-write_at-1.given.0 ≡ btree_map_len old.others = search rules in
    record { first = λ digest. refl; other = λ y. others_back old.others c.self-in-Err-write_at-1.given.0 c.args.content y c.requires.other update; firsts = refl; others = length; total = refl }
