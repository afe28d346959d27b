use Rattle.mb_edit.proofs.Common.{cell_cmp, digest, entries, None, rules, Some, ◌≡◌}
use Rattle.std.specs.BTreeMap.{get}
use Rattle.mb_edit.proofs.MarkLemmas.{by_false, by_none, by_true}
use Rattle.mb_edit.proofs.collision.collides_with.Goals as goal

pub returns-in-None : goal.returns-in-None
returns-in-None c put is marked =
    let none : get cell_cmp c.args.marks.now.by_id c.args.id.now ≡ None = search rules in
    by_none (digest c.args.base.now.state.algorithm) c.args.base.now.state.contents (entries c.args.patch.now.state.tiles) put c.args.marks.now marked c.args.bytes.now c.args.id.now is c.stands_for_other.result none c.stands_for_other.ensures

pub returns-then-mark : goal.returns-then-mark
returns-then-mark c put is marked =
    let some : get cell_cmp c.args.marks.now.by_id c.args.id.now ≡ Some c.in-Some.mark.now = search rules in
    by_true (digest c.args.base.now.state.algorithm) c.args.base.now.state.contents (entries c.args.patch.now.state.tiles) put c.args.marks.now marked c.args.bytes.now c.args.id.now is c.in-Some.mark.now some c.if-mark.true

pub returns-else-mark : goal.returns-else-mark
returns-else-mark c put is marked =
    let some : get cell_cmp c.args.marks.now.by_id c.args.id.now ≡ Some c.in-Some.mark.now = search rules in
    by_false (digest c.args.base.now.state.algorithm) c.args.base.now.state.contents (entries c.args.patch.now.state.tiles) put c.args.marks.now marked c.args.bytes.now c.args.id.now is c.in-Some.mark.now c.has_other.result some c.if-mark.false c.has_other.ensures
