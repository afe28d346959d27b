-- Making the edits that are left gives what making all gives.
use Rattle.mb_metadata.proofs.Common.{held_edited, ◌≡◌}
use Rattle.std.specs.Vec.Iter.{into_iter_items}
use Rattle.mb_metadata.proofs.name_edits.after_edits.Given as goal

abbrev pub invariant-loop-edit : goal.invariant-loop-edit
invariant-loop-edit l = held_edited l.editing (into_iter_items l.edit-iterator) ≡ held_edited l.fn.set l.fn.edits.items
