use Rattle.tile_streaming.proofs.Common.{adds_of, All, CanBeWritten, HaveLengths, IsStored, List, overflow_of, stored_in, subst, sym, WrittenLeaves, ℕ, ◌∙◌, ap}
use Rattle.tile_streaming.specs.Part.{part_in}
use Rattle.tile_streaming.proofs.writing.write_part.Goals as goal

pub write_marked-requires-clause-size : goal.write_marked-requires-clause-size
write_marked-requires-clause-size g c =
    let is = c.chosen_marks-marks.ensures (part_in c.args.part.now c.args.set.now.marked) c.requires.kept in
    ap overflow_of is ∙ c.requires.size

pub write_marked-requires-clause-can : goal.write_marked-requires-clause-can
write_marked-requires-clause-can g c =
    let is = c.chosen_marks-marks.ensures (part_in c.args.part.now c.args.set.now.marked) c.requires.kept in
    subst (λ marks. (contents : List (List ℕ)) → HaveLengths marks contents → CanBeWritten c.args.options.now (adds_of marks contents)) (sym is) c.requires.can

pub write_marked-requires-clause-stored : goal.write_marked-requires-clause-stored
write_marked-requires-clause-stored g c = λ u.
    let is = c.chosen_marks-marks.ensures (part_in c.args.part.now c.args.set.now.marked) c.requires.kept in
    subst (All (IsStored (stored_in c.args.set.now (g.S.TileStore.told c.args.store.now)))) (sym is) (c.requires.stored u)

pub returns-clause-leaves : goal.returns-clause-leaves
returns-clause-leaves g c =
    let is = c.chosen_marks-marks.ensures (part_in c.args.part.now c.args.set.now.marked) c.requires.kept in
    subst (λ marks. WrittenLeaves c.args.options.now (g.S.TileStore.tells c.args.store.now) (stored_in c.args.set.now (g.S.TileStore.told c.args.store.now)) marks (g.M.Backend.told c.args.medium.now) (g.M.Backend.told c.write_marked.new.medium) c.write_marked.result) is c.write_marked.ensures.leaves
