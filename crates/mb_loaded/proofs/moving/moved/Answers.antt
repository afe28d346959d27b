use Rattle.mb_loaded.proofs.Common.{arith, refl, with_item, ◌+◌}
use Rattle.mb_loaded.proofs.CopyLemmas.{added, listed_copy}
use Rattle.mb_loaded.proofs.moving.moved.Goals as goal

pub returns-clause-copied : goal.returns-clause-copied
returns-clause-copied c others is given cell =
    let mid = c.add_moved.new.copying in
    let copy = c.in_ok-copy.copy in
    listed_copy others copy c.args.index (copy + 1) c.args.bytes c.args.copying.now mid (record mid { copies = with_item mid.copies c.args.index (copy + 1) }) refl refl (omega arith) cell
    (added others copy c.args.id.now c.args.bytes c.args.copying.now mid is given c.in_ok-copy.ensures)
