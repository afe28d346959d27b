use Rattle.mb_loaded.proofs.Common.{ap, arith, refl, slice_get-get_or, Some, sym, with_item, ◌+◌, ◌-◌, ◌∙◌}
use Rattle.mb_loaded.proofs.CopyLemmas.{added, known_copy, listed_copy}
use Rattle.mb_loaded.proofs.copying.copied.Goals as goal

pub returns-then-known-gt0 : goal.returns-then-known-gt0
returns-then-known-gt0 c others is cell =
    let l = c.args.copying.now in
    let n = c.index-known.result.now in
    known_copy others (n - 1) c.args.index n c.args.bytes.now l is (slice_get-get_or l.copies.items c.args.index n c.requires.within ∙ ap Some (sym c.index-known.ensures)) (omega (arith, c.if-known-gt0.true)) cell

pub returns : goal.returns
returns c others is cell =
    let mid = c.add_copy.new.copying in
    let copy = c.in_ok-copy.copy in
    listed_copy others copy c.args.index (copy + 1) c.args.bytes.now c.args.copying.now mid (record mid { copies = with_item mid.copies c.args.index (copy + 1) }) refl refl (omega arith) cell
    (added others copy c.args.id.now c.args.bytes.now c.args.copying.now mid is c.requires.id c.in_ok-copy.ensures)
