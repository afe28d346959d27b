use Rattle.mb_copy.proofs.ClearedLemmas.{settled_as}
use Rattle.mb_copy.proofs.NameStateLemmas.{names_are}
use Rattle.mb_copy.proofs.Common.{Held, held_with_names}
use Rattle.mb_copy.proofs.names.with_names.Goals as goal

pub returns : goal.returns
returns c =
    settled_as (λ (h : Held). h) c.settle.result c.put_text-2.new.set (held_with_names c.args.copier.now c.args.made c.args.set c.args.put.now.state.metadata)
    (names_are c.args.copier.now c.args.made c.args.set c.edit-editing.result c.put_names.new.set c.put_text.new.set c.put_text-2.new.set c.args.put.now.state.metadata c.in_ok-hash.hash c.in_ok-algorithm.algorithm c.algorithm.result
    c.edit-editing.ensures c.in_ok-put_names.ensures c.in_ok-put_text.ensures c.in_ok-put_text-2.ensures c.in_ok-hash.ensures c.in_ok-algorithm.ensures c.algorithm.ensures)
    c.settle.ensures
