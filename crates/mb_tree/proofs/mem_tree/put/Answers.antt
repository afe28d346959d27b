use Rattle.mb_tree.proofs.Common.{ap₂, files_of_list, insert, ◌∙◌}
use Rattle.mb_tree.proofs.MemTreeLemmas.{put_is}
use Rattle.mb_tree.proofs.mem_tree.put.Goals as goal

pub returns-clause-ok : goal.returns-clause-ok
returns-clause-ok c =
    put_is c.args.files.now c.insert.new.self c.in_ok-path.path c.new-bytes.result c.in_ok-insert.ensures.updates
    ∙ ap₂ (λ path bytes. insert (files_of_list c.args.files.now.entries) path bytes) c.in_ok-path.ensures (c.new-bytes.ensures ∙ c.in_ok-from_slice.ensures.items)
