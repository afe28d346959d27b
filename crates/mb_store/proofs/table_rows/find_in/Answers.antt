use Rattle.mb_store.proofs.Common.{Cell, IfOk, List, Option, subst, sym, ◌≡◌}
use Rattle.mb_store.proofs.StoredLemmas.{key_found_in}
use Rattle.mb_store.proofs.table_rows.find_in.Goals as goal

pub returns : goal.returns
returns c =
    subst (λ (x : Option (List Cell)). IfOk c.copy_of.result (λ r. r ≡ x)) (sym (key_found_in c.args.table c.args.rows.now c.requires c.args.key.now c.in_ok-key.key c.in_ok-key.ensures c.first_early.result c.first_early.ensures)) c.copy_of.ensures
