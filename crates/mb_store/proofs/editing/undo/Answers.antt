use Rattle.mb_store.proofs.Common.{nat_lt, refl, rules, Stored}
use Rattle.std.proofs.lemmas.Fn.{filter_same}
use Rattle.mb_store.proofs.EditLemmas.{stored_filtered}
use Rattle.mb_store.proofs.editing.undo.Goals as goal

pub returns-clause-rows : goal.returns-clause-rows
returns-clause-rows c = filter_same _ (λ (s : Stored). nat_lt s.1 c.args.start) _ (λ x b f' k. search rules) _ _ c.retain.ensures.filtered

pub returns-clause-stored : goal.returns-clause-stored
returns-clause-stored c = stored_filtered c.args.table (λ (s : Stored). nat_lt s.1 c.args.start) c.args.rows.now (record c.args.rows.now { stored = c.retain.new.self })
    (filter_same _ (λ (s : Stored). nat_lt s.1 c.args.start) _ (λ x b f' k. search rules) _ _ c.retain.ensures.filtered) refl c.requires
