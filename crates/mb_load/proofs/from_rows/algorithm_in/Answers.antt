use Rattle.mb_load.proofs.Common.{algorithm_by, IfOk, List, Option, subst, Tests, unknown_name, ℕ, ◌∙◌, ◌≡◌}
use Rattle.mb_constraints.proofs.AlgorithmLemmas.{stored_is}
use Rattle.mb_load.proofs.from_rows.algorithm_in.Goals as goal

pub returns-clause-tests : goal.returns-clause-tests
returns-clause-tests c = λ metadata same. subst (λ (o : Option (List ℕ)). Tests (unknown_name o) c.algorithm_by.result) (c.text_under.ensures ∙ stored_is c.args.names.now.items.items metadata same) c.algorithm_by.ensures.tests

pub returns-clause-algorithm : goal.returns-clause-algorithm
returns-clause-algorithm c = λ metadata same. subst (λ (o : Option (List ℕ)). IfOk c.algorithm_by.result (λ a. a ≡ algorithm_by o)) (c.text_under.ensures ∙ stored_is c.args.names.now.items.items metadata same) c.algorithm_by.ensures.algorithm
