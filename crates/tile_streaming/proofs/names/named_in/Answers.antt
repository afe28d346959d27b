use Rattle.mb_constraints.specs.Algorithm.{algorithm_by}
use Rattle.tile_streaming.proofs.Common.{ap, codes, Err, HashAlgorithm, List, Names, Ok, option_copied, Option, stored_algorithm, subst, text_at, Tests, unknown_name, ℕ, ◌∙◌, ◌≡◌}
use Rattle.tile_streaming.proofs.NameLemmas.{algorithm_stored, behind_names}
use Rattle.tile_streaming.proofs.names.named_in.Goals as goal

pub returns-in-Ok-clause-tests : goal.returns-in-Ok-clause-tests
returns-in-Ok-clause-tests c =
    let stored : option_copied c.text.result ≡ stored_algorithm c.args.rows.items = c.text.ensures ∙ (ap (λ (m : Names). text_at m (codes "hash_algorithm")) c.in_ok-names.ensures.names ∙ algorithm_stored c.args.rows.items) in
    behind_names {A = HashAlgorithm} c.args.rows.items (Ok c.in-Ok.algorithm) c.in_ok-names.ensures.tests (subst (λ (o : Option (List ℕ)). Tests {A = HashAlgorithm} (unknown_name o) (Ok c.in-Ok.algorithm)) stored c.in-Ok.ensures.tests)

pub returns-in-Ok-clause-named : goal.returns-in-Ok-clause-named
returns-in-Ok-clause-named c =
    let stored : option_copied c.text.result ≡ stored_algorithm c.args.rows.items = c.text.ensures ∙ (ap (λ (m : Names). text_at m (codes "hash_algorithm")) c.in_ok-names.ensures.names ∙ algorithm_stored c.args.rows.items) in
    record { algorithm = c.in-Ok.ensures.algorithm ∙ ap algorithm_by stored; names = c.in_ok-names.ensures.names }

pub returns-in-Err-clause-tests : goal.returns-in-Err-clause-tests
returns-in-Err-clause-tests c =
    let stored : option_copied c.text.result ≡ stored_algorithm c.args.rows.items = c.text.ensures ∙ (ap (λ (m : Names). text_at m (codes "hash_algorithm")) c.in_ok-names.ensures.names ∙ algorithm_stored c.args.rows.items) in
    behind_names {A = HashAlgorithm} c.args.rows.items (Err c.in-Err.refusal) c.in_ok-names.ensures.tests (subst (λ (o : Option (List ℕ)). Tests {A = HashAlgorithm} (unknown_name o) (Err c.in-Err.refusal)) stored c.in-Err.ensures.tests)
