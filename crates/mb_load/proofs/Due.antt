-- What is due of rows, by the first part of the tests that refuses.
use Rattle.mb_load.proofs.Common.{algorithm_of, algorithm_unknown, ap, Cell, content_kind_wrong, due_by, Err, hash_wrong, HashAlgorithm, held_by, id_twice, List, MbtError, MbtType, name_kind_wrong}
use Rattle.mb_load.proofs.Common.{name_twice, None, Option, option_or, PatchType, place_twice, reference_missing, rows_due, Some, sym, tile_bad, tile_kind_wrong, ◌∙◌, ◌≡◌}
use Rattle.mb_lists.proofs.Chain.{first_part, fourth_part, last_part, second_part, third_part}

-- the parts of the tests
abbrev pub ids_due : MbtType → List (List Cell) → List (List Cell) → Option MbtError
ids_due layout ids rows = option_or (id_twice ids) (option_or (tile_kind_wrong layout rows) (content_kind_wrong layout ids))

abbrev pub names_due : List (List Cell) → Option MbtError
names_due metadata = option_or (name_kind_wrong metadata) (name_twice metadata)

abbrev pub tests_due : MbtType → HashAlgorithm → List (List Cell) → List (List Cell) → Option MbtError
tests_due layout algorithm ids rows = option_or (tile_bad layout ids rows) (option_or (reference_missing layout ids rows) (hash_wrong layout algorithm ids rows))

module _ (layout : MbtType) (patch_type : Option PatchType) (metadata ids rows : List (List Cell)) where
  pub due_ids : (e : MbtError) → ids_due layout ids rows ≡ Some e → rows_due layout patch_type metadata ids rows ≡ Err e
  due_ids e h = ap (due_by (held_by layout patch_type metadata ids rows)) (first_part (id_twice ids) (tile_kind_wrong layout rows) (content_kind_wrong layout ids) (name_kind_wrong metadata) (name_twice metadata) (algorithm_unknown metadata) (tile_bad layout ids rows) (reference_missing layout ids rows) (hash_wrong layout (algorithm_of metadata) ids rows) (place_twice layout ids rows) e h)

  pub due_names : (e : MbtError) → ids_due layout ids rows ≡ None → names_due metadata ≡ Some e → rows_due layout patch_type metadata ids rows ≡ Err e
  due_names e p h = ap (due_by (held_by layout patch_type metadata ids rows)) (second_part (id_twice ids) (tile_kind_wrong layout rows) (content_kind_wrong layout ids) (name_kind_wrong metadata) (name_twice metadata) (algorithm_unknown metadata) (tile_bad layout ids rows) (reference_missing layout ids rows) (hash_wrong layout (algorithm_of metadata) ids rows) (place_twice layout ids rows) p e h)

  pub due_algorithm : (e : MbtError) → ids_due layout ids rows ≡ None → names_due metadata ≡ None → algorithm_unknown metadata ≡ Some e → rows_due layout patch_type metadata ids rows ≡ Err e
  due_algorithm e p q h = ap (due_by (held_by layout patch_type metadata ids rows)) (third_part (id_twice ids) (tile_kind_wrong layout rows) (content_kind_wrong layout ids) (name_kind_wrong metadata) (name_twice metadata) (algorithm_unknown metadata) (tile_bad layout ids rows) (reference_missing layout ids rows) (hash_wrong layout (algorithm_of metadata) ids rows) (place_twice layout ids rows) p q e h)

  moved : (algorithm : HashAlgorithm) (ids' : List (List Cell)) → algorithm ≡ algorithm_of metadata → ids' ≡ ids → tests_due layout (algorithm_of metadata) ids rows ≡ tests_due layout algorithm ids' rows
  moved algorithm ids' a i = sym (ap (λ x. tests_due layout x ids' rows) a ∙ ap (λ x. tests_due layout (algorithm_of metadata) x rows) i)

  pub due_tests : (algorithm : HashAlgorithm) (ids' : List (List Cell)) (e : MbtError) → algorithm ≡ algorithm_of metadata → ids' ≡ ids → ids_due layout ids rows ≡ None → names_due metadata ≡ None → algorithm_unknown metadata ≡ None → tests_due layout algorithm ids' rows ≡ Some e → rows_due layout patch_type metadata ids rows ≡ Err e
  due_tests algorithm ids' e a i p q r h = ap (due_by (held_by layout patch_type metadata ids rows)) (fourth_part (id_twice ids) (tile_kind_wrong layout rows) (content_kind_wrong layout ids) (name_kind_wrong metadata) (name_twice metadata) (algorithm_unknown metadata) (tile_bad layout ids rows) (reference_missing layout ids rows) (hash_wrong layout (algorithm_of metadata) ids rows) (place_twice layout ids rows) p q r e (moved algorithm ids' a i ∙ h))

  pub due_places : (algorithm : HashAlgorithm) (ids' : List (List Cell)) → algorithm ≡ algorithm_of metadata → ids' ≡ ids → ids_due layout ids rows ≡ None → names_due metadata ≡ None → algorithm_unknown metadata ≡ None → tests_due layout algorithm ids' rows ≡ None → rows_due layout patch_type metadata ids rows ≡ due_by (held_by layout patch_type metadata ids rows) (place_twice layout ids rows)
  due_places algorithm ids' a i p q r h = ap (due_by (held_by layout patch_type metadata ids rows)) (last_part (id_twice ids) (tile_kind_wrong layout rows) (content_kind_wrong layout ids) (name_kind_wrong metadata) (name_twice metadata) (algorithm_unknown metadata) (tile_bad layout ids rows) (reference_missing layout ids rows) (hash_wrong layout (algorithm_of metadata) ids rows) (place_twice layout ids rows) p q r (moved algorithm ids' a i ∙ h))
