-- Loading never answers a fault of a tree.
use Rattle.mb_tree.proofs.Common.{algorithm_named, algorithm_of, algorithm_unknown, ap, are_distinct, Blob, Bool, bytes_eq, Cell, cell_at, cell_eq, contents_of, digest, Err, false, false≢true}
use Rattle.mb_tree.proofs.Common.{filter_map, first_refusal, first_refused, FlatWithHash, IncorrectTileHash, index_missing, InvalidDataFormat, InvalidTileIndex, is_free, is_keyed, is_metadata}
use Rattle.mb_tree.proofs.Common.{is_null, is_some, is_tree_fault, is_wanting, layout_of, List, list_all, list_any, Loads, map, MbtError, MbtType, Metadata, metadata_missing, MissingTileReference}
use Rattle.mb_tree.proofs.Common.{name_twice, None, Normalized, NoUniquenessConstraint, Ok, Option, option_and_then, option_or, or_left, place_cmp, refl, Result, Some, State, state_of, stated}
use Rattle.mb_tree.proofs.Common.{stored_algorithm, sym, Tables, Text, tile_of, tile_table, TreeFault, true, unknown_name, unless, unless_refused, UnsupportedHashAlgorithm, ℕ, [], ◌||◌, ◌∙◌, ◌∷◌, ◌≡◌}
use Rattle.mb_tree.proofs.Common.{◌≢◌}
use Rattle.std.specs.Char.{to_ascii_uppercase}
use Rattle.mb_constraints.specs.Hashes.{hash_wrong, wrong_content_hash, wrong_hash, wrong_tile_hash}
use Rattle.mb_constraints.specs.References.{id_text, missing_reference, reference_missing}
use Rattle.mb_constraints.specs.TileRows.{bad_tile, contents_in, place_twice, tile_bad, tile_in}
use Rattle.mb_lists.specs.Contents.{are_apart, content_rows, fronts, id_twice}
use Rattle.mb_load.specs.LoadingOrder.{refusals}
use Rattle.mb_tables.specs.CellKinds.{content_kind_wrong, has_name_kinds, has_tile_kinds, is_id, name_kind_wrong, tile_kind_wrong}
use Rattle.mb_tables.specs.declared.kind.NormalizedSchema.TheVariants.{Hash}
use Rattle.tile_hash.specs.declared.algorithm.HashAlgorithm.{HashAlgorithm}

abbrev pub tree_in : Option MbtError → Bool
tree_in (Some e) = is_tree_fault e
tree_in None = false

abbrev tree_of : Result State MbtError → Bool
tree_of (Ok s) = false
tree_of (Err e) = is_tree_fault e

pub unless_no : (b : Bool) (e : MbtError) → is_tree_fault e ≡ false → tree_in (unless b e) ≡ false
unless_no true e h = refl
unless_no false e h = h

or_no : (o p : Option MbtError) → tree_in o ≡ false → tree_in p ≡ false → tree_in (option_or o p) ≡ false
or_no (Some e) p h k = h
or_no None p h k = k

pub first_no : {A : Type 0} (test : A → Option MbtError) → ((x : A) → tree_in (test x) ≡ false) → (xs : List A) → tree_in (first_refused test xs) ≡ false
first_no test h [] = refl
first_no test h (x ∷ xs) = or_no (test x) (first_refused test xs) (h x) (first_no test h xs)

unknown_no : (o : Option (List ℕ)) → tree_in (unknown_name o) ≡ false
unknown_no None = refl
unknown_no (Some name) = unless_no (is_some (algorithm_named name)) (UnsupportedHashAlgorithm name) refl

bad_by : (row : List Cell) (o : Option Cell) → tree_in (option_and_then (λ cell. unless (is_some (tile_of row cell)) (InvalidTileIndex (cell_at 0 row) (cell_at 1 row) (cell_at 2 row))) o) ≡ false
bad_by row None = refl
bad_by row (Some cell) = unless_no (is_some (tile_of row cell)) (InvalidTileIndex (cell_at 0 row) (cell_at 1 row) (cell_at 2 row)) refl

bad_no : (layout : MbtType) (contents : List (List Cell)) (row : List Cell) → tree_in (bad_tile layout contents row) ≡ false
bad_no layout contents row = bad_by row (contents_in layout contents row)

missing_no : (layout : MbtType) (contents : List (List Cell)) (row : List Cell) → tree_in (missing_reference layout contents row) ≡ false
missing_no (Normalized view schema) contents row = unless_no (is_null (cell_at 3 row) || list_any (λ c. cell_eq (cell_at 0 c) (cell_at 3 row)) contents) (MissingTileReference (id_text (cell_at 3 row)) (contents_of schema)) refl
missing_no _ contents row = refl

hash_no : (a : HashAlgorithm) (c d : Cell) → tree_in (wrong_hash a c d) ≡ false
hash_no a (Blob bytes) (Text stored) = unless_no (bytes_eq (map to_ascii_uppercase stored) (digest a bytes)) (IncorrectTileHash (map to_ascii_uppercase stored) (digest a bytes)) refl
hash_no a _ _ = refl

tile_hash_no : (layout : MbtType) (a : HashAlgorithm) (row : List Cell) → tree_in (wrong_tile_hash layout a row) ≡ false
tile_hash_no FlatWithHash a row = hash_no a (cell_at 3 row) (cell_at 4 row)
tile_hash_no _ a row = refl

content_hash_no : (layout : MbtType) (a : HashAlgorithm) (row : List Cell) → tree_in (wrong_content_hash layout a row) ≡ false
content_hash_no (Normalized view Hash) a row = hash_no a (cell_at 1 row) (cell_at 0 row)
content_hash_no _ a row = refl

pub none_of : (r : Option MbtError) (rs : List (Option MbtError)) → tree_in r ≡ false → tree_in (first_refusal rs) ≡ false → tree_in (first_refusal (r ∷ rs)) ≡ false
none_of r rs h k = or_no r (first_refusal rs) h k

module _ (layout : MbtType) where
  abbrev rows : Tables → List (List Cell)
  rows t = t.rows (tile_table layout)

  abbrev held : Tables → List (List Cell)
  held t = content_rows layout t

  -- the refusals from one on
  abbrev from_12 : Tables → List (Option MbtError)
  from_12 t = []

  abbrev from_11 : Tables → List (Option MbtError)
  from_11 t = place_twice layout (held t) (rows t) ∷ from_12 t

  abbrev from_10 : Tables → List (Option MbtError)
  from_10 t = hash_wrong layout (algorithm_of (t.rows Metadata)) (held t) (rows t) ∷ from_11 t

  abbrev from_9 : Tables → List (Option MbtError)
  from_9 t = reference_missing layout (held t) (rows t) ∷ from_10 t

  abbrev from_8 : Tables → List (Option MbtError)
  from_8 t = tile_bad layout (held t) (rows t) ∷ from_9 t

  abbrev from_7 : Tables → List (Option MbtError)
  from_7 t = algorithm_unknown (t.rows Metadata) ∷ from_8 t

  abbrev from_6 : Tables → List (Option MbtError)
  from_6 t = name_twice (t.rows Metadata) ∷ from_7 t

  abbrev from_5 : Tables → List (Option MbtError)
  from_5 t = name_kind_wrong (t.rows Metadata) ∷ from_6 t

  abbrev from_4 : Tables → List (Option MbtError)
  from_4 t = content_kind_wrong layout (held t) ∷ from_5 t

  abbrev from_3 : Tables → List (Option MbtError)
  from_3 t = tile_kind_wrong layout (rows t) ∷ from_4 t

  abbrev from_2 : Tables → List (Option MbtError)
  from_2 t = id_twice (held t) ∷ from_3 t

  abbrev from_1 : Tables → List (Option MbtError)
  from_1 t = index_missing t.descriptions layout ∷ from_2 t

  abbrev from_0 : Tables → List (Option MbtError)
  from_0 t = metadata_missing t.descriptions ∷ from_1 t

  no_11 : (t : Tables) → tree_in (first_refusal (from_11 t)) ≡ false
  no_11 t = none_of (place_twice layout (held t) (rows t)) (from_12 t) (unless_no (are_distinct place_cmp (map (λ tile. tile.0) (filter_map (tile_in layout (held t)) (rows t)))) NoUniquenessConstraint refl) refl

  no_10 : (t : Tables) → tree_in (first_refusal (from_10 t)) ≡ false
  no_10 t = none_of (hash_wrong layout (algorithm_of (t.rows Metadata)) (held t) (rows t)) (from_11 t) (or_no (first_refused (wrong_tile_hash layout (algorithm_of (t.rows Metadata))) (rows t)) (first_refused (wrong_content_hash layout (algorithm_of (t.rows Metadata))) (held t))
      (first_no (wrong_tile_hash layout (algorithm_of (t.rows Metadata))) (tile_hash_no layout (algorithm_of (t.rows Metadata))) (rows t))
      (first_no (wrong_content_hash layout (algorithm_of (t.rows Metadata))) (content_hash_no layout (algorithm_of (t.rows Metadata))) (held t))) (no_11 t)

  no_9 : (t : Tables) → tree_in (first_refusal (from_9 t)) ≡ false
  no_9 t = none_of (reference_missing layout (held t) (rows t)) (from_10 t) (first_no (missing_reference layout (held t)) (missing_no layout (held t)) (rows t)) (no_10 t)

  no_8 : (t : Tables) → tree_in (first_refusal (from_8 t)) ≡ false
  no_8 t = none_of (tile_bad layout (held t) (rows t)) (from_9 t) (first_no (bad_tile layout (held t)) (bad_no layout (held t)) (rows t)) (no_9 t)

  no_7 : (t : Tables) → tree_in (first_refusal (from_7 t)) ≡ false
  no_7 t = none_of (algorithm_unknown (t.rows Metadata)) (from_8 t) (unknown_no (stored_algorithm (t.rows Metadata))) (no_8 t)

  no_6 : (t : Tables) → tree_in (first_refusal (from_6 t)) ≡ false
  no_6 t = none_of (name_twice (t.rows Metadata)) (from_7 t) (unless_no (are_apart (fronts (t.rows Metadata))) InvalidDataFormat refl) (no_7 t)

  no_5 : (t : Tables) → tree_in (first_refusal (from_5 t)) ≡ false
  no_5 t = none_of (name_kind_wrong (t.rows Metadata)) (from_6 t) (unless_no (list_all has_name_kinds (t.rows Metadata)) InvalidDataFormat refl) (no_6 t)

  no_4 : (t : Tables) → tree_in (first_refusal (from_4 t)) ≡ false
  no_4 t = none_of (content_kind_wrong layout (held t)) (from_5 t) (unless_no (list_all (λ row. is_id layout (cell_at 0 row)) (held t)) InvalidDataFormat refl) (no_5 t)

  no_3 : (t : Tables) → tree_in (first_refusal (from_3 t)) ≡ false
  no_3 t = none_of (tile_kind_wrong layout (rows t)) (from_4 t) (unless_no (list_all (has_tile_kinds layout) (rows t)) InvalidDataFormat refl) (no_4 t)

  no_2 : (t : Tables) → tree_in (first_refusal (from_2 t)) ≡ false
  no_2 t = none_of (id_twice (held t)) (from_3 t) (unless_no (are_apart (fronts (held t))) NoUniquenessConstraint refl) (no_3 t)

  no_1 : (t : Tables) → tree_in (first_refusal (from_1 t)) ≡ false
  no_1 t = none_of (index_missing t.descriptions layout) (from_2 t) (unless_no (is_keyed t.descriptions (tile_table layout)) NoUniquenessConstraint refl) (no_2 t)

  no_0 : (t : Tables) → tree_in (first_refusal (from_0 t)) ≡ false
  no_0 t = none_of (metadata_missing t.descriptions) (from_1 t) (unless_no (list_any is_metadata t.descriptions) InvalidDataFormat refl) (no_1 t)

none_refuses : (layout : MbtType) (t : Tables) → tree_in (first_refusal (refusals layout t)) ≡ false
none_refuses layout t = no_0 layout t

stated_no : (t : Tables) (o : Option MbtType) → tree_of (stated o t) ≡ false
stated_no t None = refl
stated_no t (Some layout) = by (first_refusal (refusals layout t)) (none_refuses layout t)
  where
    by : (o : Option MbtError) → tree_in o ≡ false → tree_of (unless_refused layout t o) ≡ false
    by None h = refl
    by (Some e) h = h

pub never_tree : (t : Tables) → state_of t ≡ Err TreeFault → ⊥
never_tree t h = false≢true (sym (stated_no t (layout_of t.descriptions)) ∙ ap tree_of h)

-- an answer that none was wanting for isn't free
left_false : (a b : Bool) → (a || b) ≡ false → a ≡ false
left_false true b h = absurd (false≢true (sym h))
left_false false b h = refl

pub not_free : (e : MbtError) → is_wanting e ≡ false → is_free e ≡ false
not_free e h = left_false (is_free e) (is_tree_fault e) h

pub free_wanting : (e : MbtError) → is_free e ≡ true → is_wanting e ≡ true
free_wanting e h = or_left (is_free e) (is_tree_fault e) h

-- so that a tree's count need not have risen
pub no_tree_fault : {A X : Type 0} (r : Result A MbtError) (e : MbtError) → r ≡ Err e → ((t : Tables) × Loads (state_of t) (Err e)) → r ≡ Err TreeFault → X
no_tree_fault r e is own fault =
    let same : e ≡ TreeFault = err_same r e TreeFault is fault in
    absurd (never_tree own.0 (own.1 (ap is_free same) ∙ ap Err same))
  where
    err_same : {A : Type 0} (r : Result A MbtError) (e f : MbtError) → r ≡ Err e → r ≡ Err f → e ≡ f
    err_same r e f h k = cc

pub not_tree : (e : MbtError) → ((t : Tables) × Loads (state_of t) (Err e)) → e ≢ TreeFault
not_tree e own f = never_tree own.0 (own.1 (ap is_free f) ∙ ap Err f)
