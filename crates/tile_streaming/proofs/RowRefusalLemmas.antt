-- What is due of rows by what was found in them.
use Rattle.tile_streaming.proofs.Common.{algorithm_of, algorithm_unknown, ap, AreFindings, Bool, Cell, cell_at, cond, content_kind_wrong, Err, false, Findings, first_refusal, first_refused, has_tile_kinds, hash_wrong}
use Rattle.tile_streaming.proofs.Common.{HashAlgorithm, id_twice, IfOk, InvalidDataFormat, is_free, is_id, IsNamedBy, list_all, List, MbtError, MbtType, name_kind_wrong, name_twice, Named, names_refused}
use Rattle.tile_streaming.proofs.Common.{None, Ok, Option, option_or, place_twice, reference_missing, refl, Result, row_refusals, settled, Some, subst, sym, Tests, then, tile_bad}
use Rattle.tile_streaming.proofs.Common.{tile_kind_wrong, true, unless, unless_found, wrong_content_hash, wrong_tile_hash, [], ◌&&◌, ◌∙◌, ◌∷◌, ◌≡◌}
use Rattle.mb_tables.specs.declared.kind.MbtType.TheVariants.{Cache, Flat, FlatWithHash, Normalized}
use Rattle.tile_streaming.proofs.KnownLemmas.{or_none}

-- the tests in their order, where no id stands twice
chain : (b c d e f g m h j : Option MbtError) → first_refusal (None ∷ b ∷ c ∷ d ∷ e ∷ f ∷ g ∷ m ∷ h ∷ j ∷ []) ≡ option_or (option_or b c) (option_or (option_or (option_or d e) f) (option_or (option_or g (option_or m h)) j))
chain (Some x) c d e f g m h j = refl
chain None (Some x) d e f g m h j = refl
chain None None (Some x) e f g m h j = refl
chain None None None (Some x) f g m h j = refl
chain None None None None (Some x) g m h j = refl
chain None None None None None (Some x) m h j = refl
chain None None None None None None (Some x) h j = refl
chain None None None None None None None (Some x) j = refl
chain None None None None None None None None (Some x) = refl
chain None None None None None None None None None = refl

kinds_both : (tiles ids : Bool) → option_or (unless tiles InvalidDataFormat) (unless ids InvalidDataFormat) ≡ unless (ids && tiles) InvalidDataFormat
kinds_both true true = refl
kinds_both true false = refl
kinds_both false true = refl
kinds_both false false = refl

-- no layout has digests of rows of tiles and of contents
never : {A : Type 0} (xs : List A) → first_refused {A = A} (λ x. None) xs ≡ None
never [] = refl
never (x ∷ xs) = never xs

swap_first : (x y : Option MbtError) → x ≡ None → option_or x y ≡ option_or y x
swap_first x y h = ap (λ o. option_or o y) h ∙ (or_none y ∙ ap (option_or y) (sym h))

one_kind : (layout : MbtType) (a : HashAlgorithm) (contents rows : List (List Cell)) → hash_wrong layout a contents rows ≡ option_or (first_refused (wrong_content_hash layout a) contents) (first_refused (wrong_tile_hash layout a) rows)
one_kind FlatWithHash a contents rows = sym (swap_first (first_refused (wrong_content_hash FlatWithHash a) contents) (first_refused (wrong_tile_hash FlatWithHash a) rows) (never contents))
one_kind Flat a contents rows = swap_first (first_refused (wrong_tile_hash Flat a) rows) (first_refused (wrong_content_hash Flat a) contents) (never rows)
one_kind Cache a contents rows = swap_first (first_refused (wrong_tile_hash Cache a) rows) (first_refused (wrong_content_hash Cache a) contents) (never rows)
one_kind (Normalized view schema) a contents rows = swap_first (first_refused (wrong_tile_hash (Normalized view schema) a) rows) (first_refused (wrong_content_hash (Normalized view schema) a) contents) (never rows)

abbrev pub due : MbtType → List (List Cell) → List (List Cell) → List (List Cell) → Option MbtError
due layout metadata contents rows = first_refusal (row_refusals layout metadata contents rows)

-- an id that stands twice comes first
pub twice_refused : (layout : MbtType) (metadata contents rows : List (List Cell)) (e : MbtError) → id_twice contents ≡ Some e → due layout metadata contents rows ≡ Some e
twice_refused layout metadata contents rows e h = ap (λ o. option_or o (first_refusal (tile_kind_wrong layout rows ∷ content_kind_wrong layout contents ∷ name_kind_wrong metadata ∷ name_twice metadata ∷ algorithm_unknown metadata ∷ tile_bad layout contents rows ∷ reference_missing layout contents rows ∷ hash_wrong layout (algorithm_of metadata) contents rows ∷ place_twice layout contents rows ∷ []))) h

module _ (layout : MbtType) (metadata contents rows : List (List Cell)) (apart : id_twice contents ≡ None) where
  abbrev hash_due : HashAlgorithm → Option MbtError
  hash_due a = option_or (first_refused (wrong_content_hash layout a) contents) (first_refused (wrong_tile_hash layout a) rows)

  -- what is due of findings
  abbrev found_due : Bool → Option MbtError → Option MbtError → Option MbtError → Option MbtError
  found_due kinds bad missing hash = option_or (unless kinds InvalidDataFormat) (option_or (names_refused metadata) (option_or (option_or bad (option_or missing hash)) (place_twice layout contents rows)))

  parts : due layout metadata contents rows ≡ found_due (list_all (λ row. is_id layout (cell_at 0 row)) contents && list_all (has_tile_kinds layout) rows) (tile_bad layout contents rows) (reference_missing layout contents rows) (hash_due (algorithm_of metadata))
  parts =
      let rest = option_or (names_refused metadata) (option_or (option_or (tile_bad layout contents rows) (option_or (reference_missing layout contents rows) (hash_wrong layout (algorithm_of metadata) contents rows))) (place_twice layout contents rows)) in
      ap (λ o. first_refusal (o ∷ tile_kind_wrong layout rows ∷ content_kind_wrong layout contents ∷ name_kind_wrong metadata ∷ name_twice metadata ∷ algorithm_unknown metadata ∷ tile_bad layout contents rows ∷ reference_missing layout contents rows ∷ hash_wrong layout (algorithm_of metadata) contents rows ∷ place_twice layout contents rows ∷ [])) apart
      ∙ (chain (tile_kind_wrong layout rows) (content_kind_wrong layout contents) (name_kind_wrong metadata) (name_twice metadata) (algorithm_unknown metadata) (tile_bad layout contents rows) (reference_missing layout contents rows) (hash_wrong layout (algorithm_of metadata) contents rows) (place_twice layout contents rows)
      ∙ (ap (λ o. option_or o rest) (kinds_both (list_all (has_tile_kinds layout) rows) (list_all (λ row. is_id layout (cell_at 0 row)) contents))
      ∙ ap (found_due (list_all (λ row. is_id layout (cell_at 0 row)) contents && list_all (has_tile_kinds layout) rows) (tile_bad layout contents rows) (reference_missing layout contents rows)) (one_kind layout (algorithm_of metadata) contents rows)))

  module _ (a : HashAlgorithm) (f : Findings) (are : AreFindings layout a contents rows f) where
    by_found : due layout metadata contents rows ≡ found_due f.kinds f.bad f.missing (hash_due (algorithm_of metadata))
    by_found =
        parts
        ∙ (ap (λ b. found_due b (tile_bad layout contents rows) (reference_missing layout contents rows) (hash_due (algorithm_of metadata))) (sym are.kinds)
        ∙ (ap (λ o. found_due f.kinds o (reference_missing layout contents rows) (hash_due (algorithm_of metadata))) (sym are.bad)
        ∙ ap (λ o. found_due f.kinds f.bad o (hash_due (algorithm_of metadata))) (sym are.missing)))

    -- a refusal of the kinds of cells, and of the metadata
    kinds_refuse : f.kinds ≡ false → due layout metadata contents rows ≡ Some InvalidDataFormat
    kinds_refuse k = by_found ∙ ap (λ b. found_due b f.bad f.missing (hash_due (algorithm_of metadata))) k

    names_refuse : (e : MbtError) → f.kinds ≡ true → names_refused metadata ≡ Some e → due layout metadata contents rows ≡ Some e
    names_refuse e k n =
        by_found
        ∙ (ap (λ b. found_due b f.bad f.missing (hash_due (algorithm_of metadata))) k
        ∙ ap (λ o. option_or o (option_or (option_or f.bad (option_or f.missing (hash_due (algorithm_of metadata)))) (place_twice layout contents rows))) n)

    -- behind these
    names_pass : f.kinds ≡ true → names_refused metadata ≡ None → a ≡ algorithm_of metadata → due layout metadata contents rows ≡ option_or (option_or f.bad (option_or f.missing f.hash)) (place_twice layout contents rows)
    names_pass k n same =
        by_found
        ∙ (ap (λ b. found_due b f.bad f.missing (hash_due (algorithm_of metadata))) k
        ∙ (ap (λ o. option_or o (option_or (option_or f.bad (option_or f.missing (hash_due (algorithm_of metadata)))) (place_twice layout contents rows))) n
        ∙ ap (λ o. option_or (option_or f.bad (option_or f.missing o)) (place_twice layout contents rows)) (ap hash_due (sym same) ∙ sym are.hash)))

  module _ (a : HashAlgorithm) (f : Findings) (are : AreFindings layout a contents rows f) where
    -- a refusal that was found is due
    pub settled_err : (named : Result Named MbtError) → Tests (names_refused metadata) named → IfOk named (IsNamedBy metadata) → IfOk named (λ x. a ≡ x.algorithm) → (e : MbtError) → settled f named ≡ Err e → is_free e ≡ false → due layout metadata contents rows ≡ Some e
    settled_err named tests said same e is free = kinds f.kinds refl is
      where
        found : (x : Named) → f.kinds ≡ true → names_refused metadata ≡ None → a ≡ algorithm_of metadata → (o : Option MbtError) → option_or f.bad (option_or f.missing f.hash) ≡ o → unless_found o x ≡ Err e → due layout metadata contents rows ≡ Some e
        found x k n s None g h = absurd (cc)
        found x k n s (Some r) g h =
            let one : r ≡ e = cc in
            names_pass a f are k n s ∙ (ap (λ o. option_or o (place_twice layout contents rows)) g ∙ ap Some one)

        names : f.kinds ≡ true → (r : Result Named MbtError) → Tests (names_refused metadata) r → IfOk r (IsNamedBy metadata) → IfOk r (λ x. a ≡ x.algorithm) → then r (unless_found (option_or f.bad (option_or f.missing f.hash))) ≡ Err e → due layout metadata contents rows ≡ Some e
        names k (Ok x) t s q h = found x k t (q ∙ s.algorithm) (option_or f.bad (option_or f.missing f.hash)) refl h
        names k (Err n) t s q h =
            let one : n ≡ e = cc in
            names_refuse a f are e k (t.0 (ap is_free one ∙ free) ∙ ap Some one)

        kinds : (b : Bool) → f.kinds ≡ b → cond b (then named (unless_found (option_or f.bad (option_or f.missing f.hash)))) (Err InvalidDataFormat) ≡ Err e → due layout metadata contents rows ≡ Some e
        kinds false k h =
            let one : InvalidDataFormat ≡ e = cc in
            kinds_refuse a f are k ∙ ap Some one
        kinds true k h = names k named tests said same h

    -- where none was found, only a place that stands twice refuses the rows
    pub settled_ok : (named : Result Named MbtError) → Tests (names_refused metadata) named → IfOk named (IsNamedBy metadata) → IfOk named (λ x. a ≡ x.algorithm) → (y : Named) → settled f named ≡ Ok y → IsNamedBy metadata y × (due layout metadata contents rows ≡ place_twice layout contents rows)
    settled_ok named tests said same y is = kinds f.kinds refl is
      where
        found : (x : Named) → f.kinds ≡ true → names_refused metadata ≡ None → IsNamedBy metadata x → a ≡ algorithm_of metadata → (o : Option MbtError) → option_or f.bad (option_or f.missing f.hash) ≡ o → unless_found o x ≡ Ok y → IsNamedBy metadata y × (due layout metadata contents rows ≡ place_twice layout contents rows)
        found x k n s q (Some r) g h = absurd (cc)
        found x k n s q None g h =
            let one : x ≡ y = cc in
            (subst (IsNamedBy metadata) one s, names_pass a f are k n q ∙ ap (λ o. option_or o (place_twice layout contents rows)) g)

        names : f.kinds ≡ true → (r : Result Named MbtError) → Tests (names_refused metadata) r → IfOk r (IsNamedBy metadata) → IfOk r (λ x. a ≡ x.algorithm) → then r (unless_found (option_or f.bad (option_or f.missing f.hash))) ≡ Ok y → IsNamedBy metadata y × (due layout metadata contents rows ≡ place_twice layout contents rows)
        names k (Ok x) t s q h = found x k t s (q ∙ s.algorithm) (option_or f.bad (option_or f.missing f.hash)) refl h
        names k (Err n) t s q h = absurd (cc)

        kinds : (b : Bool) → f.kinds ≡ b → cond b (then named (unless_found (option_or f.bad (option_or f.missing f.hash)))) (Err InvalidDataFormat) ≡ Ok y → IsNamedBy metadata y × (due layout metadata contents rows ≡ place_twice layout contents rows)
        kinds false k h = absurd (cc)
        kinds true k h = names k named tests said same h
