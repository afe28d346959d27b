-- Contents that no patch test refuses are free where they are put.
use Rattle.mb_edit.proofs.Common.{ap, Blob, Bool, bytes_eq, bytes_eq-Decides, Cell, cell_cmp, cell_eq, cell_eq-Decides, cells_total, collides, cond, content_entry, Contents, contents_over, digest}
use Rattle.mb_edit.proofs.Common.{false, filter_map, get, has_twin, HashAlgorithm, is_other, List, None, Normalized, NormalizedSchema, not, not-false, Option, option_or, or_parts, refl, Some, sym}
use Rattle.mb_edit.proofs.Common.{Text, true, ℕ, [], ◌&&◌, ◌∙◌, ◌∷◌, ◌≡◌}
use Rattle.std.specs.FinMap as fin
use Rattle.mb_edit.proofs.MarkLemmas.{twin}
use Rattle.mb_edit.proofs.PatchedLemmas.{get-over}

abbrev text_in : Cell → List ℕ
text_in (Text t) = t
text_in _ = []

not_other : (bytes : List ℕ) (o : Option Cell) → is_other bytes o ≡ false → (cell : Cell) → o ≡ Some cell → cell ≡ Blob bytes
not_other bytes None h cell e = cc
not_other bytes (Some c) h cell e =
    let same : c ≡ cell = cc in
    sym same ∙ (cell_eq-Decides c (Blob bytes)).0 (not-false (cell_eq c (Blob bytes)) h)

-- what is found of contents that are put is what was put
module _ (view : Bool) (schema : NormalizedSchema) (a : HashAlgorithm) where
  put_found : (put : List (List ℕ)) (bytes : List ℕ) → has_twin (digest a) put bytes ≡ false → (cell : Cell) → fin.find cell_cmp (Text (digest a bytes)) (filter_map (content_entry (Normalized view schema) a) put) ≡ Some cell → cell ≡ Blob bytes
  put_found [] bytes h cell e = cc
  put_found (b ∷ put) bytes h cell e = by (cell_eq (Text (digest a bytes)) (Text (digest a b))) refl e (λ k. put_found put bytes (or_parts (twin (digest a) bytes b) (has_twin (digest a) put bytes) h).1 cell k)
    where
      by : (x : Bool) → cell_eq (Text (digest a bytes)) (Text (digest a b)) ≡ x → cond x (Some (Blob b)) (fin.find cell_cmp (Text (digest a bytes)) (filter_map (content_entry (Normalized view schema) a) put)) ≡ Some cell → (fin.find cell_cmp (Text (digest a bytes)) (filter_map (content_entry (Normalized view schema) a) put) ≡ Some cell → cell ≡ Blob bytes) → cell ≡ Blob bytes
      by false t e rest = rest e
      by true t e rest =
          let digests : digest a bytes ≡ digest a b = ap text_in ((cell_eq-Decides (Text (digest a bytes)) (Text (digest a b))).0 t) in
          let equal : bytes_eq (digest a b) (digest a bytes) ≡ true = (bytes_eq-Decides (digest a b) (digest a bytes)).1 (sym digests) in
          let none : not (bytes_eq b bytes) ≡ false = ap (λ x. x && not (bytes_eq b bytes)) (sym equal) ∙ (or_parts (twin (digest a) bytes b) (has_twin (digest a) put bytes) h).0 in
          let same : b ≡ bytes = (bytes_eq-Decides b bytes).0 (not-false (bytes_eq b bytes) none) in
          let here : Blob b ≡ cell = cc in
          sym here ∙ ap Blob same

  -- bytes that don't collide have no other contents under their digest, in the set and among those that were put
  pub put_free : (contents : Contents) (put : List (List ℕ)) (bytes : List ℕ) → collides (digest a) contents put bytes ≡ false → (cell : Cell) → get (contents_over (Normalized view schema) a put contents) (Text (digest a bytes)) ≡ Some cell → cell ≡ Blob bytes
  put_free contents put bytes h cell e =
      let two = or_parts (is_other bytes (get contents (Text (digest a bytes)))) (has_twin (digest a) put bytes) h in
      by (fin.find cell_cmp (Text (digest a bytes)) (filter_map (content_entry (Normalized view schema) a) put)) refl (sym (get-over cells_total (filter_map (content_entry (Normalized view schema) a) put) contents (Text (digest a bytes))) ∙ e) two
    where
      by : (o : Option Cell) → fin.find cell_cmp (Text (digest a bytes)) (filter_map (content_entry (Normalized view schema) a) put) ≡ o → option_or o (get contents (Text (digest a bytes))) ≡ Some cell → (is_other bytes (get contents (Text (digest a bytes))) ≡ false) × (has_twin (digest a) put bytes ≡ false) → cell ≡ Blob bytes
      by (Some c) f e two = put_found put bytes two.1 cell (f ∙ e)
      by None f e two = not_other bytes (get contents (Text (digest a bytes))) two.0 cell e
