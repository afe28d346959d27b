-- Contents that a patch puts under their digests.
use Rattle.tile_streaming.proofs.Common.{ap, Bool, Cell, cond, cons_option, entries, false, false≢true, filter_map, find, get, Has, HashAlgorithm, inl, inr, is_some, List, MbtType, None, none-some, Ok, Option, option_map, Place, place_cmp, refl, same_Some, Some, subst, sym, TileSet, true, ℕ, [], ◌∙◌, ◌∷◌, ◌≡◌}
use Rattle.mb_edit.proofs.PatchedLemmas.{get-patched_by}
use Rattle.mb_edit.specs.Collision.{is_other}
use Rattle.mb_edit.specs.Common.{Blob, cell_cmp, cell_eq, digest, FinMap, id_for, is_named, Text}
use Rattle.mb_edit.specs.Patched.{patched_at, patched_by}
use Rattle.mb_edit.specs.Step.{content_entry}
use Rattle.mb_load.proofs.EditedFrom.{named_at}
use Rattle.mb_tables.proofs.CellLemmas.{cell_eq-Decides}
use Rattle.std.proofs.lemmas.Bool.{not-false}
use Rattle.std.specs.FinMap as fin
use Rattle.tile_streaming.proofs.StoredLemmas.{has_there, there_has}
use Rattle.tile_streaming.specs.Layouts.{has_digests}
use Rattle.mb_tables.specs.declared.kind.MbtType.TheVariants.{Cache, Flat, FlatWithHash, Normalized}
use Rattle.mb_tables.specs.declared.kind.NormalizedSchema.TheVariants.{DedupId, Hash}

-- the tiles of a patch
abbrev pub Entry : Type 0
Entry = Place × Option (List ℕ)

-- the id of bytes where contents stand under their digests
pub given_id : (l : MbtType) (a : HashAlgorithm) (bytes : List ℕ) → has_digests l ≡ true → id_for l a bytes ≡ Some (Text (digest a bytes))
given_id (Normalized view Hash) a bytes h = refl
given_id (Normalized view DedupId) a bytes h = absurd (false≢true h)
given_id Flat a bytes h = absurd (false≢true h)
given_id FlatWithHash a bytes h = absurd (false≢true h)
given_id Cache a bytes h = absurd (false≢true h)

-- a cell that isn't other than bytes
pub not_other : (bytes : List ℕ) (o : Option Cell) (cell : Cell) → is_other bytes o ≡ false → o ≡ Some cell → cell ≡ Blob bytes
not_other bytes None cell h e = absurd (none-some cell e)
not_other bytes (Some c) cell h e = sym (same_Some c cell e) ∙ (cell_eq-Decides c (Blob bytes)).0 (not-false (cell_eq c (Blob bytes)) h)

-- a content that is put, with the tile that has it
pub record IsPut (a : HashAlgorithm) (es : List Entry) (id cell : Cell) : Type 0 where
  pub place : Place
  pub bytes : List ℕ
  pub there : Has (place, Some bytes) es
  pub is_id : Text (digest a bytes) ≡ id
  pub is_cell : cell ≡ Blob bytes

-- the bytes that tiles put
abbrev pub put_of : List Entry → List (List ℕ)
put_of es = filter_map (λ e. e.1) es

module _ (l : MbtType) (a : HashAlgorithm) (digests : has_digests l ≡ true) where
  -- the contents that are put under an id
  abbrev pub put_under : Cell → List Entry → Option Cell
  put_under id es = fin.find cell_cmp id (filter_map (content_entry l a) (put_of es))

  -- of one tile more
  put_more : (id : Cell) (p : Place) (bytes : List ℕ) (es : List Entry) → put_under id ((p, Some bytes) ∷ es) ≡ cond (cell_eq id (Text (digest a bytes))) (Some (Blob bytes)) (put_under id es)
  put_more id p bytes es = ap (λ o. fin.find cell_cmp id (cons_option (option_map (λ i. (i, Blob bytes)) o) (filter_map (content_entry l a) (put_of es)))) (given_id l a bytes digests)

  pub put_has : (id cell : Cell) (es : List Entry) → put_under id es ≡ Some cell → IsPut a es id cell
  put_has id cell [] h = absurd (none-some cell h)
  put_has id cell ((p, None) ∷ es) h = let rest = put_has id cell es h in record { place = rest.place; bytes = rest.bytes; there = inr rest.there; is_id = rest.is_id; is_cell = rest.is_cell }
  put_has id cell ((p, Some bytes) ∷ es) h = by (cell_eq id (Text (digest a bytes))) refl (sym (put_more id p bytes es) ∙ h) (put_has id cell es)
    where
      by : (b : Bool) → cell_eq id (Text (digest a bytes)) ≡ b → cond b (Some (Blob bytes)) (put_under id es) ≡ Some cell → (put_under id es ≡ Some cell → IsPut a es id cell) → IsPut a ((p, Some bytes) ∷ es) id cell
      by true e k later = record { place = p; bytes = bytes; there = inl refl; is_id = sym ((cell_eq-Decides id (Text (digest a bytes))).0 e); is_cell = sym (same_Some (Blob bytes) cell k) }
      by false e k later = let rest = later k in record { place = rest.place; bytes = rest.bytes; there = inr rest.there; is_id = rest.is_id; is_cell = rest.is_cell }

  pub has_put : (p : Place) (bytes : List ℕ) (es : List Entry) → Has (p, Some bytes) es → is_some (put_under (Text (digest a bytes)) es) ≡ true
  has_put p bytes [] h = absurd h
  has_put p bytes (e ∷ es) (inl is) = subst (λ (x : Entry). is_some (put_under (Text (digest a bytes)) (x ∷ es)) ≡ true) (sym is) (ap is_some (put_more (Text (digest a bytes)) p bytes es ∙ ap (λ b. cond b (Some (Blob bytes)) (put_under (Text (digest a bytes)) es)) ((cell_eq-Decides (Text (digest a bytes)) (Text (digest a bytes))).1 refl)))
  has_put p bytes ((q, None) ∷ es) (inr h) = has_put p bytes es h
  has_put p bytes ((q, Some other) ∷ es) (inr h) = ap is_some (put_more (Text (digest a bytes)) q other es) ∙ by (cell_eq (Text (digest a bytes)) (Text (digest a other))) (has_put p bytes es h)
    where
      by : (b : Bool) → is_some (put_under (Text (digest a bytes)) es) ≡ true → is_some (cond b (Some (Blob other)) (put_under (Text (digest a bytes)) es)) ≡ true
      by true k = refl
      by false k = k

  module _ (q : TileSet) (m : FinMap place_cmp Cell) where
    abbrev now : FinMap place_cmp Cell
    now = patched_by (id_for l a) q m

    -- an id under which contents are put is that of a tile
    pub put_named : (id : Cell) → is_some (put_under id (entries q)) ≡ true → is_named now id ≡ true
    put_named id h = by (put_under id (entries q)) refl h
      where
        by : (o : Option Cell) → put_under id (entries q) ≡ o → is_some o ≡ true → is_named now id ≡ true
        by None e k = absurd (false≢true k)
        by (Some cell) e k =
            let put = put_has id cell (entries q) e in
            named_at now put.place id (get-patched_by (id_for l a) put.place q m ∙ ap (λ o. patched_at (id_for l a) o (get m put.place)) (there_has q (put.place, Some put.bytes) put.there) ∙ given_id l a put.bytes digests ∙ ap Some put.is_id)

    -- and a tile's id has such contents, or is that of a tile that the patch hasn't
    pub named_put : (p : Place) (id : Cell) → get now p ≡ Some id → (is_some (put_under id (entries q)) ≡ false) → get m p ≡ Some id
    named_put p id h none = by (get q p) refl (sym (get-patched_by (id_for l a) p q m) ∙ h)
      where
        by : (o : Option (Option (List ℕ))) → get q p ≡ o → patched_at (id_for l a) o (get m p) ≡ Some id → get m p ≡ Some id
        by None e k = k
        by (Some None) e k = absurd (none-some id k)
        by (Some (Some bytes)) e k =
            let same : Text (digest a bytes) ≡ id = same_Some (Text (digest a bytes)) id (sym (given_id l a bytes digests) ∙ k) in
            absurd (false≢true (sym none ∙ (ap (λ i. is_some (put_under i (entries q))) (sym same) ∙ has_put p bytes (entries q) (has_there q p (Some bytes) e))))

-- bytes of a tile pass no test that none of those that are put pass
pub none_passes : (test : List ℕ → Bool) (p : Place) (bytes : List ℕ) (es : List Entry) → find test (put_of es) ≡ None → Has (p, Some bytes) es → test bytes ≡ false
none_passes test p bytes [] none h = absurd h
none_passes test p bytes ((q, None) ∷ es) none (inr h) = none_passes test p bytes es none h
none_passes test p bytes ((q, None) ∷ es) none (inl is) = absurd (none-some bytes (ap (λ (x : Entry). x.1) is))
none_passes test p bytes ((q, Some other) ∷ es) none h = by (test other) refl none h (none_passes test p bytes es)
  where
    by : (b : Bool) → test other ≡ b → cond b (Some other) (find test (put_of es)) ≡ None → Has (p, Some bytes) ((q, Some other) ∷ es) → (find test (put_of es) ≡ None → Has (p, Some bytes) es → test bytes ≡ false) → test bytes ≡ false
    by true e k at later = absurd (none-some other (sym k))
    by false e k (inr at) later = later k at
    by false e k (inl is) later = ap test (sym (same_Some other bytes (ap (λ (x : Entry). x.1) is))) ∙ e
