-- No finding is a fault of a store.
use Rattle.tile_streaming.proofs.Common.{ap, AreFindings, bad_tile, Bool, Cell, cell_at, cond, contents_in, Err, Findings, first_refused, HashAlgorithm, InvalidDataFormat, InvalidTileIndex, is_some, is_null, List, list_any, MbtError, MbtType, missing_reference, Named, None}
use Rattle.tile_streaming.proofs.Common.{Ok, Option, option_and_then, option_or, refl, Result, settled, Some, StoreFault, sym, Tests, then, tile_of, true, false, unless, unless_found, wrong_content_hash, wrong_tile_hash, [], ◌||◌, ◌∙◌, ◌∷◌, ◌≡◌, ◌≢◌}
use Rattle.mb_constraints.specs.Hashes.{wrong_hash}
use Rattle.mb_constraints.specs.References.{id_text}
use Rattle.mb_tables.specs.Cell.{cell_eq}
use Rattle.mb_tables.specs.Kind as kind
use Rattle.mb_tables.specs.declared.cell.Cell.TheVariants.{Blob, Text}
use Rattle.mb_tables.specs.declared.error.MbtError.TheVariants.{IncorrectTileHash, MissingTileReference}
use Rattle.mb_tables.specs.declared.kind.MbtType.TheVariants.{FlatWithHash, Normalized}
use Rattle.mb_tables.specs.declared.kind.NormalizedSchema.TheVariants.{Hash}
use Rattle.std.specs.Str.{bytes_eq}
use Rattle.std.specs.Char.{to_ascii_uppercase}
use Rattle.tile_hash.specs.Digest.{digest}
use Rattle.std.specs.Prelude.{map}

none_found : {A : Type 0} (test : A → Option MbtError) → ((x : A) → test x ≢ Some StoreFault) → (xs : List A) → first_refused test xs ≢ Some StoreFault
none_found test h [] e = absurd (cc)
none_found test h (x ∷ xs) e = by (test x) refl e (none_found test h xs)
  where
    by : (o : Option MbtError) → test x ≡ o → option_or o (first_refused test xs) ≡ Some StoreFault → (first_refused test xs ≡ Some StoreFault → ⊥) → ⊥
    by (Some r) f e rest = h x (f ∙ e)
    by None f e rest = rest e

unless_no : (b : Bool) (r : MbtError) → r ≢ StoreFault → unless b r ≢ Some StoreFault
unless_no true r h e = absurd (cc)
unless_no false r h e = let one : r ≡ StoreFault = cc in h one

bad_no : (layout : MbtType) (contents : List (List Cell)) (row : List Cell) → bad_tile layout contents row ≢ Some StoreFault
bad_no layout contents row = by (contents_in layout contents row)
  where
    by : (o : Option Cell) → option_and_then (λ cell. unless (is_some (tile_of row cell)) (InvalidTileIndex (cell_at 0 row) (cell_at 1 row) (cell_at 2 row))) o ≢ Some StoreFault
    by None e = absurd (cc)
    by (Some cell) e = unless_no (is_some (tile_of row cell)) (InvalidTileIndex (cell_at 0 row) (cell_at 1 row) (cell_at 2 row)) (λ k. absurd (cc)) e

missing_no : (layout : MbtType) (contents : List (List Cell)) (row : List Cell) → missing_reference layout contents row ≢ Some StoreFault
missing_no (Normalized view schema) contents row e = unless_no (is_null (cell_at 3 row) || list_any (λ c. cell_eq (cell_at 0 c) (cell_at 3 row)) contents) (MissingTileReference (id_text (cell_at 3 row)) (kind.contents_of schema)) (λ k. absurd (cc)) e
missing_no _ contents row e = absurd (cc)

wrong_no : (a : HashAlgorithm) (c d : Cell) → wrong_hash a c d ≢ Some StoreFault
wrong_no a (Blob bytes) (Text stored) e = unless_no (bytes_eq (map to_ascii_uppercase stored) (digest a bytes)) (IncorrectTileHash (map to_ascii_uppercase stored) (digest a bytes)) (λ k. absurd (cc)) e
wrong_no a _ _ e = absurd (cc)

hash_no : (layout : MbtType) (a : HashAlgorithm) (row : List Cell) → wrong_tile_hash layout a row ≢ Some StoreFault
hash_no FlatWithHash a row e = wrong_no a (cell_at 3 row) (cell_at 4 row) e
hash_no _ a row e = absurd (cc)

id_no : (layout : MbtType) (a : HashAlgorithm) (row : List Cell) → wrong_content_hash layout a row ≢ Some StoreFault
id_no (Normalized view Hash) a row e = wrong_no a (cell_at 1 row) (cell_at 0 row) e
id_no _ a row e = absurd (cc)

-- nor is what they settle
pub settled_no : (layout : MbtType) (a : HashAlgorithm) (contents rows : List (List Cell)) (f : Findings) (names : Option MbtError) (named : Result Named MbtError) → AreFindings layout a contents rows f → Tests names named → (e : MbtError) → settled f named ≡ Err e → e ≢ StoreFault
settled_no layout a contents rows f names named are tests e is = kinds f.kinds is
  where
    both : (b h : Option MbtError) → b ≢ Some StoreFault → h ≢ Some StoreFault → option_or b h ≢ Some StoreFault
    both (Some r) h p q = p
    both None h p q = q

    no_hash : f.hash ≢ Some StoreFault
    no_hash h = both (first_refused (wrong_content_hash layout a) contents) (first_refused (wrong_tile_hash layout a) rows) (none_found (wrong_content_hash layout a) (id_no layout a) contents) (none_found (wrong_tile_hash layout a) (hash_no layout a) rows) (sym are.hash ∙ h)

    none : option_or f.bad (option_or f.missing f.hash) ≢ Some StoreFault
    none = both f.bad (option_or f.missing f.hash) (λ k. none_found (bad_tile layout contents) (bad_no layout contents) rows (sym are.bad ∙ k))
        (both f.missing f.hash (λ k. none_found (missing_reference layout contents) (missing_no layout contents) rows (sym are.missing ∙ k)) no_hash)

    found : (x : Named) (o : Option MbtError) → o ≢ Some StoreFault → unless_found o x ≡ Err e → e ≢ StoreFault
    found x None n h = absurd (cc)
    found x (Some r) n h = let one : r ≡ e = cc in λ k. n (ap Some (one ∙ k))

    names_no : (r : Result Named MbtError) → Tests names r → then r (unless_found (option_or f.bad (option_or f.missing f.hash))) ≡ Err e → e ≢ StoreFault
    names_no (Ok x) t h = found x (option_or f.bad (option_or f.missing f.hash)) none h
    names_no (Err n) t h = let one : n ≡ e = cc in λ k. t.1 (one ∙ k)

    kinds : (b : Bool) → cond b (then named (unless_found (option_or f.bad (option_or f.missing f.hash)))) (Err InvalidDataFormat) ≡ Err e → e ≢ StoreFault
    kinds false h = λ k. absurd (cc)
    kinds true h = names_no named tests h
