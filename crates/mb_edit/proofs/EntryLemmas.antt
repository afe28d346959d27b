-- The entries of a patch as its readers give them.
use Rattle.mb_edit.proofs.Common.{ap, arith, Blob, blob_cell, Bool, bytes_eq, bytes_eq-Decides, bytes_of, Cell, cell_eq, cell_eq-Decides, cell_id, digest, Entries, false, false≢true, HashAlgorithm}
use Rattle.mb_edit.proofs.Common.{IfSome, is_normalized, is_other, length, List, map, MbtType, None, Normalized, not, Option, option_and_then, Place, refl, slice_get, Some, suc, sym, Text, text_cell}
use Rattle.mb_edit.proofs.Common.{true, zero, ℕ, [], ◌<◌, ◌∙◌, ◌∷◌, ◌≡◌, ◌≤◌}
use Rattle.std.proofs.lemmas.Option.{same_Some, slice_get_past}
use Rattle.mb_tables.specs.CellKinds.{is_text}

abbrev bytes_in : Cell → List ℕ
bytes_in (Blob bytes) = bytes
bytes_in _ = []

pub blob_of : (o : Option (List ℕ)) (bytes : List ℕ) → blob_cell o ≡ Blob bytes → o ≡ Some bytes
blob_of None bytes h = cc
blob_of (Some x) bytes h = ap (λ c. Some (bytes_in c)) h

-- a tile past the end has no bytes
pub past_end : (es : Entries) (i : ℕ) → length es ≤ i → None ≡ bytes_of es i
past_end es i h = sym (ap (λ o. option_and_then (λ (e : Place × Option (List ℕ)). e.1) o) (slice_get_past es i h))

-- a tile with a blob has its bytes
pub bytes_read : (es : Entries) (i : ℕ) (p : Place) (c : Cell) (bytes : List ℕ) → i < length es → IfSome (slice_get es i) (λ e. (e.0 ≡ p) × (blob_cell e.1 ≡ c)) → c ≡ Blob bytes → Some bytes ≡ bytes_of es i
bytes_read [] i p c bytes lt h is = absurd (omega arith)
bytes_read (e ∷ es) zero p c bytes lt h is = sym (blob_of e.1 bytes (h.1 ∙ is))
bytes_read (e ∷ es) (suc i) p c bytes lt h is = bytes_read es i p c bytes (omega arith) h is

-- a blob and bytes
blobs_equal : (stored bytes : List ℕ) → cell_eq (Blob stored) (Blob bytes) ≡ bytes_eq stored bytes
blobs_equal stored bytes = by (cell_eq (Blob stored) (Blob bytes)) refl (bytes_eq stored bytes) refl
  where
    by : (x : Bool) → cell_eq (Blob stored) (Blob bytes) ≡ x → (y : Bool) → bytes_eq stored bytes ≡ y → cell_eq (Blob stored) (Blob bytes) ≡ bytes_eq stored bytes
    by true e y f = e ∙ sym ((bytes_eq-Decides stored bytes).1 (ap bytes_in ((cell_eq-Decides (Blob stored) (Blob bytes)).0 e)))
    by false e false f = e ∙ sym f
    by false e true f = absurd (false≢true (sym e ∙ (cell_eq-Decides (Blob stored) (Blob bytes)).1 (ap Blob ((bytes_eq-Decides stored bytes).0 f))))

pub other_blob : (o : Option Cell) (cell : Cell) (stored bytes : List ℕ) (r : Bool) → Some cell ≡ o → cell ≡ Blob stored → r ≡ not (bytes_eq stored bytes) → r ≡ is_other bytes o
other_blob o cell stored bytes r found is h = h ∙ (ap not (sym (blobs_equal stored bytes)) ∙ (ap (λ c. not (cell_eq c (Blob bytes))) (sym is) ∙ ap (is_other bytes) found))

is_text_or_null : (o : Option (List ℕ)) → is_text (text_cell o) ≡ true
is_text_or_null None = refl
is_text_or_null (Some text) = refl

-- the value of a name is a text or null
pub value_is_text : (es : List (List ℕ × Option (List ℕ))) (i : ℕ) (name : List ℕ) (c cell : Cell) → i < length es → IfSome (slice_get es i) (λ e. (e.0 ≡ name) × (text_cell e.1 ≡ c)) → cell ≡ c → is_text cell ≡ true
value_is_text [] i name c cell lt h is = absurd (omega arith)
value_is_text (e ∷ es) zero name c cell lt h is = ap is_text (is ∙ sym h.1) ∙ is_text_or_null e.1
value_is_text (e ∷ es) (suc i) name c cell lt h is = value_is_text es i name c cell (omega arith) h is

-- the id of bytes in a normalised set is their digest
digest_of : (l : MbtType) (a : HashAlgorithm) (bytes : List ℕ) → is_normalized l ≡ true → cell_id l a (Blob bytes) ≡ Text (digest a bytes)
digest_of (Normalized view schema) a bytes n = refl
digest_of _ a bytes n = absurd (false≢true n)

pub id_read : (l : MbtType) (a : HashAlgorithm) (es : Entries) (i : ℕ) (id : Cell) → is_normalized l ≡ true → slice_get (map (λ e. cell_id l a (blob_cell e.1)) es) i ≡ Some id → IfSome (bytes_of es i) (λ bytes. id ≡ Text (digest a bytes))
id_read l a [] i id n h = tt
id_read l a (e ∷ es) zero id n h = by e.1 h
  where
    by : (o : Option (List ℕ)) → Some (cell_id l a (blob_cell o)) ≡ Some id → IfSome o (λ bytes. id ≡ Text (digest a bytes))
    by None h = tt
    by (Some bytes) h = sym (same_Some (cell_id l a (Blob bytes)) id h) ∙ digest_of l a bytes n
id_read l a (e ∷ es) (suc i) id n h = id_read l a es i id n h
