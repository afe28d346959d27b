-- Tables that a set was loaded from are so of the set with the same bytes at several places, too.
use Rattle.mb_load.proofs.Common.{All, All-head, All-tail, ap, Blob, Cell, cells_total, cond, Contents, digest, get, get-insert, HashAlgorithm, Held, id_for, is_editable, is_eq, IsFree, IsLoadedFrom}
use Rattle.mb_load.proofs.Common.{IsOnBoard, List, MbtType, Normalized, Place, same_Some, Some, sym, Tables, Text, tied_itself, true, with_content, with_tile, with_tiles, ℕ, [], ◌∙◌, ◌∷◌, ◌≡◌}
use Rattle.mb_load.proofs.EditedFrom.{from_with_tile}

-- no other contents stand under the digest of bytes that were put
free_with : (contents : Contents) (l : MbtType) (a : HashAlgorithm) (bytes : List ℕ) → ((cell : Cell) → get contents (Text (digest a bytes)) ≡ Some cell → cell ≡ Blob bytes) → (cell : Cell) → get (with_content contents (id_for l a bytes) bytes) (Text (digest a bytes)) ≡ Some cell → cell ≡ Blob bytes
free_with contents (Normalized view schema) a bytes free = λ cell at.
    let id : Cell = Text (digest a bytes) in
    sym (same_Some (Blob bytes) cell (sym (get-insert cells_total contents id (Blob bytes) id ∙ ap (λ o. cond (is_eq o) (Some (Blob bytes)) (get contents id)) (tied_itself cells_total id)) ∙ at))
free_with contents _ a bytes free = free

pub from_with_tiles : (t : Tables) (h : Held) (ps : List Place) (bytes : List ℕ) → All IsOnBoard ps → is_editable h.state.layout ≡ true → IsFree h.state bytes → IsLoadedFrom t h → IsLoadedFrom t (with_tiles h ps bytes)
from_with_tiles t h [] bytes on editable free loaded = loaded
from_with_tiles t h (p ∷ ps) bytes on editable free loaded =
    from_with_tiles t (with_tile h p bytes) ps bytes (All-tail IsOnBoard p ps on) editable (free_with h.state.contents h.state.layout h.state.algorithm bytes free)
    (from_with_tile t h p bytes (All-head IsOnBoard p ps on) editable free loaded)
