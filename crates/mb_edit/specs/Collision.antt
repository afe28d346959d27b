-- Contents that are put into a normalised set under an id that others have.
use Rattle.std.specs.Prelude.{ℕ, ◌&&◌, ◌||◌, Bool, false, not, List, Option, Some, None, find, option_map}
use Rattle.mb_edit.specs.Common.{Blob, bytes_eq, Cell, cell_eq, Contents, get, IdCollision, list_any, MbtError, Text}

-- whether there is a cell, and it isn't these bytes
abbrev pub is_other : List ℕ → Option Cell → Bool
is_other bytes None = false
is_other bytes (Some cell) = not (cell_eq cell (Blob bytes))

-- whether others are put under the digest of these bytes
abbrev pub has_twin : (List ℕ → List ℕ) → List (List ℕ) → List ℕ → Bool
has_twin digest put bytes = list_any (λ other. bytes_eq (digest other) (digest bytes) && not (bytes_eq other bytes)) put

-- whether the digest of bytes that are put has other contents: in the set, null or not, or among those that are put
abbrev pub collides : (List ℕ → List ℕ) → Contents → List (List ℕ) → List ℕ → Bool
collides digest contents put bytes = is_other bytes (get contents (Text (digest bytes))) || has_twin digest put bytes

-- the first of the bytes that are put, in the order of their places, that collide
abbrev pub collision : (List ℕ → List ℕ) → Contents → List (List ℕ) → Option MbtError
collision digest contents put = option_map (λ bytes. IdCollision (digest bytes)) (find (collides digest contents put) put)
