-- What is known of the contents that a patch puts, after those of its last tiles were met.
use Rattle.std.specs.Prelude.{ℕ, ◌≡◌, true, false, List, Option, Some, None, find, option_and_then, slice_get}
use Rattle.std.specs.BTreeMap.{get}
use Rattle.mb_edit.specs.Common.{bytes_eq, cell_cmp, Contents, list_any, Place, Text}
use Rattle.mb_edit.specs.Collision.{collides}
use Rattle.mb_edit.specs.declared.collision.Mark.{Mark}
use Rattle.mb_edit.specs.declared.collision.Marks.{Marks}

-- the tiles of a patch, and the bytes of the one at an index
abbrev pub Entries : Type 0
Entries = List (Place × Option (List ℕ))

abbrev pub bytes_of : Entries → ℕ → Option (List ℕ)
bytes_of es index = option_and_then (λ e. e.1) (slice_get es index)

-- some of the bytes that are put have the id, and the mark has their index and says whether they collide
pub record IsMarkOf (digest : List ℕ → List ℕ) (contents : Contents) (es : Entries) (put : List (List ℕ)) (id : List ℕ) (mark : Mark) : Type 0 where
  pub bytes : List ℕ
  pub at_index : bytes_of es mark.index ≡ Some bytes
  pub among : list_any (bytes_eq bytes) put ≡ true
  pub has_id : digest bytes ≡ id
  pub says : mark.collides ≡ collides digest contents put bytes

-- an id has a mark, or none of the bytes that are put has it
abbrev pub IsMarked : (List ℕ → List ℕ) → Contents → Entries → List (List ℕ) → List ℕ → Option Mark → Type 0
IsMarked digest contents es put id (Some mark) = IsMarkOf digest contents es put id mark
IsMarked digest contents es put id None = list_any (λ bytes. bytes_eq (digest bytes) id) put ≡ false

-- each id is marked, and the first of the bytes that are put that collide are at an index, past the end where none do
pub record AreMarked (digest : List ℕ → List ℕ) (contents : Contents) (es : Entries) (put : List (List ℕ)) (marks : Marks) : Type 0 where
  pub each : (id : List ℕ) → IsMarked digest contents es put id (get cell_cmp marks.by_id (Text id))
  pub first : bytes_of es marks.first ≡ find (collides digest contents put) put
