-- Contents whose ids no tile has become marks.
use Rattle.std.specs.Prelude.{ℕ, Bool, cond, not, List, [], ◌∷◌, set}
use Rattle.mb_lists.specs.Common.{Cell, cell_eq, list_any}
use Rattle.mb_lists.specs.Entries.{content_at, id_at}
use Rattle.mb_lists.specs.declared.entries.Content.{Content}
use Rattle.mb_lists.specs.declared.entries.Standing.TheVariants.{Removed}
use Rattle.mb_lists.specs.declared.entries.StoredTile.{StoredTile}

-- whether one of these tiles has the id
abbrev pub has_id : List Content → List StoredTile → Cell → Bool
has_id contents tiles id = list_any (λ t. cell_eq (id_at contents t.contents) id) tiles

-- contents whose id none of them has
abbrev pub is_unnamed : List Content → List StoredTile → ℕ → Bool
is_unnamed contents tiles i = not (has_id contents tiles (id_at contents i))

-- the contents at an index become a mark, if there are any
abbrev pub marked : List Content → ℕ → List Content
marked contents i = set contents i (record (content_at contents i) { standing = Removed })

-- the contents at these indexes, but for those whose id a tile has
abbrev pub marked_unnamed : List StoredTile → List Content → List ℕ → List Content
marked_unnamed tiles contents [] = contents
marked_unnamed tiles contents (i ∷ is) = marked_unnamed tiles (cond (is_unnamed contents tiles i) (marked contents i) contents) is
