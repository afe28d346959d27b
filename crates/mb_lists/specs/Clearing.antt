-- Items that come to their place, and leave it.
use Rattle.std.specs.Prelude.{◌≡◌, ℕ, ◌+◌, ◌++◌, Bool, cond, List, [], ◌∷◌, Option, Some, None}
use Rattle.mb_lists.specs.Common.{Coord, Null, Ordering, remove}
use Rattle.mb_lists.specs.Keyed.{StandsAs, newest}
use Rattle.mb_lists.specs.declared.entries.Standing.TheVariants.{Removed}
use Rattle.mb_lists.specs.declared.entries.StoredName.{StoredName}
use Rattle.mb_lists.specs.declared.entries.StoredTile.{StoredTile}

-- items without a mark, which is counted from n on
abbrev pub unmarked : {X : Type 0} → ℕ → Option ℕ → List X → List X
unmarked n None xs = xs
unmarked n (Some j) xs = remove xs (n + j)

-- where an item with a key was that is no mark, its mark is the latest of the key; else nothing happened
abbrev pub Clears : {K X : Type 0} → (K → K → Ordering) → (X → K) → Option X → X → List X → List X → Type 0
Clears R key None mark old new = new ≡ old
Clears R key (Some x) mark old new = StandsAs R key (newest R key (old ++ mark ∷ [])) new

-- the mark of a tile, and of a name
abbrev pub tile_mark : Coord → StoredTile
tile_mark coord = record { coord = coord; contents = 0; dates = None; standing = Removed }

abbrev pub name_mark : List ℕ → StoredName
name_mark name = record { name = name; value = Null; standing = Removed }

-- the index of contents, unless their id is null
abbrev pub listed : Bool → ℕ → List ℕ
listed null i = cond null [] (i ∷ [])
