-- The contents and entries of a list of adds, each an id and bytes.
use Rattle.std.specs.Prelude.{◌≡◌, ℕ, zero, suc, ◌+◌, ◌-◌, ◌/◌, List, [], ◌∷◌, length, flat_map, nat_le, nat_eq, ◌&&◌, if◌then◌else◌, refl}
use Rattle.std.specs.Str.{bytes_eq}
use Rattle.pm_writer.specs.Common.{Entry, entry, place_in, put_new}

-- the different byte strings in order of first add
abbrev pub contents_from : List (List ℕ) → List (ℕ × List ℕ) → List (List ℕ)
contents_from seen [] = seen
contents_from seen (a ∷ adds) = contents_from (put_new seen a.1) adds

-- a block of equal bytes at ids in a row
pub record Block : Type 0 where
  pub first : ℕ
  pub count : ℕ
  pub bytes : List ℕ

-- one more add in front: a cut behind it exactly where the bytes differ or the id that follows isn't the next one
abbrev pub onto : ℕ × List ℕ → List Block → List Block
onto a [] = record { first = a.0; count = 1; bytes = a.1 } ∷ []
onto a (b ∷ bs) =
    if nat_eq (a.0 + 1) b.first && bytes_eq a.1 b.bytes
    then record { first = a.0; count = b.count + 1; bytes = b.bytes } ∷ bs
    else record { first = a.0; count = 1; bytes = a.1 } ∷ b ∷ bs

abbrev pub blocks : List (ℕ × List ℕ) → List Block
blocks [] = []
blocks (a ∷ adds) = onto a (blocks adds)

-- runs of the limit as long as they fit, and one of the rest where there is a rest
abbrev pub runs : ℕ → ℕ → ℕ → ℕ → ℕ → ℕ → List Entry
runs limit zero offset len id count = []
runs limit (suc n) offset len id count =
    if nat_eq count 0 then [] else
    (if nat_le count limit then entry id offset len count ∷ []
    else entry id offset len limit ∷ runs limit n offset len (id + limit) (count - limit))

abbrev pub longest_run : ℕ
longest_run = 4294967295

-- the entries of a block, its contents being at a place
abbrev pub entries_at : (List ℕ → ℕ) → Block → List Entry
entries_at place b = runs longest_run (b.count / longest_run + 1) (place b.bytes) (length b.bytes) b.first b.count

-- the entries of the blocks, in the order of the blocks
abbrev pub unsorted : (List ℕ → ℕ) → List (ℕ × List ℕ) → List Entry
unsorted place adds = flat_map (entries_at place) (blocks adds)

abbrev pub sorted_in : Entry → List Entry → List Entry
sorted_in e [] = e ∷ []
sorted_in e (f ∷ es) = if nat_le e.tile_id f.tile_id then e ∷ f ∷ es else f ∷ sorted_in e es

abbrev pub sorted : List Entry → List Entry
sorted [] = []
sorted (e ∷ es) = sorted_in e (sorted es)

-- all entries by rising id
abbrev pub entries_of_adds : List (ℕ × List ℕ) → List Entry
entries_of_adds adds = sorted (unsorted (place_in (contents_from [] adds)) adds)

-- two equal tiles in a row make one entry
pub one_run : entries_of_adds ((0, 48 ∷ []) ∷ (1, 48 ∷ []) ∷ []) ≡ entry 0 0 1 2 ∷ []
one_run = refl

-- equal tiles that aren't neighbours, or not in the order of ids, have entries of their own and one content
pub apart : entries_of_adds ((5, 48 ∷ []) ∷ (4, 48 ∷ []) ∷ (7, 49 ∷ 50 ∷ []) ∷ (8, 48 ∷ []) ∷ []) ≡ entry 4 0 1 1 ∷ entry 5 0 1 1 ∷ entry 7 1 2 1 ∷ entry 8 0 1 1 ∷ []
apart = refl

pub once : contents_from [] ((5, 48 ∷ []) ∷ (4, 48 ∷ []) ∷ (7, 49 ∷ 50 ∷ []) ∷ (8, 48 ∷ []) ∷ []) ≡ (48 ∷ []) ∷ (49 ∷ 50 ∷ []) ∷ []
once = refl

-- a run that is full is followed by a new entry
pub full_runs : runs longest_run 3 7 2 10 8589934591 ≡ entry 10 7 2 4294967295 ∷ entry 4294967305 7 2 4294967295 ∷ entry 8589934600 7 2 1 ∷ []
full_runs = refl
