-- Directories: a count and four columns of varints (PMTiles specification version 3, directories).
use Rattle.std.specs.Prelude.{◌≡◌, ℕ, zero, suc, ◌+◌, ◌-◌, ◌^◌, ◌<◌, ◌≤◌, List, [], ◌∷◌, ◌++◌, length, Option, Some, None, nat_lt, nat_eq, if◌then◌else◌, option_map, flat_map, map, refl}
use Rattle.std.specs.List.Sorted.{IsNonDecreasingBy}
use Rattle.pm_format.specs.declared.entry.DirEntry.{DirEntry}
use Rattle.pm_format.specs.declared.wide_entry.WideEntry.{WideEntry}
use Rattle.pm_format.specs.Varint.{number_at, u64_at, varint}

abbrev pub Entry : Type 0
Entry = DirEntry

abbrev pub entry : ℕ → ℕ → ℕ → ℕ → Entry
entry id offset length run = record { tile_id = id; offset = offset; length = length; run_length = run }

abbrev pub wide_as : WideEntry → Entry
wide_as w = entry w.tile_id w.offset w.length w.run_length

infixl 10 ◌>>=◌
abbrev pub ◌>>=◌ : {A B : Type 0} → Option A → (A → Option B) → Option B
None >>= f = None
(Some x) >>= f = f x

-- n numbers, one after another, and what follows them
abbrev pub column : ℕ → ℕ → ℕ → List ℕ → Option (List ℕ × List ℕ)
column bytes limit zero bs = Some ([], bs)
column bytes limit (suc n) bs = number_at bytes limit bs >>= λ x. option_map (λ r. (x.0 ∷ r.0, r.1)) (column bytes limit n x.1)

-- the sums of the differences, none where one passes u64
abbrev pub ids_from : ℕ → List ℕ → Option (List ℕ)
ids_from last [] = Some []
ids_from last (d ∷ ds) = if nat_lt (last + d) (2 ^ 64) then option_map (λ ids. (last + d) ∷ ids) (ids_from (last + d) ds) else None

-- the offset that a number of the last column stands for, after an entry that ends at the given place
abbrev pub offset_of : Option ℕ → ℕ → Option ℕ
offset_of None n = if nat_eq n 0 then None else Some (n - 1)
offset_of (Some end) n = if nat_eq n 0 then (if nat_lt end (2 ^ 64) then Some end else None) else Some (n - 1)

abbrev pub offsets_from : Option ℕ → List ℕ → List ℕ → Option (List ℕ)
offsets_from end [] ns = Some []
offsets_from end (l ∷ ls) [] = None
offsets_from end (l ∷ ls) (n ∷ ns) = offset_of end n >>= λ o. option_map (λ os. o ∷ os) (offsets_from (Some (o + l)) ls ns)

-- four lists side by side
abbrev pub entries_of : List ℕ → List ℕ → List ℕ → List ℕ → List Entry
entries_of (i ∷ ids) (r ∷ runs) (l ∷ lengths) (o ∷ offsets) = entry i o l r ∷ entries_of ids runs lengths offsets
entries_of ids runs lengths offsets = []

-- the entries that a front of the bytes spells
unfoldable pub dir_of : List ℕ → Option (List Entry)
dir_of bytes =
    u64_at bytes >>= λ n.
    column 10 (2 ^ 64) n.0 n.1 >>= λ a.
    column 5 (2 ^ 32) n.0 a.1 >>= λ b.
    column 5 (2 ^ 32) n.0 b.1 >>= λ c.
    column 10 (2 ^ 64) n.0 c.1 >>= λ d.
    ids_from 0 a.0 >>= λ ids.
    option_map (entries_of ids b.0 c.0) (offsets_from None c.0 d.0)

-- the differences of the ids
abbrev pub steps_from : ℕ → List Entry → List ℕ
steps_from last [] = []
steps_from last (e ∷ es) = (e.tile_id - last) ∷ steps_from e.tile_id es

-- 0 for an entry that begins where the one before ends, else the offset plus one
abbrev pub starts_from : Option ℕ → List Entry → List ℕ
starts_from end [] = []
starts_from None (e ∷ es) = (e.offset + 1) ∷ starts_from (Some (e.offset + e.length)) es
starts_from (Some end) (e ∷ es) = (if nat_eq e.offset end then 0 else e.offset + 1) ∷ starts_from (Some (e.offset + e.length)) es

abbrev pub spell_all : List ℕ → List ℕ
spell_all ns = flat_map varint ns

-- the bytes of a directory, each number by its short spelling
unfoldable pub dir_bytes : List Entry → List ℕ
dir_bytes es = varint (length es) ++ (spell_all (steps_from 0 es) ++ (spell_all (map (λ e. e.run_length) es) ++ (spell_all (map (λ e. e.length) es) ++ spell_all (starts_from None es))))

-- ids that don't fall, and numbers within their types
abbrev pub DirFits : ℕ → List Entry → Type 0
DirFits last [] = Unit {0}
DirFits last (e ∷ es) = (last ≤ e.tile_id) × (e.tile_id < 2 ^ 64) × (e.length < 2 ^ 32) × (e.run_length < 2 ^ 32) × (e.offset + 1 < 2 ^ 64) × (e.offset + e.length < 2 ^ 64) × DirFits e.tile_id es

-- ids that don't fall, and offsets and ends within u64; a length may be any
abbrev pub IsWritable : ℕ → List Entry → Type 0
IsWritable last [] = Unit {0}
IsWritable last (e ∷ es) = (last ≤ e.tile_id) × (e.offset + 1 < 2 ^ 64) × (e.offset + e.length < 2 ^ 64) × IsWritable e.tile_id es

-- ids that don't fall
abbrev pub IdsDontFall : List Entry → Type 0
IdsDontFall es = IsNonDecreasingBy (λ e. e.tile_id) es

-- the same from the front, with no id below the given one
abbrev pub NotFalling : ℕ → List Entry → Type 0
NotFalling last [] = Unit {0}
NotFalling last (e ∷ es) = (last ≤ e.tile_id) × NotFalling e.tile_id es

-- the offset plus one, and the end, are within u64
pub record IsPlaced (e : Entry) : Type 0 where
  pub start : e.offset < 2 ^ 64 - 1
  pub end : e.offset + e.length < 2 ^ 64

-- three entries, a leaf among them
abbrev pub three : List Entry
three = entry 0 0 0 0 ∷ entry 1 1 1 1 ∷ entry 2 2 2 2 ∷ []

pub three_read : dir_of (3 ∷ 0 ∷ 1 ∷ 1 ∷ 0 ∷ 1 ∷ 2 ∷ 0 ∷ 1 ∷ 2 ∷ 1 ∷ 2 ∷ 0 ∷ []) ≡ Some three
unfolding dir_of u64_at
three_read = refl

pub three_written : dir_bytes three ≡ 3 ∷ 0 ∷ 1 ∷ 1 ∷ 0 ∷ 1 ∷ 2 ∷ 0 ∷ 1 ∷ 2 ∷ 1 ∷ 2 ∷ 0 ∷ []
unfolding dir_bytes varint
three_written = refl
