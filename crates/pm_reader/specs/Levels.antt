-- The levels of directories, and what a cache of them is trusted with.
use Rattle.std.specs.Prelude.{◌≡◌, ◌⊎◌, ℕ, zero, suc, ◌+◌, ◌<◌, true, false, List, [], flat_map, nat_eq, Contains, Option, Some, Ok, Err, IfSome}
use Rattle.pm_reader.specs.Common.{Entry, Header, leaf_of}
use Rattle.pm_reader.specs.Caches.{Held}

-- the entries of the leaf that an entry names; none where it names no leaf, or one that doesn't lie in
-- the bytes or doesn't decode
abbrev pub entries_below : Header → List ℕ → Entry → List Entry
entries_below h b e = elim (nat_eq e.run_length 0) [ false ↦ [] | true ↦ elim (leaf_of h b e) [ Err r ↦ [] | Ok leaf ↦ leaf ] ]

-- level 0 is the root's entries, and the next one the entries of the leaves that a level names, in order
unfoldable pub level : ℕ → Header → List ℕ → List Entry → List Entry
level zero h b root = root
level (suc n) h b root = flat_map (entries_below h b) (level n h b root)

-- a leaf entry of the levels 0 to 5
pub record IsLeafEntry (h : Header) (b : List ℕ) (root : List Entry) (e : Entry) : Type 0 where
  pub depth : ℕ
  pub low : depth < 6
  pub named : Contains (level depth h b root) e
  pub leaf : e.run_length ≡ 0

-- each leaf offset is used with one length
abbrev pub HasOneLength : Header → List ℕ → List Entry → Type 0
HasOneLength h b root = (e f : Entry) → IsLeafEntry h b root e → IsLeafEntry h b root f → e.offset ≡ f.offset → e.length ≡ f.length

-- what is held at the place of a leaf is that leaf
abbrev pub HoldsLeaves : Header → List ℕ → List Entry → Held → Type 0
HoldsLeaves h b root held = (e : Entry) (d : List Entry) → IsLeafEntry h b root e → held (h.leaf_offset + e.offset) ≡ Some d → leaf_of h b e ≡ Ok d

-- a cache changes no answer: it holds no wrong leaf, and each leaf offset is used with one
-- length, or nothing will be held
pub record IsTrusted (h : Header) (b : List ℕ) (root : List Entry) (held : Held) (idle : Type 0) : Type 0 where
  pub leaves : HoldsLeaves h b root held
  pub lengths : HasOneLength h b root ⊎ idle

-- what a directory has for an id is an entry of this level
abbrev pub IsAtLevel : Header → List ℕ → List Entry → ℕ → Option Entry → Type 0
IsAtLevel h b root n found = IfSome found (λ e. Contains (level n h b root) e)
