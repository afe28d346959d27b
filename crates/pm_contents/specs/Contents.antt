-- The different contents so far, found by their digests and their bytes. The digest of bytes is what a
-- function of them says, `name`.
use Rattle.std.specs.Prelude.{◌≡◌, ◌≢◌, ◌+◌, ℕ, List, length, take, drop, flat_map, nat_eq, Option, Some, None, IfSome, if◌then◌else◌}
use Rattle.std.specs.declared.cmp.Ordering.{Ordering}
use Rattle.pm_contents.specs.Common.{btree_map_len, bytes_eq, get, slice_cmp}
use Rattle.std.specs.HashMap as hashed
use Rattle.std.specs.Ordering.{nat_cmp}
use Rattle.pm_contents.specs.Places.{IsAt, IsBytes, found_in}
use Rattle.pm_contents.specs.declared.contents.Contents.{Contents}
use Rattle.pm_contents.specs.declared.span.Span.{Span}

-- the order of the contents that aren't the first of their digest
abbrev pub content_cmp : List ℕ → List ℕ → Ordering
content_cmp = slice_cmp nat_cmp

-- where the first content of a digest lies
abbrev pub first_of : Contents → ℕ → Option Span
first_of c digest = hashed.get nat_eq c.firsts digest

-- the bytes in a span
abbrev pub in_span : List ℕ → Span → List ℕ
in_span bytes s = take s.length (drop s.place bytes)

-- the place of bytes by where the first content of their digest lies: there, or among the others
abbrev pub place_by : Contents → List (List ℕ) → List ℕ → Option Span → Option ℕ
place_by c cs x None = None
place_by c cs x (Some s) = if bytes_eq (in_span (flat_map (λ c. c) cs) s) x then Some s.place else get content_cmp c.others x

abbrev pub place_of : (List ℕ → ℕ) → Contents → List (List ℕ) → List ℕ → Option ℕ
place_of name c cs x = place_by c cs x (first_of c (name x))

-- nothing has to be read to find bytes of this digest and length: no content has the digest, or the first one that
-- has it is of another length
abbrev pub IsUnasked : Contents → ℕ → ℕ → Type 0
IsUnasked c digest size = IfSome (first_of c digest) (λ s. s.length ≢ size)

-- The contents are as many and as long as these, and what is found is one of them: the first of a digest has this
-- digest, and another one the length of the bytes that it was put for, which it is itself or which its mark stands for.
-- What is found without a read is what it is among them.
pub record Holds (name : List ℕ → ℕ) (c : Contents) (cs : List (List ℕ)) : Type 0 where
  pub firsts : (digest : ℕ) → IfSome (first_of c digest) (λ s. IsAt cs s.place (λ z. (length z ≡ s.length) × (name z ≡ digest)))
  pub others : (x : List ℕ) → IfSome (get content_cmp c.others x) (λ place. IsAt cs place (λ z. (length z ≡ length x) × (IsBytes z → z ≡ x)))
  pub first : (x : List ℕ) → first_of c (name x) ≡ None → get content_cmp c.others x ≡ None
  pub unread : (x : List ℕ) → IsBytes x → IsUnasked c (name x) (length x) → found_in cs x ≡ get content_cmp c.others x
  pub count : hashed.hash_map_len c.firsts + btree_map_len c.others ≡ length cs
  pub total : c.total ≡ length (flat_map (λ c. c) cs)

-- exactly these are found, each at its place
abbrev pub Finds : (List ℕ → ℕ) → Contents → List (List ℕ) → Type 0
Finds name c cs = (x : List ℕ) → place_of name c cs x ≡ found_in cs x

-- told bytes have the contents from a place on, and exactly these are found
pub record IsTold (name : List ℕ → ℕ) (from : ℕ) (c : Contents) (cs : List (List ℕ)) (told : List ℕ) : Type 0 where
  pub lies : drop from told ≡ flat_map (λ c. c) cs
  pub finds : Finds name c cs

-- contents that are found alike
pub record IsAlike (c d : Contents) : Type 0 where
  pub first : (digest : ℕ) → first_of d digest ≡ first_of c digest
  pub other : (x : List ℕ) → get content_cmp d.others x ≡ get content_cmp c.others x
  pub firsts : hashed.hash_map_len d.firsts ≡ hashed.hash_map_len c.firsts
  pub others : btree_map_len d.others ≡ btree_map_len c.others
  pub total : d.total ≡ c.total
