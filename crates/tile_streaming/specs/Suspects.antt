-- Contents of a patch that may collide with those of a base, by their digests.
use Rattle.std.specs.Prelude.{ℕ, ◌||◌, Bool, cond, filter, List, map, None, option_and_then, Option, Some}
use Rattle.std.specs.Ordering.{eq_by_cmp, nat_cmp}
use Rattle.std.specs.Cmp.Lexicographic.{slice_cmp}
use Rattle.std.specs.declared.cmp.Ordering.{Ordering}
use Rattle.mb_edit.specs.Collision.{is_other}
use Rattle.mb_edit.specs.Common.{digest, Text}
use Rattle.tile_streaming.specs.Collisions.{content_told, is_known}
use Rattle.tile_streaming.specs.Common.{HashAlgorithm, list_any, Tables}

abbrev pub by_bytes : List ℕ → List ℕ → Ordering
by_bytes = slice_cmp nat_cmp

-- whether a digest is one of some
abbrev pub is_among : List (List ℕ) → List ℕ → Bool
is_among digests d = list_any (λ other. eq_by_cmp by_bytes other d) digests

-- whether bytes may collide: they have the digest that is known to, or there are others under theirs
abbrev pub is_suspect : Tables → HashAlgorithm → Option (List ℕ) → List ℕ → Bool
is_suspect t a known bytes = is_known known (digest a bytes) || is_other bytes (content_told t (Text (digest a bytes)))

-- the digest of the contents of a tile, where they are such bytes
abbrev pub suspect_of : Tables → HashAlgorithm → Option (List ℕ) → Option (List ℕ) → Option (List ℕ)
suspect_of t a known bytes = option_and_then (λ b. cond (is_suspect t a known b) (Some (digest a b)) None) bytes

-- the digests of those of some bytes
abbrev pub suspects : Tables → HashAlgorithm → Option (List ℕ) → List (List ℕ) → List (List ℕ)
suspects t a known put = map (digest a) (filter (is_suspect t a known) put)
