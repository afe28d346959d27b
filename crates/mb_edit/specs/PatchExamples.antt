-- Patches that are made and patches that are refused.
use Rattle.std.proofs.Common.{ap}
use Rattle.std.specs.Prelude.{◌≡◌, ℕ, codes, refl, false, true, List, [], ◌∷◌, Option, Some, None, filter_map, option_and_then, take}
use Rattle.mb_edit.specs.Common.{AggHashMismatchWithDiff, Blob, Cache, CannotDiffFileWithoutHash, Cell, Contents, DedupId, DiffingDiffFile, empty, find, Flat, from_entries, get-from_entries}
use Rattle.mb_edit.specs.Common.{IdCollision, MbtType, nat_cmp, Normalized, Null, PatchFileHasNoBeforeHash, PatchFileHasNoHashes, State, Text, text_at, UnsupportedCopyOperation}
use Rattle.mb_edit.specs.Common.{UnsupportedHashAlgorithm, UnsupportedPatchType}
use Rattle.std.specs.Cmp.Lexicographic.{slice_cmp, nat_list_cmp_total}
use Rattle.mb_edit.specs.Collision.{collision}
use Rattle.mb_edit.specs.Patched.{landed}
use Rattle.mb_edit.specs.PatchingOrder.{may_patch}
use Rattle.mb_tables.specs.CellOrder.{cells_total}
use Rattle.mb_tables.specs.declared.patch_type.PatchType.TheVariants.{BinDiffRaw}
use Rattle.tile_hash.specs.declared.algorithm.HashAlgorithm.TheVariants.{Md5, Xxh64}

-- a set of a layout with metadata
abbrev set_of : MbtType → List (List ℕ × Option (List ℕ)) → State
set_of layout names = record {
  layout = layout;
  algorithm = Md5;
  patch_type = None;
  tiles = empty;
  metadata = from_entries names;
  ids = empty;
  contents = empty;
  dates = empty;
}

text_found : (names : List (List ℕ × Option (List ℕ))) (name : List ℕ) → text_at (from_entries names) name ≡ option_and_then (λ value. value) (find (slice_cmp nat_cmp) name names)
text_found names name = ap (λ o. option_and_then (λ value. value) o) (get-from_entries nat_list_cmp_total names name)

-- metadata with some of the three digests
abbrev agg : List ℕ × Option (List ℕ)
agg = (codes "agg_tiles_hash", Some (codes "A"))

abbrev before : List ℕ → List ℕ × Option (List ℕ)
before text = (codes "agg_tiles_hash_before_apply", Some text)

abbrev after : List ℕ × Option (List ℕ)
after = (codes "agg_tiles_hash_after_apply", Some (codes "B"))

-- a patch that is meant for its set, and one that is meant for another
pub is_meant : may_patch false (set_of Flat (agg ∷ [])) (set_of Cache (before (codes "A") ∷ after ∷ [])) ≡ None
is_meant = simp (text_found) refl

pub for_another : may_patch false (set_of Flat (agg ∷ [])) (set_of Flat (before (codes "C") ∷ after ∷ [])) ≡ Some (AggHashMismatchWithDiff (codes "C") (codes "A"))
for_another = simp (text_found) refl

pub for_another_forced : may_patch true (set_of Flat (agg ∷ [])) (set_of Flat (before (codes "C") ∷ after ∷ [])) ≡ None
for_another_forced = refl

-- a patch without a digest after it, one with that alone, where null counts as none, and a set without one,
-- or that is itself a patch
pub no_hashes : may_patch false (set_of Flat (agg ∷ [])) (set_of Flat (before (codes "A") ∷ [])) ≡ Some PatchFileHasNoHashes
no_hashes = simp (text_found) refl

pub no_before_hash : may_patch false (set_of Flat (agg ∷ [])) (set_of Flat ((codes "agg_tiles_hash_before_apply", None) ∷ after ∷ [])) ≡ Some PatchFileHasNoBeforeHash
no_before_hash = simp (text_found) refl

pub without_hash : may_patch false (set_of Flat []) (set_of Flat (before (codes "A") ∷ after ∷ [])) ≡ Some CannotDiffFileWithoutHash
without_hash = simp (text_found) refl

pub is_patch : may_patch false (set_of Flat (agg ∷ after ∷ [])) (set_of Flat (before (codes "A") ∷ after ∷ [])) ≡ Some DiffingDiffFile
is_patch = simp (text_found) refl

-- sets of two layouts, a table of differences, and another algorithm
pub numbered : may_patch true (set_of (Normalized false DedupId) []) (set_of Flat []) ≡ Some UnsupportedCopyOperation
numbered = refl

pub cached : may_patch true (set_of Cache []) (set_of Flat []) ≡ Some UnsupportedCopyOperation
cached = refl

pub differences : may_patch true (set_of Cache []) (record (set_of Flat []) { patch_type = Some BinDiffRaw }) ≡ Some UnsupportedPatchType
differences = refl

pub other_algorithm : may_patch true (set_of Flat []) (record (set_of Flat []) { algorithm = Xxh64 }) ≡ Some (UnsupportedHashAlgorithm (codes "xxh64"))
other_algorithm = refl

-- where the names of a patch land
pub names_land : filter_map landed (agg ∷ before (codes "A") ∷ after ∷ (codes "name", None) ∷ []) ≡ (codes "agg_tiles_hash", Some (codes "B")) ∷ (codes "name", None) ∷ []
names_land = refl

-- contents whose digest is their first byte: none that collide, the same contents twice, null in the set, others in the
-- set, and others in the patch
abbrev first_byte : List ℕ → List ℕ
first_byte bytes = take 1 bytes

abbrev held : Cell → Contents
held cell = from_entries ((Text (codes "a"), cell) ∷ [])

pub apart : collision first_byte (held (Blob (codes "ab"))) (codes "b" ∷ codes "ab" ∷ codes "b" ∷ []) ≡ None
apart = simp (get-from_entries {X = Cell} cells_total) refl

pub under_null : collision first_byte (held Null) (codes "b" ∷ codes "ab" ∷ []) ≡ Some (IdCollision (codes "a"))
under_null = simp (get-from_entries {X = Cell} cells_total) refl

pub under_other : collision first_byte (held (Blob (codes "ac"))) (codes "b" ∷ codes "ab" ∷ []) ≡ Some (IdCollision (codes "a"))
under_other = simp (get-from_entries {X = Cell} cells_total) refl

pub first_of_two : collision first_byte (held (Blob (codes "ac"))) (codes "bd" ∷ codes "ab" ∷ codes "be" ∷ []) ≡ Some (IdCollision (codes "b"))
first_of_two = simp (get-from_entries {X = Cell} cells_total) refl
