-- What the tests of a header find, one after another.
use Rattle.pm_format.proofs.Common.{arith, byte_at, codes, compressions, Err, false, head, HEADER_SIZE, labelled, length, List, magic, nat_lt, nat_tests, refl, slice_get, take, tile_types, true, ℕ}
use Rattle.pm_format.proofs.Common.{◌<◌, ◌≡◌, ◌≤◌}
use Rattle.std.specs.Str.{bytes_eq}
use Rattle.pm_format.specs.declared.error.PmtError.TheVariants as errors

pub head_short : (b : List ℕ) → length b < 7 → head b ≡ Err errors.InvalidHeader
unfolding head
head_short b short = let t : nat_lt (length b) 7 ≡ true = grind (arith, nat_tests) in rw t refl

pub head_other_version : (b : List ℕ) → 7 ≤ length b → bytes_eq (take 7 b) magic ≡ false → bytes_eq (take 2 b) (codes "PM") ≡ true → head b ≡ Err errors.UnsupportedPmTilesVersion
unfolding head
head_other_version b seven other begins = let t : nat_lt (length b) 7 ≡ false = grind (arith, nat_tests) in rw (t, other, begins) refl

pub head_no_archive : (b : List ℕ) → 7 ≤ length b → bytes_eq (take 7 b) magic ≡ false → bytes_eq (take 2 b) (codes "PM") ≡ false → head b ≡ Err errors.InvalidMagicNumber
unfolding head
head_no_archive b seven other begins = let t : nat_lt (length b) 7 ≡ false = grind (arith, nat_tests) in rw (t, other, begins) refl

pub head_cut : (b : List ℕ) → 7 ≤ length b → bytes_eq (take 7 b) magic ≡ true → length b < HEADER_SIZE → head b ≡ Err errors.InvalidHeader
unfolding head
head_cut b seven archive cut =
    let t : nat_lt (length b) 7 ≡ false = grind (arith, nat_tests) in
    let u : nat_lt (length b) HEADER_SIZE ≡ true = grind (arith, nat_tests) in
    rw (t, archive, u) refl

pub head_whole : (b : List ℕ) → bytes_eq (take 7 b) magic ≡ true → HEADER_SIZE ≤ length b → head b ≡ labelled b (slice_get compressions (byte_at 97 b)) (slice_get compressions (byte_at 98 b)) (slice_get tile_types (byte_at 99 b))
unfolding head
head_whole b archive whole =
    let t : nat_lt (length b) 7 ≡ false = grind (arith, nat_tests) in
    let u : nat_lt (length b) HEADER_SIZE ≡ false = grind (arith, nat_tests) in
    rw (t, archive, u) refl
