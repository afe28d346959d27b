use Rattle.pm_format.proofs.Common.{ap, byte_at, compressions, Err, err_from_is_err_and, head, None, Ok, refl, slice_get, Some, tile_types, ◌∙◌, ◌≡◌}
use Rattle.pm_format.specs.declared.error.PmtError.TheVariants as errors
use Rattle.pm_format.proofs.LabelLemmas.{found_by_ok, none_by_err, cause_of_err}
use Rattle.pm_format.proofs.header.Header.try_from_bytes.Goals as goal

pub returns-in_err-tile_type : goal.returns-in_err-tile_type
returns-in_err-tile_type c =
    let b = c.args.bytes.now in
    let directories : slice_get compressions (byte_at 97 b) ≡ Some c.in_ok-internal_compression.internal_compression =
    found_by_ok _ _ _ c.in_ok-internal_compression.ensures in
    let tiles : slice_get compressions (byte_at 98 b) ≡ Some c.in_ok-tile_compression.tile_compression =
    found_by_ok _ _ _ c.in_ok-tile_compression.ensures in
    let type : slice_get tile_types (byte_at 99 b) ≡ None = none_by_err _ _ _ c.in_err-tile_type.ensures in
    let cause = cause_of_err _ _ _ c.in_err-tile_type.ensures in
    let refused : head b ≡ Err errors.InvalidTileType = c.in_ok-check_front.ensures.ok ∙ rw (directories, tiles, type) refl in
    let given = err_from_is_err_and c.from_residual-in_err-tile_type.result c.from_residual-in_err-tile_type.ensures.1 in
    rw (refused, given.1, given.2) (ap Err cause)

pub returns : goal.returns
returns c =
    let b = c.args.bytes.now in
    let directories : slice_get compressions (byte_at 97 b) ≡ Some c.in_ok-internal_compression.internal_compression =
    found_by_ok _ _ _ c.in_ok-internal_compression.ensures in
    let tiles : slice_get compressions (byte_at 98 b) ≡ Some c.in_ok-tile_compression.tile_compression =
    found_by_ok _ _ _ c.in_ok-tile_compression.ensures in
    let type : slice_get tile_types (byte_at 99 b) ≡ Some c.in_ok-tile_type.tile_type = found_by_ok _ _ _ c.in_ok-tile_type.ensures in
    rw (c.in_ok-check_front.ensures.ok, directories, tiles, type) (ap Ok c.read_fields.ensures)
