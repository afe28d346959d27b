-- The tiles of a set at each place.
use Rattle.mb_tables.proofs.Common.{ap, cond, find, get, get-from_entries, get-retain_keys, get_tied, is_solid, IsTotalOrder, nat_cmp_total, None, on_total, pairs_of, Place, place_cmp, solid, Tables}
use Rattle.mb_tables.proofs.Common.{then_total, tiles_of, TileSet, ◌≡◌}
use Rattle.mb_tables.specs.declared.kind.MbtType.{MbtType}

pub places_total : IsTotalOrder place_cmp
places_total = then_total (on_total (λ (p : Place). p.zoom) nat_cmp_total) (then_total (on_total (λ (p : Place). p.column) nat_cmp_total) (on_total (λ (p : Place). p.row) nat_cmp_total))

pub get-tiles_of : (layout : MbtType) (t : Tables) (place : Place) → get (tiles_of layout t) place ≡ find place_cmp place (pairs_of layout t)
get-tiles_of layout t place = get-from_entries places_total (pairs_of layout t) place

pub get-solid : (t : TileSet) (place : Place) → get (solid t) place ≡ cond (is_solid (get t place)) (get t place) None
get-solid t place = get-retain_keys t (λ p. is_solid (get t p)) place (λ p tie. ap is_solid (get_tied places_total t place p tie))
