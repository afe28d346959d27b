-- Places that the order doesn't tell apart are equal.
use Rattle.mb_lists.proofs.Common.{eq_by_cmp, Equal, Greater, IsAntisymmetric, Less, nat_cmp, nat_cmp-IsAntisymmetric, Ordering, ordering_then, Place, place_cmp, refl, true, ◌≡◌}
use Rattle.mb_lists.proofs.Items.{equal_of}

then_equal : (a b : Ordering) → ordering_then a b ≡ Equal → (a ≡ Equal) × (b ≡ Equal)
then_equal Less b h = cc
then_equal Equal b h = (refl, h)
then_equal Greater b h = cc

pub from_parts : (p q : Place) → p.zoom ≡ q.zoom → p.column ≡ q.column → p.row ≡ q.row → p ≡ q
from_parts p q z c r = λ i. record { zoom = z i; column = c i; row = r i }

pub places_antisymmetric : IsAntisymmetric place_cmp
places_antisymmetric p q h =
    let zs = then_equal (nat_cmp p.zoom q.zoom) (ordering_then (nat_cmp p.column q.column) (nat_cmp p.row q.row)) h in
    let cs = then_equal (nat_cmp p.column q.column) (nat_cmp p.row q.row) zs.1 in
    from_parts p q (nat_cmp-IsAntisymmetric p.zoom q.zoom zs.0) (nat_cmp-IsAntisymmetric p.column q.column cs.0) (nat_cmp-IsAntisymmetric p.row q.row cs.1)

pub same_place : (p q : Place) → eq_by_cmp place_cmp p q ≡ true → p ≡ q
same_place p q h = places_antisymmetric p q (equal_of (place_cmp p q) h)
