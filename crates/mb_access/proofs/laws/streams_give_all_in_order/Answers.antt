use Rattle.mb_access.proofs.Common.{refl}
use Rattle.mb_access.proofs.StreamRunLemmas.{coords_go_on, front, tiles_go_on, whole}
use Rattle.mb_access.proofs.laws.streams_give_all_in_order.Goals as goal

pub returns-clause-coords : goal.returns-clause-coords
returns-clause-coords g c = λ s t xs tells y.
    let m = g.S.TileStore in
    front _ _ _ _ _ (coords_go_on m.told m.tells m.faults m.steady (m.told s.store.now)) s xs t (tells, refl) y

pub returns-clause-all_coords : goal.returns-clause-all_coords
returns-clause-all_coords g c = λ s t xs tells y ok.
    let m = g.S.TileStore in
    whole _ _ _ _ _ (coords_go_on m.told m.tells m.faults m.steady (m.told s.store.now)) s xs y.0 t (tells, refl) y.1 y.2 ok

pub returns-clause-tiles : goal.returns-clause-tiles
returns-clause-tiles g c = λ s t xs tells y.
    let m = g.S.TileStore in
    front _ _ _ _ _ (tiles_go_on m.told m.tells m.faults m.steady (m.told s.store.now)) s xs t (tells, refl) y

pub returns-clause-all_tiles : goal.returns-clause-all_tiles
returns-clause-all_tiles g c = λ s t xs tells y ok.
    let m = g.S.TileStore in
    whole _ _ _ _ _ (tiles_go_on m.told m.tells m.faults m.steady (m.told s.store.now)) s xs y.0 t (tells, refl) y.1 y.2 ok
