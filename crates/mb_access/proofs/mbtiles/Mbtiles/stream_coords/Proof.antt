-- A stream of coordinates is made of a store. Assumes `Logic`.
use Rattle.mb_access.proofs.Common.{coords_loaded, done, erased, feq_i, fjoin, fpack, List, move, MutRef, named, named_lft, nothing, of_list, param, qed, refl, Val, Valss, vstruct, within, !, [], ‵}
use Rattle.mb_access.proofs.Common.{◌$◌, ◌∵◌, ◌∷◌}
use denote.Struct.Declared as Declared
use Rattle.mb_access.specs.contracts.stream_state.StreamState as S-type
use Rattle.mb_access.specs.contracts.streams.Coords as W-type
use Rattle.mb_access.specs.contracts.mbtiles.Mbtiles.stream_coords.Key.{name as #self}
use Rattle.mb_access.proofs.Making.{inst, makes}
use Rattle.mb_access.proofs.mbtiles.Mbtiles.stream_coords.Code as code
use Rattle.mb_access.proofs.mbtiles.Mbtiles.stream_coords.Statement.{statement}

pub stream_coords_spec : {M : Type 1} → statement M
stream_coords_spec 𝓤 𝓛 𝓜 𝓡 wired Y L gb db mb =
    let R = param 0 Y in let S = S-type.the_row in
    makes 𝓤 𝓛 𝓜 𝓡 Y L gb db mb (W-type.struct (record { mir = erased; lft = [] }) R S).name (λ κs. W-type.the_row (named_lft 3 1 tt κs) R S)
    (λ κs. record {
      make = λ r x. record { store = r; state = x };
      store = λ d. d.store;
      state = λ d. d.state;
      loaded = coords_loaded;
      same_store = λ r x. refl;
      same_state = λ r x. refl;
      loads = λ r x. refl;
      refuses = λ e. refl;
      owns = λ r x v u. let wv : Val = vstruct (of_list (v ∷ u ∷ [])) in let B = MutRef (named 1) κs.1.0 R in
          qed 𝓛 (‵ (B.own_val r (v ∷ [])) ∷ ‵ (S.own_val x (u ∷ [])) ∷ []) ∵ nothing ! $ move ! (2 ∷ 0 ∷ []) $ fjoin ! $ move ! (1 ∷ 0 ∷ []) $ fjoin ! $
          feq_i ! (List Val) (wv ∷ []) (wv ∷ []) refl $ fjoin ! $
          fpack ! (Valss (B ∷ S ∷ [])) (within (Declared.shape (W-type.the_type (named_lft 3 1 tt κs) R S)) (r, (x, tt)) (wv ∷ [])) (v ∷ [], (u ∷ [], tt)) $ done !;
    })
    (#self (inst Y db)) (code.unfolded 𝓤 𝓛.H 𝓜 𝓡 wired (Y, tt) db) (code.calls-mb_access::stream_state::StreamState::start 𝓡.env wired)
