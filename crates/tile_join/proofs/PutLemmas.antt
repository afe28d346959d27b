-- The tiles of what runs come to, by their ids.
use Rattle.tile_join.proofs.Common.{Adds, ap, append-nil, append_assoc, AreOrdered, arith, Bool, end_of, Err, false, get_or, Header, ids_of, if◌then◌else◌, InOrder, JoinError, List, look_in, looked, none-some, None, Ok, Option, Options, past_end, Piece, put_all, put_next, put_pieces, refl, Result}
use Rattle.tile_join.proofs.Common.{slice_get, Some, sym, tile_in, true, ℕ, [], ◌++◌, ◌∙◌, ◌∷◌, ◌≡◌, ◌≤◌, nat_eq}
use Rattle.pm_format.specs.declared.error.PmtError.TheVariants as errors
use Rattle.pm_format.specs.declared.error.ReadCause.TheVariants as causes
use Rattle.pm_walk.proofs.CoveringLemmas.{covers_here, covers_later, has_id}
use Rattle.pm_walk.proofs.WholeLemmas.{held}
use Rattle.tile_extract.proofs.AddedLemmas.{ok_is}
use Rattle.tile_extract.proofs.TileLemmas.{all_behind, put_is}
use Rattle.tile_extract.specs.Written as written
use Rattle.tile_extract.specs.declared.error.ExtractError.{ExtractError}
use Rattle.tile_extract.specs.declared.error.ExtractError.TheVariants as extract
use Rattle.tile_join.proofs.JoinedLemmas.{held_some, looked_long, TileAt}
use Rattle.tile_join.proofs.MapLemmas.{spot}

-- adds before others
tile_behind : (xs ys : Adds) (t : ℕ) → tile_in xs t ≡ None → tile_in (xs ++ ys) t ≡ tile_in ys t
tile_behind [] ys t none = refl
tile_behind (x ∷ xs) ys t none = by (nat_eq x.0 t) (λ n. tile_behind xs ys t n) none
  where
    by : (b : Bool) → (tile_in xs t ≡ None → tile_in (xs ++ ys) t ≡ tile_in ys t) → (if b then Some x.1 else tile_in xs t) ≡ None → (if b then Some x.1 else tile_in (xs ++ ys) t) ≡ tile_in ys t
    by true rest none = absurd (none-some x.1 (sym none))
    by false rest none = rest none

tile_before : (xs ys : Adds) (t : ℕ) (bytes : List ℕ) → tile_in xs t ≡ Some bytes → tile_in (xs ++ ys) t ≡ Some bytes
tile_before [] ys t bytes is = absurd (none-some bytes is)
tile_before (x ∷ xs) ys t bytes is = by (nat_eq x.0 t) (λ n. tile_before xs ys t bytes n) is
  where
    by : (b : Bool) → (tile_in xs t ≡ Some bytes → tile_in (xs ++ ys) t ≡ Some bytes) → (if b then Some x.1 else tile_in xs t) ≡ Some bytes → (if b then Some x.1 else tile_in (xs ++ ys) t) ≡ Some bytes
    by true rest is = is
    by false rest is = rest is

-- what one run adds
record OnePut (p : Piece) (bytes : List ℕ) (done mid : Adds) (t : ℕ) : Type 0 where
  pub rest : Adds
  pub whole : mid ≡ done ++ rest
  pub here : has_id t p.entry ≡ true → 1 ≤ p.entry.length → tile_in rest t ≡ Some bytes
  pub off : has_id t p.entry ≡ false → tile_in rest t ≡ None

one_put : (o : Options) (hs : List Header) (bs : List (List ℕ)) (p : Piece) (low : ℕ) (bytes : List ℕ) (done mid : Adds) (t : ℕ) → AreOrdered low (p.entry ∷ []) None → looked hs bs p ≡ Some bytes → put_all o bytes done (ids_of p.entry) ≡ Ok mid → OnePut p bytes done mid t
one_put o hs bs p low bytes done mid t order found put = by (slice_get hs p.source) found
  where
    by : (h : Option Header) → look_in (get_or bs p.source []) p h ≡ Some bytes → OnePut p bytes done mid t
    by None is = absurd (none-some bytes is)
    by (Some h) is =
        let b = get_or bs p.source [] in
        let same : written.put_parts o h b (p.entry ∷ []) done ≡ Ok mid =
        ap (λ r. elim r as (λ _. Result Adds ExtractError) [ None ↦ Err (extract.Archive (errors.Reading causes.PastEnd)) | Some x ↦ written.put_next (written.put_parts o h b []) (put_all o x done (ids_of p.entry)) ]) is
        ∙ ap (written.put_next (written.put_parts o h b [])) put in
        let a = all_behind h b (p.entry ∷ []) low done t order in
        record {
          rest = a.rest;
          whole = put_is o h b (p.entry ∷ []) done mid same ∙ a.whole;
          here = λ has some. a.tile ∙ ap (held h b) (covers_here t p.entry [] has) ∙ held_some h b p.entry bytes is (let long = looked_long hs bs p bytes found in omega (arith, long, some));
          off = λ out. a.tile ∙ ap (held h b) (covers_later t p.entry [] out);
        }

-- what runs add behind other adds has at each id the tile that the runs have there
record PutBehind (hs : List Header) (bs : List (List ℕ)) (ps : List Piece) (done adds : Adds) (t : ℕ) : Type 0 where
  pub rest : Adds
  pub whole : adds ≡ done ++ rest
  pub tile : (x : Option (List ℕ)) → TileAt hs bs x (spot t ps) → tile_in rest t ≡ x

put_behind : (o : Options) (hs : List Header) (bs : List (List ℕ)) (n low : ℕ) (ps : List Piece) (done adds : Adds) (t : ℕ) → InOrder n low ps → put_pieces o hs bs ps done ≡ Ok adds → PutBehind hs bs ps done adds t
put_behind o hs bs n low [] done adds t order is = record { rest = []; whole = sym (ok_is done adds is) ∙ sym (append-nil done); tile = λ x at. sym at }
put_behind o hs bs n low (p ∷ ps) done adds t order is = by_look (looked hs bs p) refl (λ mid at. put_behind o hs bs n (end_of p) ps mid adds t order.4 at) is
  where
    one_order : AreOrdered low (p.entry ∷ []) None
    one_order = (order.1, order.2, order.3, refl)

    by_put : (bytes : List ℕ) → looked hs bs p ≡ Some bytes → (r : Result Adds ExtractError) → put_all o bytes done (ids_of p.entry) ≡ r → ((mid : Adds) → put_pieces o hs bs ps mid ≡ Ok adds → PutBehind hs bs ps mid adds t) → put_next (put_pieces o hs bs ps) r ≡ Ok adds
        → PutBehind hs bs (p ∷ ps) done adds t
    by_put bytes found (Err e) put next is = absurd (cc)
    by_put bytes found (Ok mid) put next is =
        let a = next mid is in
        let one = one_put o hs bs p low bytes done mid t one_order found put in
        record {
          rest = one.rest ++ a.rest;
          whole = a.whole ∙ ap (λ l. l ++ a.rest) one.whole ∙ append_assoc done one.rest a.rest;
          tile = λ x at. by_test x a.rest (a.tile x) one.rest one.here one.off (has_id t p.entry) refl at;
        }
      where
        by_test : (x : Option (List ℕ)) (rest : Adds) → (TileAt hs bs x (spot t ps) → tile_in rest t ≡ x) → (first : Adds) → (has_id t p.entry ≡ true → 1 ≤ p.entry.length → tile_in first t ≡ Some bytes) → (has_id t p.entry ≡ false → tile_in first t ≡ None) → (b : Bool) → has_id t p.entry ≡ b
            → TileAt hs bs x (if b then Some p else spot t ps) → tile_in (first ++ rest) t ≡ x
        by_test x rest later first here off true has at = tile_before first rest t bytes (here has at.some) ∙ sym (at.is bytes found)
        by_test x rest later first here off false has at = tile_behind first rest t (off has) ∙ later at

    by_look : (r : Option (List ℕ)) → looked hs bs p ≡ r → ((mid : Adds) → put_pieces o hs bs ps mid ≡ Ok adds → PutBehind hs bs ps mid adds t)
        → (elim r as (λ _. Result Adds JoinError) [ None ↦ Err (past_end p) | Some bytes ↦ put_next (put_pieces o hs bs ps) (put_all o bytes done (ids_of p.entry)) ]) ≡ Ok adds → PutBehind hs bs (p ∷ ps) done adds t
    by_look None found next is = absurd (cc)
    by_look (Some bytes) found next is = by_put bytes found (put_all o bytes done (ids_of p.entry)) refl next is

pub put_spot : (o : Options) (hs : List Header) (bs : List (List ℕ)) (n low : ℕ) (ps : List Piece) (adds : Adds) (t : ℕ) (tile : Option (List ℕ)) → InOrder n low ps → put_pieces o hs bs ps [] ≡ Ok adds → TileAt hs bs tile (spot t ps) → tile_in adds t ≡ tile
put_spot o hs bs n low ps adds t tile order is at =
    let a = put_behind o hs bs n low ps [] adds t order is in
    ap (λ l. tile_in l t) a.whole ∙ a.tile tile at
