-- Runs whose contents are added one after another.
use Rattle.tile_join.proofs.Common.{add_to, Adds, ap, Archive, arith, Bool, ByRoom, ComesTo, end_of, EndsBy, Err, false, Header, ids_of, IfSome, IndexEntryOverflow, InOrder, is_some, JoinError, length, List, looked, None, of_add_error, Ok, Option}
use Rattle.tile_join.proofs.Common.{Options, OutOfMemory, past_end, Piece, piece_count, PieceRead, PiecesPut, PiecesRefuse, put_all, put_next, put_pieces, Puts, PutsAll, PutsFound, PutsNext, PutsPieces, refl, Result, Some, subst, sym, Took, took_as, true}
use Rattle.tile_join.proofs.Common.{Writes, WriterState, ℕ, [], ◌+◌, ◌<◌, ◌∙◌, ◌∷◌, ◌≡◌, ◌≤◌}
use Rattle.pm_format.specs.declared.error.PmtError.TheVariants as errors
use Rattle.pm_format.specs.declared.error.ReadCause.TheVariants as causes
use Rattle.tile_extract.proofs.AddedLemmas.{ends_all, ends_later, ends_rise}
use Rattle.tile_extract.proofs.LyingLemmas.{puts_few}
use Rattle.tile_extract.specs.Written.{has_room}
use Rattle.tile_extract.specs.declared.error.ExtractError.{ExtractError}
use Rattle.tile_extract.specs.declared.error.ExtractError.TheVariants as extract
use Rattle.tile_join.proofs.SourceLemmas.{if_told}

-- what follows once the contents of the first of some runs are read
abbrev AfterFirst : (List ℕ → List ℕ → Type 0) → Options → List Header → List (List ℕ) → Piece → List Piece → Adds → Result Adds JoinError → List ℕ → Type 0
AfterFirst takes o hs bs p ps mid r bytes = (put : Result Adds ExtractError) × PutsAll takes o bytes mid (ids_of p.entry) put × PutsNext (λ more. PutsPieces takes o hs bs ps more r) r put

-- they lie there and are added, or they don't lie there
pieces_put : (takes : List ℕ → List ℕ → Type 0) (o : Options) (hs : List Header) (bs : List (List ℕ)) (p : Piece) (ps : List Piece) (mid : Adds) (bytes : List ℕ) (put : Result Adds ExtractError) (r : Result Adds JoinError) → looked hs bs p ≡ Some bytes
    → PutsAll takes o bytes mid (ids_of p.entry) put → PutsNext (λ more. PutsPieces takes o hs bs ps more r) r put → PutsPieces takes o hs bs (p ∷ ps) mid r
pieces_put takes o hs bs p ps mid bytes put r found is next = subst (PutsFound (AfterFirst takes o hs bs p ps mid r) p r) (sym found) (put, is, next)

pieces_past : (takes : List ℕ → List ℕ → Type 0) (o : Options) (hs : List Header) (bs : List (List ℕ)) (p : Piece) (ps : List Piece) (mid : Adds) → looked hs bs p ≡ None → PutsPieces takes o hs bs (p ∷ ps) mid (Err (past_end p))
pieces_past takes o hs bs p ps mid none =
    let past : Result Adds JoinError = Err (past_end p) in
    subst (PutsFound (AfterFirst takes o hs bs p ps mid past) p past) (sym none) refl

-- on a medium that tells, each of the data is taken for itself
put_told : (held : List ℕ) (o : Options) (bytes ids : List ℕ) (done : Adds) (r : Result Adds ExtractError) → PutsAll (Took (Some held)) o bytes done ids r → put_all o bytes done ids ≡ r
put_told held o bytes [] done r is = sym is
put_told held o bytes (id ∷ ids) done r is =
    by_room (has_room o done id bytes) (λ at. put_told held o bytes ids (add_to done id bytes) r at)
    (subst (λ taken. ByRoom (has_room o done id taken) (PutsAll (Took (Some held)) o bytes (add_to done id taken) ids r) (r ≡ Err extract.IndexEntryOverflow)) is.1 is.2)
  where
    by_room : (t : Bool) → (PutsAll (Took (Some held)) o bytes (add_to done id bytes) ids r → put_all o bytes (add_to done id bytes) ids ≡ r) → ByRoom t (PutsAll (Took (Some held)) o bytes (add_to done id bytes) ids r) (r ≡ Err extract.IndexEntryOverflow)
        → (elim t as (λ _. Result Adds ExtractError) [ true ↦ put_all o bytes (add_to done id bytes) ids | false ↦ Err extract.IndexEntryOverflow ]) ≡ r
    by_room true rest is = rest is
    by_room false rest is = sym is

pieces_told : (held : List ℕ) (o : Options) (hs : List Header) (bs : List (List ℕ)) (ps : List Piece) (done : Adds) (r : Result Adds JoinError) → PutsPieces (Took (Some held)) o hs bs ps done r → put_pieces o hs bs ps done ≡ r
pieces_told held o hs bs [] done r is = sym is
pieces_told held o hs bs (p ∷ ps) done r is = by_look (looked hs bs p) (λ mid at. pieces_told held o hs bs ps mid r at) is
  where
    by_put : (put : Result Adds ExtractError) → ((mid : Adds) → PutsPieces (Took (Some held)) o hs bs ps mid r → put_pieces o hs bs ps mid ≡ r) → PutsNext (λ more. PutsPieces (Took (Some held)) o hs bs ps more r) r put → put_next (put_pieces o hs bs ps) put ≡ r
    by_put (Ok mid) next is = next mid is
    by_put (Err e) next is = sym is

    by_look : (found : Option (List ℕ)) → ((mid : Adds) → PutsPieces (Took (Some held)) o hs bs ps mid r → put_pieces o hs bs ps mid ≡ r) → PutsFound (AfterFirst (Took (Some held)) o hs bs p ps done r) p r found
        → (elim found as (λ _. Result Adds JoinError) [ None ↦ Err (past_end p) | Some bytes ↦ put_next (put_pieces o hs bs ps) (put_all o bytes done (ids_of p.entry)) ]) ≡ r
    by_look None next is = sym is
    by_look (Some bytes) next is = ap (put_next (put_pieces o hs bs ps)) (put_told held o bytes (ids_of p.entry) done is.0 is.1) ∙ by_put is.0 next is.2

-- what runs come to
comes : (told : Option (List ℕ)) (o : Options) (hs : List Header) (bs : List (List ℕ)) (ps : List Piece) (r : Result Adds JoinError) → PutsPieces (Took told) o hs bs ps [] r → ComesTo told o hs bs ps r
comes None o hs bs ps r is = is
comes (Some held) o hs bs ps r is = pieces_told held o hs bs ps [] r is

-- whether the medium tells doesn't change
pub comes_as : (old new : Option (List ℕ)) (o : Options) (hs : List Header) (bs : List (List ℕ)) (ps : List Piece) (r : Result Adds JoinError) → is_some new ≡ is_some old → ComesTo old o hs bs ps r → ComesTo new o hs bs ps r
comes_as None None o hs bs ps r same is = is
comes_as None (Some x) o hs bs ps r same is = absurd (cc)
comes_as (Some a) None o hs bs ps r same is = absurd (cc)
comes_as (Some a) (Some x) o hs bs ps r same is = is

-- what the runs that are left come to behind what is added is what all come to
abbrev PiecesOn : (List ℕ → List ℕ → Type 0) → Options → List Header → List Piece → List Piece → Adds → List (List ℕ) → Type 0
PiecesOn takes o hs ps rest mid bs = (r : Result Adds JoinError) → PutsPieces takes o hs bs rest mid r → PutsPieces takes o hs bs ps [] r

-- the runs so far
pub record PutSoFar (n : ℕ) (o : Options) (hs : List Header) (sources : Option (List (List ℕ))) (ps rest : List Piece) (told : Option (List ℕ)) (s : WriterState) : Type 0 where
  pub mid : Adds
  pub writes : Writes o told s mid
  pub low : ℕ
  pub ordered : InOrder n low rest
  pub ends : EndsBy mid low
  pub few : length mid + piece_count rest ≤ piece_count ps
  pub so : IfSome sources (PiecesOn (Took told) o hs ps rest mid)

pub put_none : (n : ℕ) (o : Options) (hs : List Header) (sources : Option (List (List ℕ))) (ps : List Piece) (told : Option (List ℕ)) (s : WriterState) → InOrder n 0 ps → Writes o told s [] → PutSoFar n o hs sources ps ps told s
put_none n o hs sources ps told s order w = record { mid = []; writes = w; low = 0; ordered = order; ends = λ more r. r; few = omega arith; so = any sources }
  where
    any : (sources : Option (List (List ℕ))) → IfSome sources (PiecesOn (Took told) o hs ps ps [])
    any None = tt
    any (Some bs) = λ r is. is

-- a run that is read and added
pub put_more : (n : ℕ) (o : Options) (hs : List Header) (sources : Option (List (List ℕ))) (ps rest : List Piece) (p : Piece) (others : List Piece) (told now : Option (List ℕ)) (s new : WriterState) (bytes : List ℕ) (s1 : PutSoFar n o hs sources ps rest told s)
    → is_some now ≡ is_some told → rest ≡ p ∷ others → IfSome sources (λ bs. looked hs bs p ≡ Some bytes) → Puts o bytes s1.mid (ids_of p.entry) now new (Ok tt) → PutSoFar n o hs sources ps others now new
put_more n o hs sources ps rest p others told now s new bytes s1 tells first read put =
    let ordered : InOrder n s1.low (p ∷ others) = subst (InOrder n s1.low) first s1.ordered in
    record {
      mid = put.0;
      writes = put.2;
      low = p.entry.tile_id + p.entry.run_length;
      ordered = ordered.4;
      ends = ends_all (Took now) o bytes p.entry.run_length p.entry.tile_id s1.mid put.0 put.1 (ends_later s1.mid s1.low p.entry.tile_id ordered.1 s1.ends);
      few = let m = puts_few (Took now) o bytes p.entry.run_length p.entry.tile_id s1.mid put.0 put.1 in let k = s1.few in omega (arith, m, k, ap piece_count first);
      so = by sources (took_as (λ takes. IfSome sources (PiecesOn takes o hs ps rest s1.mid)) told now tells s1.so) read;
    }
  where
    by : (sources : Option (List (List ℕ))) → IfSome sources (PiecesOn (Took now) o hs ps rest s1.mid) → IfSome sources (λ bs. looked hs bs p ≡ Some bytes) → IfSome sources (PiecesOn (Took now) o hs ps others put.0)
    by None so found = tt
    by (Some bs) so found = λ r next. so r (subst (λ l. PutsPieces (Took now) o hs bs l s1.mid r) (sym first) (pieces_put (Took now) o hs bs p others s1.mid bytes (Ok put.0) r found put.1 next))

-- where no more are left
pub put_all_pieces : (n : ℕ) (o : Options) (hs : List Header) (sources : Option (List (List ℕ))) (ps rest : List Piece) (told : Option (List ℕ)) (s : WriterState) → rest ≡ [] → PutSoFar n o hs sources ps rest told s → PiecesPut o hs sources ps told s (Ok tt)
put_all_pieces n o hs sources ps rest told s none s1 = record {
  more = s1.mid;
  writes = s1.writes;
  rises = ends_rise s1.mid s1.low s1.ends;
  few = let m = s1.few in omega (arith, m);
  are = if_told (PiecesOn (Took told) o hs ps rest s1.mid) (λ bs. ComesTo told o hs bs ps (Ok s1.mid)) sources (λ bs is whole. comes told o hs bs ps (Ok s1.mid) (whole (Ok s1.mid) (subst (λ l. PutsPieces (Took told) o hs bs l s1.mid (Ok s1.mid)) (sym none) refl))) s1.so;
}

-- a run that isn't read
refused_by : (takes : List ℕ → List ℕ → Type 0) (whole : Result Adds JoinError → Type 0) (o : Options) (hs : List Header) (bs : List (List ℕ)) (p : Piece) (others : List Piece) (mid : Adds) (x : JoinError)
    → ((r : Result Adds JoinError) → PutsPieces takes o hs bs (p ∷ others) mid r → whole r) → PieceRead (looked hs bs p) p (Err x) → PiecesRefuse whole x
refused_by takes whole o hs bs p others mid (Archive k (errors.Reading causes.Fault)) so g = tt
refused_by takes whole o hs bs p others mid (Archive k (errors.Reading causes.PastEnd)) so g =
    subst (λ j. whole (Err (Archive j (errors.Reading causes.PastEnd)))) (sym g.0) (so (Err (past_end p)) (pieces_past takes o hs bs p others mid g.1))
refused_by takes whole o hs bs p others mid OutOfMemory so g = tt
refused_by takes whole o hs bs p others mid x so g = absurd g

pub read_refused : (n : ℕ) (o : Options) (hs : List Header) (sources : Option (List (List ℕ))) (ps rest : List Piece) (p : Piece) (others : List Piece) (told : Option (List ℕ)) (s new : WriterState) (x : JoinError) → PutSoFar n o hs sources ps rest told s
    → rest ≡ p ∷ others → IfSome sources (λ bs. PieceRead (looked hs bs p) p (Err x)) → PiecesPut o hs sources ps told new (Err x)
read_refused n o hs sources ps rest p others told s new x s1 first read = by sources s1.so read
  where
    by : (sources : Option (List (List ℕ))) → IfSome sources (PiecesOn (Took told) o hs ps rest s1.mid) → IfSome sources (λ bs. PieceRead (looked hs bs p) p (Err x)) → IfSome sources (λ bs. PiecesRefuse (ComesTo told o hs bs ps) x)
    by None so g = tt
    by (Some bs) so g = refused_by (Took told) (ComesTo told o hs bs ps) o hs bs p others s1.mid x (λ r is. comes told o hs bs ps r (so r (subst (λ l. PutsPieces (Took told) o hs bs l s1.mid r) (sym first) is))) g

-- a run that isn't added
put_by : (whole : Result Adds JoinError → Type 0) (o : Options) (hs : List Header) (bs : List (List ℕ)) (p : Piece) (others : List Piece) (mid : Adds) (bytes : List ℕ) (told : Option (List ℕ)) (s : WriterState) (x : ExtractError)
    → ((r : Result Adds JoinError) → PutsPieces (Took told) o hs bs (p ∷ others) mid r → whole r) → looked hs bs p ≡ Some bytes → Puts o bytes mid (ids_of p.entry) told s (Err x) → PiecesRefuse whole (of_add_error x)
put_by whole o hs bs p others mid bytes told s extract.IndexEntryOverflow so found put = so (Err IndexEntryOverflow) (pieces_put (Took told) o hs bs p others mid bytes (Err extract.IndexEntryOverflow) (Err IndexEntryOverflow) found put refl)
put_by whole o hs bs p others mid bytes told s extract.MediumFault so found put = tt
put_by whole o hs bs p others mid bytes told s extract.OutOfMemory so found put = tt
put_by whole o hs bs p others mid bytes told s x so found put = absurd put

pub put_refused : (n : ℕ) (o : Options) (hs : List Header) (sources : Option (List (List ℕ))) (ps rest : List Piece) (p : Piece) (others : List Piece) (told now : Option (List ℕ)) (s new : WriterState) (bytes : List ℕ) (x : ExtractError) (y : JoinError) (s1 : PutSoFar n o hs sources ps rest told s)
    → is_some now ≡ is_some told → rest ≡ p ∷ others → y ≡ of_add_error x → IfSome sources (λ bs. looked hs bs p ≡ Some bytes) → Puts o bytes s1.mid (ids_of p.entry) now new (Err x) → PiecesPut o hs sources ps now new (Err y)
put_refused n o hs sources ps rest p others told now s new bytes x y s1 tells first word read put =
    subst (λ y. PiecesPut o hs sources ps now new (Err y)) (sym word) (by sources (took_as (λ takes. IfSome sources (PiecesOn takes o hs ps rest s1.mid)) told now tells s1.so) read)
  where
    by : (sources : Option (List (List ℕ))) → IfSome sources (PiecesOn (Took now) o hs ps rest s1.mid) → IfSome sources (λ bs. looked hs bs p ≡ Some bytes) → IfSome sources (λ bs. PiecesRefuse (ComesTo now o hs bs ps) (of_add_error x))
    by None so found = tt
    by (Some bs) so found = put_by (ComesTo now o hs bs ps) o hs bs p others s1.mid bytes now new x (λ r is. comes now o hs bs ps r (so r (subst (λ l. PutsPieces (Took now) o hs bs l s1.mid r) (sym first) is))) found put

-- the runs behind one
pub rest_ordered : (n low : ℕ) (rest : List Piece) (p : Piece) (others : List Piece) → rest ≡ p ∷ others → InOrder n low rest → InOrder n (p.entry.tile_id + p.entry.run_length) others
rest_ordered n low rest p others first o = (subst (InOrder n low) first o).4

pub first_below : (n low : ℕ) (rest : List Piece) (p : Piece) (others : List Piece) → rest ≡ p ∷ others → InOrder n low rest → p.source < n
first_below n low rest p others first o = (subst (InOrder n low) first o).0

-- what is read of one, in the words of the code
pub read_as : (hs : List Header) (told again : Option (List (List ℕ))) (p : Piece) (bytes slice : List ℕ) → again ≡ told → slice ≡ bytes → IfSome again (λ bs. PieceRead (looked hs bs p) p (Ok bytes)) → IfSome told (λ bs. looked hs bs p ≡ Some slice)
read_as hs None again p bytes slice same is read = tt
read_as hs (Some bs) again p bytes slice same is read = let r = subst (λ o. IfSome o (λ bs. PieceRead (looked hs bs p) p (Ok bytes))) same read in r ∙ ap Some (sym is)

pub read_told : (hs : List Header) (told again : Option (List (List ℕ))) (p : Piece) (x : JoinError) → again ≡ told → IfSome again (λ bs. PieceRead (looked hs bs p) p (Err x)) → IfSome told (λ bs. PieceRead (looked hs bs p) p (Err x))
read_told hs told again p x same read = subst (λ o. IfSome o (λ bs. PieceRead (looked hs bs p) p (Err x))) same read

-- runs have at least one id each
pub as_many_tiles : (n low : ℕ) (ps : List Piece) → InOrder n low ps → length ps ≤ piece_count ps
as_many_tiles n low [] order = omega arith
as_many_tiles n low (p ∷ ps) order = let rest = as_many_tiles n (end_of p) ps order.4 in omega (arith, order.2, rest)
