-- Parts that are added one after another.
use Rattle.tile_extract.proofs.Common.{add_to, Adds, AddsLieIn, AllLieIn, ap, Archive, AreOrdered, arith, Bool, both_told, ByRoom, ComesTo, EndsBy, Entry, Err, ExtractError, false, Gives, has_room}
use Rattle.tile_extract.proofs.Common.{Header, ids_of, IfSome, IndexEntryOverflow, is_some, length, List, MediumFault, None, of_read_error, Ok, one_told, Option, Options, OutOfMemory, PartsPut}
use Rattle.tile_extract.proofs.Common.{PartsRefuse, PmtError, put_all, put_next, put_parts, Puts, PutsAll, PutsFound, PutsNext, PutsParts, range_of, range_read, RangeCauses, refl, Result, Some, subst}
use Rattle.tile_extract.proofs.Common.{sym, tile_count, Took, took_as, true, WriterState, Writes, ℕ, [], ◌+◌, ◌∙◌, ◌∷◌, ◌≡◌, ◌≤◌}
use Rattle.pm_format.specs.declared.error.PmtError.TheVariants as errors
use Rattle.pm_format.specs.declared.error.ReadCause.TheVariants as causes
use Rattle.tile_extract.proofs.AddedLemmas.{ends_all, ends_later, ends_rise}
use Rattle.tile_extract.proofs.LyingLemmas.{puts_few, puts_lie}

-- a range that is read, and one that isn't there
range_found : (b : List ℕ) (at len : ℕ) (bytes : List ℕ) → range_read b at len ≡ Ok bytes → range_of b at len ≡ Some bytes
range_found b at len bytes is = by_range (range_of b at len) is
  where
    by_range : (o : Option (List ℕ)) → (elim o as (λ _. Result (List ℕ) PmtError) [ None ↦ Err (errors.Reading causes.PastEnd) | Some x ↦ Ok x ]) ≡ Ok bytes → o ≡ Some bytes
    by_range None is = absurd (cc)
    by_range (Some x) is = cc

range_past : (b : List ℕ) (at len : ℕ) (e : PmtError) → range_read b at len ≡ Err e → range_of b at len ≡ None
range_past b at len e is = by_range (range_of b at len) is
  where
    by_range : (o : Option (List ℕ)) → (elim o as (λ _. Result (List ℕ) PmtError) [ None ↦ Err (errors.Reading causes.PastEnd) | Some x ↦ Ok x ]) ≡ Err e → o ≡ None
    by_range None is = refl
    by_range (Some x) is = absurd (cc)

-- what follows once the contents of the first of some parts are read
abbrev AfterFirst : (List ℕ → List ℕ → Type 0) → Options → Header → List ℕ → Entry → List Entry → Adds → Result Adds ExtractError → List ℕ → Type 0
AfterFirst takes o h b p ps mid r bytes = (put : Result Adds ExtractError) × PutsAll takes o bytes mid (ids_of p) put × PutsNext (λ more. PutsParts takes o h b ps more r) r put

-- they lie there and are added, or they don't lie there
parts_put : (takes : List ℕ → List ℕ → Type 0) (o : Options) (h : Header) (b : List ℕ) (p : Entry) (ps : List Entry) (mid : Adds) (bytes : List ℕ) (put r : Result Adds ExtractError) → range_read b (h.data_offset + p.offset) p.length ≡ Ok bytes
    → PutsAll takes o bytes mid (ids_of p) put → PutsNext (λ more. PutsParts takes o h b ps more r) r put → PutsParts takes o h b (p ∷ ps) mid r
parts_put takes o h b p ps mid bytes put r read is next =
    subst (PutsFound (AfterFirst takes o h b p ps mid r) r) (sym (range_found b (h.data_offset + p.offset) p.length bytes read)) (put, is, next)

parts_past : (takes : List ℕ → List ℕ → Type 0) (o : Options) (h : Header) (b : List ℕ) (p : Entry) (ps : List Entry) (mid : Adds) (e : PmtError) → range_read b (h.data_offset + p.offset) p.length ≡ Err e
    → PutsParts takes o h b (p ∷ ps) mid (Err (Archive (errors.Reading causes.PastEnd)))
parts_past takes o h b p ps mid e read =
    let past : Result Adds ExtractError = Err (Archive (errors.Reading causes.PastEnd)) in
    subst (PutsFound (AfterFirst takes o h b p ps mid past) past) (sym (range_past b (h.data_offset + p.offset) p.length e read)) refl

-- on a medium that tells, each of the data is taken for itself
all_told : (held : List ℕ) (o : Options) (bytes ids : List ℕ) (done : Adds) (r : Result Adds ExtractError) → PutsAll (Took (Some held)) o bytes done ids r → put_all o bytes done ids ≡ r
all_told held o bytes [] done r is = sym is
all_told held o bytes (id ∷ ids) done r is =
    by_room (has_room o done id bytes) (λ at. all_told held o bytes ids (add_to done id bytes) r at)
    (subst (λ taken. ByRoom (has_room o done id taken) (PutsAll (Took (Some held)) o bytes (add_to done id taken) ids r) (r ≡ Err IndexEntryOverflow)) is.1 is.2)
  where
    by_room : (t : Bool) → (PutsAll (Took (Some held)) o bytes (add_to done id bytes) ids r → put_all o bytes (add_to done id bytes) ids ≡ r) → ByRoom t (PutsAll (Took (Some held)) o bytes (add_to done id bytes) ids r) (r ≡ Err IndexEntryOverflow)
        → (elim t as (λ _. Result Adds ExtractError) [ true ↦ put_all o bytes (add_to done id bytes) ids | false ↦ Err IndexEntryOverflow ]) ≡ r
    by_room true rest is = rest is
    by_room false rest is = sym is

parts_told : (held : List ℕ) (o : Options) (h : Header) (b : List ℕ) (ps : List Entry) (done : Adds) (r : Result Adds ExtractError) → PutsParts (Took (Some held)) o h b ps done r → put_parts o h b ps done ≡ r
parts_told held o h b [] done r is = sym is
parts_told held o h b (p ∷ ps) done r is = by_range (range_of b (h.data_offset + p.offset) p.length) (λ mid at. parts_told held o h b ps mid r at) is
  where
    by_put : (put : Result Adds ExtractError) → ((mid : Adds) → PutsParts (Took (Some held)) o h b ps mid r → put_parts o h b ps mid ≡ r) → PutsNext (λ more. PutsParts (Took (Some held)) o h b ps more r) r put → put_next (put_parts o h b ps) put ≡ r
    by_put (Ok mid) next is = next mid is
    by_put (Err e) next is = sym is

    by_range : (found : Option (List ℕ)) → ((mid : Adds) → PutsParts (Took (Some held)) o h b ps mid r → put_parts o h b ps mid ≡ r) → PutsFound (AfterFirst (Took (Some held)) o h b p ps done r) r found
        → (elim found as (λ _. Result Adds ExtractError) [ None ↦ Err (Archive (errors.Reading causes.PastEnd)) | Some bytes ↦ put_next (put_parts o h b ps) (put_all o bytes done (ids_of p)) ]) ≡ r
    by_range None next is = sym is
    by_range (Some bytes) next is = ap (put_next (put_parts o h b ps)) (all_told held o bytes (ids_of p) done is.0 is.1) ∙ by_put is.0 next is.2

-- what parts come to
comes : (told : Option (List ℕ)) (o : Options) (h : Header) (b : List ℕ) (ps : List Entry) (r : Result Adds ExtractError) → PutsParts (Took told) o h b ps [] r → ComesTo told o h b ps r
comes None o h b ps r is = is
comes (Some held) o h b ps r is = parts_told held o h b ps [] r is

-- whether the medium tells doesn't change
pub comes_as : (old new : Option (List ℕ)) (o : Options) (h : Header) (b : List ℕ) (ps : List Entry) (r : Result Adds ExtractError) → is_some new ≡ is_some old → ComesTo old o h b ps r → ComesTo new o h b ps r
comes_as None None o h b ps r same is = is
comes_as None (Some x) o h b ps r same is = absurd (cc)
comes_as (Some a) None o h b ps r same is = absurd (cc)
comes_as (Some a) (Some x) o h b ps r same is = is

-- what the parts that are left come to behind what is added is what all come to
abbrev PartsOn : (List ℕ → List ℕ → Type 0) → Options → Header → List Entry → List Entry → Adds → List ℕ → Type 0
PartsOn takes o h ps rest mid b = (r : Result Adds ExtractError) → PutsParts takes o h b rest mid r → PutsParts takes o h b ps [] r

-- the parts so far
pub record PutSoFar (o : Options) (h : Header) (source : Option (List ℕ)) (ps rest : List Entry) (told : Option (List ℕ)) (s : WriterState) : Type 0 where
  pub mid : Adds
  pub writes : Writes o told s mid
  pub low : ℕ
  pub ordered : AreOrdered low rest None
  pub ends : EndsBy mid low
  pub few : length mid + tile_count rest ≤ tile_count ps
  pub within : (is : List (ℕ × ℕ)) → AllLieIn is ps → AddsLieIn is mid × AllLieIn is rest
  pub so : IfSome source (λ b. (r : Result Adds ExtractError) → PutsParts (Took told) o h b rest mid r → PutsParts (Took told) o h b ps [] r)

-- a part that is read and added
pub put_more : (o : Options) (h : Header) (source again : Option (List ℕ)) (ps rest : List Entry) (p : Entry) (others : List Entry) (told now : Option (List ℕ)) (s new : WriterState) (bytes : List ℕ) (s1 : PutSoFar o h source ps rest told s)
    → again ≡ source → is_some now ≡ is_some told → rest ≡ p ∷ others → IfSome again (λ b. Gives (range_read b (h.data_offset + p.offset) p.length) (Ok bytes)) → Puts o bytes s1.mid (ids_of p) now new (Ok tt) → PutSoFar o h source ps others now new
put_more o h source again ps rest p others told now s new bytes s1 same tells first read put =
    let ordered : AreOrdered s1.low (p ∷ others) None = subst (λ l. AreOrdered s1.low l None) first s1.ordered in
    record {
      mid = put.0;
      writes = put.2;
      low = p.tile_id + p.run_length;
      ordered = ordered.3;
      ends = ends_all (Took now) o bytes p.run_length p.tile_id s1.mid put.0 put.1 (ends_later s1.mid s1.low p.tile_id ordered.0 s1.ends);
      few = let n = puts_few (Took now) o bytes p.run_length p.tile_id s1.mid put.0 put.1 in let m = s1.few in omega (arith, n, m, ap tile_count first);
      within = λ is l.
          let w = s1.within is l in
          let lie : AllLieIn is (p ∷ others) = subst (AllLieIn is) first w.1 in
          (puts_lie (Took now) o bytes is p.run_length p.tile_id s1.mid put.0 put.1 lie.0 w.0, lie.1);
      so = both_told (PartsOn (Took now) o h ps rest s1.mid) (λ b. Gives (range_read b (h.data_offset + p.offset) p.length) (Ok bytes)) (PartsOn (Took now) o h ps others put.0) source again same
          (λ b whole found r next. whole r (subst (λ l. PutsParts (Took now) o h b l s1.mid r) (sym first) (parts_put (Took now) o h b p others s1.mid bytes (Ok put.0) r found put.1 next)))
          (took_as (λ takes. IfSome source (PartsOn takes o h ps rest s1.mid)) told now tells s1.so) read;
    }

-- where no more are left
pub put_all_parts : (o : Options) (h : Header) (source : Option (List ℕ)) (ps rest : List Entry) (told : Option (List ℕ)) (s : WriterState) → rest ≡ [] → PutSoFar o h source ps rest told s → PartsPut o h source ps told s (Ok tt)
put_all_parts o h source ps rest told s none s1 = record {
  more = s1.mid;
  writes = s1.writes;
  rises = ends_rise s1.mid s1.low s1.ends;
  ids = record { few = let m = s1.few in omega (arith, m); within = λ is l. (s1.within is l).0 };
  are = one_told (PartsOn (Took told) o h ps rest s1.mid) (λ b. ComesTo told o h b ps (Ok s1.mid)) source (λ b whole. comes told o h b ps (Ok s1.mid) (whole (Ok s1.mid) (subst (λ l. PutsParts (Took told) o h b l s1.mid (Ok s1.mid)) (sym none) refl))) s1.so;
}

-- a part that isn't read
refused_by : (takes : List ℕ → List ℕ → Type 0) (whole : Result Adds ExtractError → Type 0) (o : Options) (h : Header) (b : List ℕ) (p : Entry) (others : List Entry) (mid : Adds) (before now : ℕ) (e : PmtError)
    → ((r : Result Adds ExtractError) → PutsParts takes o h b (p ∷ others) mid r → whole r) → Gives (range_read b (h.data_offset + p.offset) p.length) (Err e) → RangeCauses {A = List ℕ} before now (Err e) → PartsRefuse whole (of_read_error e)
refused_by takes whole o h b p others mid before now errors.OutOfMemory so g c = tt
refused_by takes whole o h b p others mid before now (errors.Reading causes.Fault) so g c = tt
refused_by takes whole o h b p others mid before now (errors.Reading causes.PastEnd) so g c =
    so (Err (Archive (errors.Reading causes.PastEnd))) (parts_past takes o h b p others mid (errors.Reading causes.PastEnd) g)
refused_by takes whole o h b p others mid before now (errors.UnexpectedNumberOfBytesReturned asked got) so g c = absurd g
refused_by takes whole o h b p others mid before now e so g c = absurd c

pub read_refused : (o : Options) (h : Header) (source again : Option (List ℕ)) (ps rest : List Entry) (p : Entry) (others : List Entry) (told : Option (List ℕ)) (s new : WriterState) (before after : ℕ) (e : PmtError) → PutSoFar o h source ps rest told s
    → again ≡ source → rest ≡ p ∷ others → IfSome again (λ b. Gives (range_read b (h.data_offset + p.offset) p.length) (Err e)) → RangeCauses {A = List ℕ} before after (Err e) → PartsPut o h source ps told new (Err (of_read_error e))
read_refused o h source again ps rest p others told s new before after e s1 same first read c =
    both_told (PartsOn (Took told) o h ps rest s1.mid) (λ b. Gives (range_read b (h.data_offset + p.offset) p.length) (Err e)) (λ b. PartsRefuse (ComesTo told o h b ps) (of_read_error e)) source again same
    (λ b whole g. refused_by (Took told) (ComesTo told o h b ps) o h b p others s1.mid before after e (λ r is. comes told o h b ps r (whole r (subst (λ l. PutsParts (Took told) o h b l s1.mid r) (sym first) is))) g c) s1.so read

-- a part that isn't added
put_by : (whole : Result Adds ExtractError → Type 0) (o : Options) (h : Header) (b : List ℕ) (p : Entry) (others : List Entry) (mid : Adds) (bytes : List ℕ) (told : Option (List ℕ)) (s : WriterState) (x : ExtractError)
    → ((r : Result Adds ExtractError) → PutsParts (Took told) o h b (p ∷ others) mid r → whole r) → range_read b (h.data_offset + p.offset) p.length ≡ Ok bytes → Puts o bytes mid (ids_of p) told s (Err x) → PartsRefuse whole x
put_by whole o h b p others mid bytes told s IndexEntryOverflow so read put = so (Err IndexEntryOverflow) (parts_put (Took told) o h b p others mid bytes (Err IndexEntryOverflow) (Err IndexEntryOverflow) read put refl)
put_by whole o h b p others mid bytes told s MediumFault so read put = tt
put_by whole o h b p others mid bytes told s OutOfMemory so read put = tt
put_by whole o h b p others mid bytes told s x so read put = absurd put

pub put_refused : (o : Options) (h : Header) (source again : Option (List ℕ)) (ps rest : List Entry) (p : Entry) (others : List Entry) (told now : Option (List ℕ)) (s new : WriterState) (bytes : List ℕ) (x : ExtractError) (s1 : PutSoFar o h source ps rest told s)
    → again ≡ source → is_some now ≡ is_some told → rest ≡ p ∷ others → IfSome again (λ b. Gives (range_read b (h.data_offset + p.offset) p.length) (Ok bytes)) → Puts o bytes s1.mid (ids_of p) now new (Err x) → PartsPut o h source ps now new (Err x)
put_refused o h source again ps rest p others told now s new bytes x s1 same tells first read put =
    both_told (PartsOn (Took now) o h ps rest s1.mid) (λ b. Gives (range_read b (h.data_offset + p.offset) p.length) (Ok bytes)) (λ b. PartsRefuse (ComesTo now o h b ps) x) source again same
    (λ b whole found. put_by (ComesTo now o h b ps) o h b p others s1.mid bytes now new x (λ r is. comes now o h b ps r (whole r (subst (λ l. PutsParts (Took now) o h b l s1.mid r) (sym first) is))) found put)
    (took_as (λ takes. IfSome source (PartsOn takes o h ps rest s1.mid)) told now tells s1.so) read

-- what was read for a part, by the place that it was asked for
pub read_at : (again : Option (List ℕ)) (h : Header) (off len : ℕ) (p : Entry) (r : Result (List ℕ) PmtError) → off ≡ p.offset → len ≡ p.length → IfSome again (λ b. Gives (range_read b (h.data_offset + off) len) r) → IfSome again (λ b. Gives (range_read b (h.data_offset + p.offset) p.length) r)
read_at None h off len p r o l g = tt
read_at (Some b) h off len p r o l g = subst (λ n. Gives (range_read b (h.data_offset + p.offset) n) r) l (subst (λ n. Gives (range_read b (h.data_offset + n) len) r) o g)

-- the parts behind one
pub rest_ordered : (low : ℕ) (rest : List Entry) (p : Entry) (others : List Entry) → rest ≡ p ∷ others → AreOrdered low rest None → AreOrdered (p.tile_id + p.run_length) others None
rest_ordered low rest p others first o = (subst (λ l. AreOrdered low l None) first o).3
