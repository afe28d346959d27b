-- What is found before the tiles are written.
use Rattle.tile_join.proofs.Common.{all_told, Bool, Different, false, IfSome, nat_le, nat_tests, None, Option, PlanCauses, suc, TextCauses, TextRead, true, zero, ◌∷◌}
use Rattle.tile_join.proofs.SourceLemmas.{told_long}
use Rattle.tile_join.proofs.Common.{All, ap, Archive, arith, Err, gathered, Gathered, gathered_of, GatherCauses, get_or, Header, header_of, inl, inr, IsAlike, IsEarly, IsLastText, IsPlanned, JoinError, last_of, length, length-map, List, map, Ok, option_map}
use Rattle.tile_join.proofs.Common.{Options, options_for, OutOfMemory, Piece, piece_count, Read, ReaderState, refl, Refuses, same_Some, slice_get, slice_get-get_or, slice_get-map, Some, subst, sym, TextRefused, TooManyTiles, UnlikeAt, ℕ, [], ◌-◌, ◌<◌, ◌∙◌, ◌≡◌, ◌≢◌, ◌≤◌}
use Rattle.pm_format.specs.declared.error.PmtError.TheVariants as errors
use Rattle.pm_format.specs.declared.error.ReadCause.TheVariants as causes

-- all of them are read
abbrev pub read_of : (bs : List (List ℕ)) (most : ℕ) (readers : List ReaderState) (pieces : List Piece) (text : List ℕ) → gathered most bs ≡ Ok (gathered_of readers pieces) → IsLastText bs (map header_of readers) text → Read bs most
read_of bs most readers pieces text gathers t = record { found = gathered_of readers pieces; gathers = gathers; last = t.last; lasts = t.lasts; text = text; metadata = t.metadata; utf8 = t.utf8 }

-- the last one's header
pub last_is : (bs : List (List ℕ)) (readers : List ReaderState) (text : List ℕ) (s : ReaderState) (at : ℕ) → (t : IsLastText bs (map header_of readers) text) → length readers ≡ length bs → length readers ≢ 0 → at ≡ length readers - 1 → s ≡ get_or readers at s → header_of s ≡ t.last
last_is bs readers text s at t many some is same =
    let place : last_of bs ≡ at = omega (arith, many, is) in
    let low : at < length readers = omega (arith, some, is) in
    same_Some (header_of s) t.last (sym (slice_get-map header_of readers at ∙ ap (option_map header_of) (slice_get-get_or readers at s low ∙ ap Some (sym same))) ∙ ap (slice_get (map header_of readers)) (sym place) ∙ t.lasts)

pub planned_by : (bs : List (List ℕ)) (most : ℕ) (o : Options) (readers : List ReaderState) (pieces : List Piece) (text : List ℕ) (h : Header) → gathered most bs ≡ Ok (gathered_of readers pieces) → (t : IsLastText bs (map header_of readers) text) → h ≡ t.last → All (IsAlike h) (map header_of readers) → piece_count pieces ≤ most
    → o ≡ options_for h (map header_of readers) text → IsPlanned bs most o readers pieces
planned_by bs most o readers pieces text h gathers t same alike few is = record {
  due = record { read = read_of bs most readers pieces text gathers t; alike = subst (λ l. All (IsAlike l) (map header_of readers)) same alike; few = few };
  found = refl;
  options = is ∙ ap (λ l. options_for l (map header_of readers) text) same;
}

-- a source is refused
pub gather_early : (bs : List (List ℕ)) (most : ℕ) (before now : List ℕ) (x : JoinError) → GatherCauses most before now x → Refuses (gathered most bs) x → IsEarly bs most x
gather_early bs most before now (Archive k (errors.Reading causes.Fault)) cause is = tt
gather_early bs most before now (Archive k (errors.UnexpectedNumberOfBytesReturned asked got)) cause is = is
gather_early bs most before now (Archive k errors.OutOfMemory) cause is = is
gather_early bs most before now (Archive k e) cause is = inl is
gather_early bs most before now (TooManyTiles n) cause is = (cause, inl is)
gather_early bs most before now OutOfMemory cause is = tt
gather_early bs most before now x cause is = absurd cause

-- the last one's text
pub text_early : (bs : List (List ℕ)) (most : ℕ) (found : Gathered) (x : JoinError) → gathered most bs ≡ Ok found → TextRefused bs found.headers x → IsEarly bs most x
text_early bs most found (Archive k (errors.Reading causes.Fault)) gathers is = tt
text_early bs most found (Archive k (errors.UnexpectedNumberOfBytesReturned asked got)) gathers is = is
text_early bs most found (Archive k errors.OutOfMemory) gathers is = is
text_early bs most found (Archive k e) gathers is = inr (found, gathers, is.number, is.last, is.lasts, is.refused)
text_early bs most found OutOfMemory gathers is = tt
text_early bs most found x gathers is = absurd is

-- the same of sources that may tell: what they tell later, and what the code shows of the readers
pub text_told : (told again : Option (List (List ℕ))) (most : ℕ) (readers shown : List ReaderState) (pieces : List Piece) (x : JoinError) → again ≡ told → shown ≡ readers → IfSome told (λ bs. gathered most bs ≡ Ok (gathered_of readers pieces))
    → IfSome again (λ bs. TextRead bs (map header_of shown) (Err x)) → IfSome told (λ bs. IsEarly bs most x)
text_told None again most readers shown pieces x same is gathers read = tt
text_told (Some bs) again most readers shown pieces x same is gathers read =
    text_early bs most (gathered_of readers pieces) x gathers (subst (λ l. TextRefused bs (map header_of l) x) is (subst (λ a. IfSome a (λ bs. TextRefused bs (map header_of shown) x)) same read))

pub text_plan : (most : ℕ) (first before now : List ℕ) (x : JoinError) → before ≡ first → TextCauses before now x → PlanCauses most first now x
text_plan most first before now x same c = subst (λ l. PlanCauses most l now x) same (by x c)
  where
    by : (x : JoinError) → TextCauses before now x → PlanCauses most before now x
    by (Archive k e) c = c
    by OutOfMemory c = tt
    by x c = absurd c

-- all sources are read
pub record PlanFound (most : ℕ) (readers : List ReaderState) (pieces : List Piece) (text : List ℕ) (h : Header) (bs : List (List ℕ)) : Type 0 where
  pub gathers : gathered most bs ≡ Ok (gathered_of readers pieces)
  pub lasts : IsLastText bs (map header_of readers) text
  pub same : h ≡ lasts.last

pub plan_found : (ts : List (Option (List ℕ))) (again : Option (List (List ℕ))) (most : ℕ) (readers shown : List ReaderState) (pieces : List Piece) (text : List ℕ) (h : Header) (s : ReaderState) (n : ℕ) → again ≡ all_told ts → shown ≡ readers → length readers ≡ length ts → length readers ≢ 0 → n ≡ length readers - 1
    → s ≡ get_or readers n s → h ≡ header_of s → IfSome (all_told ts) (λ bs. gathered most bs ≡ Ok (gathered_of readers pieces)) → IfSome again (λ bs. TextRead bs (map header_of shown) (Ok text)) → IfSome (all_told ts) (PlanFound most readers pieces text h)
plan_found ts again most readers shown pieces text h s n same is many some number at header gathers read = by (all_told ts) (λ bs told. told_long ts bs told) gathers (subst (λ a. IfSome a (λ bs. TextRead bs (map header_of shown) (Ok text))) same read)
  where
    by : (told : Option (List (List ℕ))) → ((bs : List (List ℕ)) → told ≡ Some bs → length bs ≡ length ts) → IfSome told (λ bs. gathered most bs ≡ Ok (gathered_of readers pieces)) → IfSome told (λ bs. TextRead bs (map header_of shown) (Ok text)) → IfSome told (PlanFound most readers pieces text h)
    by None long gathers read = tt
    by (Some bs) long gathers read =
        let t : IsLastText bs (map header_of readers) text = subst (λ l. IsLastText bs (map header_of l) text) is read in
        record { gathers = gathers; lasts = t; same = header ∙ last_is bs readers text s n t (omega (arith, many, long bs refl)) some number at }

abbrev pub found_read : (most : ℕ) (readers : List ReaderState) (pieces : List Piece) (text : List ℕ) (h : Header) (bs : List (List ℕ)) → PlanFound most readers pieces text h bs → Read bs most
found_read most readers pieces text h bs f = read_of bs most readers pieces text f.gathers f.lasts

-- one source has other labels
pub unlike_told : (told : Option (List (List ℕ))) (most : ℕ) (readers shown : List ReaderState) (pieces : List Piece) (text : List ℕ) (h : Header) (x : JoinError) (k : ℕ) → shown ≡ readers → x ≡ Different k → UnlikeAt h (map header_of shown) k
    → IfSome told (PlanFound most readers pieces text h) → IfSome told (λ bs. IsEarly bs most x)
unlike_told None most readers shown pieces text h x k is word unlike f = tt
unlike_told (Some bs) most readers shown pieces text h x k is word unlike f =
    subst (IsEarly bs most) (sym word) (found_read most readers pieces text h bs f, subst (λ l. UnlikeAt l (map header_of readers) k) f.same (subst (λ l. UnlikeAt h (map header_of l) k) is unlike))

unlike_low : (last : Header) (hs : List Header) (k : ℕ) → UnlikeAt last hs k → k < length hs
unlike_low last [] k u = absurd u
unlike_low last (h ∷ hs) zero u = omega arith
unlike_low last (h ∷ hs) (suc k) u = let a = unlike_low last hs k u.1 in omega (arith, a)

pub unlike_causes : (most : ℕ) (before now : List ℕ) (shown : List ReaderState) (h : Header) (x : JoinError) (k : ℕ) → length shown ≡ length before → x ≡ Different k → UnlikeAt h (map header_of shown) k → PlanCauses most before now x
unlike_causes most before now shown h x k many word unlike =
    subst (PlanCauses most before now) (sym word) (let low = unlike_low h (map header_of shown) k unlike in omega (arith, low, many, length-map shown header_of))

-- there are too many tiles
pub not_few : (n most : ℕ) → (n ≤ most → ⊥) → most < n
not_few n most unless = by (nat_le n most) refl
  where
    by : (b : Bool) → nat_le n most ≡ b → most < n
    by true is = absurd (unless (grind (arith, nat_tests)))
    by false is = grind (arith, nat_tests)

pub many_told : (told : Option (List (List ℕ))) (most : ℕ) (readers shown : List ReaderState) (pieces runs : List Piece) (text : List ℕ) (h : Header) → shown ≡ readers → runs ≡ pieces → All (IsAlike h) (map header_of shown) → most < piece_count runs → IfSome told (PlanFound most readers pieces text h)
    → IfSome told (λ bs. IsEarly bs most (TooManyTiles most))
many_told None most readers shown pieces runs text h is are alike many f = tt
many_told (Some bs) most readers shown pieces runs text h is are alike many f =
    (refl, inr (found_read most readers pieces text h bs f, subst (λ l. All (IsAlike l) (map header_of readers)) f.same (subst (λ l. All (IsAlike h) (map header_of l)) is alike), subst (λ l. most < piece_count l) are many))

-- there aren't
pub planned_told : (told : Option (List (List ℕ))) (most : ℕ) (o : Options) (readers shown again : List ReaderState) (pieces runs : List Piece) (text : List ℕ) (h : Header) → shown ≡ readers → again ≡ readers → runs ≡ pieces → All (IsAlike h) (map header_of shown) → piece_count runs ≤ most → o ≡ options_for h (map header_of again) text
    → IfSome told (PlanFound most readers pieces text h) → IfSome told (λ bs. IsPlanned bs most o readers pieces)
planned_told None most o readers shown again pieces runs text h is so are alike few options f = tt
planned_told (Some bs) most o readers shown again pieces runs text h is so are alike few options f =
    planned_by bs most o readers pieces text h f.gathers f.lasts f.same (subst (λ l. All (IsAlike h) (map header_of l)) is alike) (subst (λ l. piece_count l ≤ most) are few) (options ∙ ap (λ l. options_for h (map header_of l) text) so)
