-- What is found of one source.
use Rattle.tile_join.proofs.Common.{ap, Archive, arith, Entry, Err, find_reads, FindCauses, found, found_few, found_met, found_opened, header_of, JoinError, List, nat_le, nat_tests, None, of_collect, of_read, Ok, opened, Option, PmtError, ReaderState, IfSome}
use Rattle.tile_join.proofs.Common.{reads_opened, refl, Refuses, Result, root_of, runs_met, Some, SourceStandsAt, StandsAtError, subst, sym, tile_count, TooManyTiles, true, false, walked, Walked, whole, ℕ, ◌+◌, ◌<◌, ◌∙◌, ◌≡◌, ◌≤◌}
use Rattle.pm_format.specs.declared.error.PmtError.TheVariants as errors
use Rattle.pm_format.specs.declared.error.ReadCause.TheVariants as causes
use Rattle.pm_reader.specs.Opening.{OpenAnswers, OpenCauses, OpensAs}
use Rattle.pm_walk.specs.declared.error.WalkError.TheVariants as walk
use Rattle.pm_walk.specs.declared.extent.Extent.TheVariants.{Within}
use Rattle.tile_extract.specs.Extract.{CollectCauses, CollectRefuses, IsCollected}
use Rattle.tile_extract.specs.Extract as extraction
use Rattle.tile_extract.specs.Faults as faults
use Rattle.tile_extract.specs.declared.error.ExtractError.{ExtractError}
use Rattle.tile_extract.specs.declared.error.ExtractError.TheVariants as extract

abbrev walk_of : ReaderState → List ℕ → Walked
walk_of s b = walked Within 6 (header_of s) b whole 0 None (root_of s)

-- it is found
pub found_ok : (most k : ℕ) (b : List ℕ) (s : ReaderState) (es : List Entry) → OpensAs b s → IsCollected (walk_of s b) whole most es → found most k b ≡ Ok (header_of s, es)
unfolding found
found_ok most k b s es opens c =
    let few : nat_le (tile_count (runs_met b (header_of s, root_of s))) most ≡ true = let le = c.few in grind (arith, nat_tests) in
    ap (found_opened most k b) opens
    ∙ ap (found_met most k (header_of s) (runs_met b (header_of s, root_of s))) c.fine
    ∙ ap (found_few most (header_of s) (runs_met b (header_of s, root_of s))) few
    ∙ ap (λ l. Ok (header_of s, l)) (sym c.are)

-- it isn't opened
unopened : (most k : ℕ) (b : List ℕ) (e : PmtError) → opened b ≡ Err e → found most k b ≡ Err (Archive k e)
unfolding found
unopened most k b e is = ap (found_opened most k b) is

pub open_refused : (most k before now : ℕ) (b : List ℕ) (e : PmtError) → OpenCauses {A = ReaderState} before now (Err e) → OpenAnswers b (Err e) → Refuses (found most k b) (of_read k e)
open_refused most k before now b errors.OutOfMemory cause is = tt
open_refused most k before now b (errors.Reading causes.Fault) cause is = tt
open_refused most k before now b (errors.UnexpectedNumberOfBytesReturned asked got) cause is = absurd cause
open_refused most k before now b e cause is = unopened most k b e is

pub open_causes : (most k before now : ℕ) (e : PmtError) → OpenCauses {A = ReaderState} before now (Err e) → FindCauses most k before now (of_read k e)
open_causes most k before now errors.OutOfMemory cause = tt
open_causes most k before now (errors.Reading causes.Fault) cause = (refl, cause)
open_causes most k before now (errors.Reading causes.PastEnd) cause = absurd cause
open_causes most k before now (errors.UnexpectedNumberOfBytesReturned asked got) cause = absurd cause
open_causes most k before now errors.InvalidMetadataUtf8Encoding cause = absurd cause
open_causes most k before now e cause = (refl, cause)

pub read_stands : (k before now : ℕ) (e : PmtError) → StandsAtError before now e → SourceStandsAt before now (of_read k e)
read_stands k before now errors.OutOfMemory h = tt
read_stands k before now e h = h

-- its tile entries aren't collected
uncollected : (most k : ℕ) (b : List ℕ) (s : ReaderState) (e : PmtError) → OpensAs b s → (walk_of s b).refusal ≡ Some (walk.Archive e) → found most k b ≡ Err (Archive k e)
unfolding found
uncollected most k b s e opens is = ap (found_opened most k b) opens ∙ ap (found_met most k (header_of s) (runs_met b (header_of s, root_of s))) is

too_many : (most k : ℕ) (b : List ℕ) (s : ReaderState) → OpensAs b s → (walk_of s b).refusal ≡ None → most < tile_count (runs_met b (header_of s, root_of s)) → found most k b ≡ Err (TooManyTiles most)
unfolding found
too_many most k b s opens fine more =
    let few : nat_le (tile_count (runs_met b (header_of s, root_of s))) most ≡ false = grind (arith, nat_tests) in
    ap (found_opened most k b) opens ∙ ap (found_met most k (header_of s) (runs_met b (header_of s, root_of s))) fine ∙ ap (found_few most (header_of s) (runs_met b (header_of s, root_of s))) few

walk_refused : (most k before now : ℕ) (b : List ℕ) (s : ReaderState) (e : PmtError) → OpensAs b s → CollectCauses most before now (extract.Archive e) → extraction.Refuses (walk_of s b) e → Refuses (found most k b) (Archive k e)
walk_refused most k before now b s errors.OutOfMemory opens cause is = absurd cause
walk_refused most k before now b s (errors.Reading causes.Fault) opens cause is = tt
walk_refused most k before now b s (errors.UnexpectedNumberOfBytesReturned asked got) opens cause is = is
walk_refused most k before now b s e opens cause is = uncollected most k b s e opens is

pub collect_refused : (most k before now : ℕ) (b : List ℕ) (s : ReaderState) (x : ExtractError) → OpensAs b s → CollectCauses most before now x → CollectRefuses (walk_of s b) whole most x → Refuses (found most k b) (of_collect k x)
collect_refused most k before now b s (extract.Archive e) opens cause is = walk_refused most k before now b s e opens cause is
collect_refused most k before now b s (extract.TooManyTiles n) opens cause is = too_many most k b s opens is.1 is.2 ∙ ap (λ m. Err (TooManyTiles m)) (sym is.0)
collect_refused most k before now b s extract.OutOfMemory opens cause is = tt
collect_refused most k before now b s x opens cause is = absurd is

pub collect_causes : (most k first before now : ℕ) (x : ExtractError) → first ≤ before → CollectCauses most before now x → FindCauses most k first now (of_collect k x)
collect_causes most k first before now (extract.Archive e) le c = read_causes e c
  where
    read_causes : (e : PmtError) → CollectCauses most before now (extract.Archive e) → FindCauses most k first now (Archive k e)
    read_causes errors.InvalidEntry c = (refl, tt)
    read_causes (errors.Reading causes.PastEnd) c = (refl, tt)
    read_causes (errors.Reading causes.Fault) c = (refl, omega (arith, le, c))
    read_causes (errors.UnexpectedNumberOfBytesReturned asked got) c = (refl, c)
    read_causes e c = absurd c
collect_causes most k first before now (extract.TooManyTiles n) le c = c
collect_causes most k first before now extract.OutOfMemory le c = tt
collect_causes most k first before now x le c = absurd c

pub collect_stands : (k first before now : ℕ) (x : ExtractError) → before ≡ first → faults.SourceStandsAt before now x → SourceStandsAt first now (of_collect k x)
collect_stands k first before now (extract.Archive e) same h = subst (λ n. StandsAtError n now e) same h
collect_stands k first before now (extract.TooManyTiles n) same h = h ∙ same
collect_stands k first before now x same h = tt

-- how often it is read
pub opened_reads : (b : List ℕ) (s : ReaderState) → OpensAs b s → find_reads b ≡ 1 + (walk_of s b).reads
opened_reads b s opens = ap (reads_opened b) opens

pub once_read : (b : List ℕ) → 1 ≤ find_reads b
once_read b = by (opened b)
  where
    by : (r : Result _ PmtError) → 1 ≤ reads_opened b r
    by (Ok o) = omega arith
    by (Err e) = omega arith

-- the same of a source that may tell
pub told_unopened : (most k before now : ℕ) (told : Option (List ℕ)) (e : PmtError) (y : JoinError) → y ≡ of_read k e → OpenCauses {A = ReaderState} before now (Err e) → IfSome told (λ b. OpenAnswers b (Err e)) → IfSome told (λ b. Refuses (found most k b) y)
told_unopened most k before now None e y same cause is = tt
told_unopened most k before now (Some b) e y same cause is = subst (Refuses (found most k b)) (sym same) (open_refused most k before now b e cause is)

pub told_found : (most k : ℕ) (told again : Option (List ℕ)) (ids : List (ℕ × ℕ)) (s : ReaderState) (es : List Entry) → again ≡ told → ids ≡ whole → IfSome told (λ b. OpensAs b s) → IfSome again (λ b. IsCollected (walked Within 6 (header_of s) b ids 0 None (root_of s)) ids most es)
    → IfSome told (λ b. found most k b ≡ Ok (header_of s, es))
told_found most k None again ids s es same all opens are = tt
told_found most k (Some b) again ids s es same all opens are =
    found_ok most k b s es opens (subst (λ l. IsCollected (walked Within 6 (header_of s) b l 0 None (root_of s)) l most es) all (subst (λ a. IfSome a (λ b. IsCollected (walked Within 6 (header_of s) b ids 0 None (root_of s)) ids most es)) same are))

pub told_uncollected : (most k before now : ℕ) (told again : Option (List ℕ)) (ids : List (ℕ × ℕ)) (s : ReaderState) (x : ExtractError) (y : JoinError) → y ≡ of_collect k x → again ≡ told → ids ≡ whole → CollectCauses most before now x → IfSome told (λ b. OpensAs b s)
    → IfSome again (λ b. CollectRefuses (walked Within 6 (header_of s) b ids 0 None (root_of s)) ids most x) → IfSome told (λ b. Refuses (found most k b) y)
told_uncollected most k before now None again ids s x y word same all cause opens are = tt
told_uncollected most k before now (Some b) again ids s x y word same all cause opens are =
    subst (Refuses (found most k b)) (sym word)
    (collect_refused most k before now b s x opens cause (subst (λ l. CollectRefuses (walked Within 6 (header_of s) b l 0 None (root_of s)) l most x) all (subst (λ a. IfSome a (λ b. CollectRefuses (walked Within 6 (header_of s) b ids 0 None (root_of s)) ids most x)) same are)))
