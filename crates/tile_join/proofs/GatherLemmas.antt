-- What is found of sources, one after another.
use Rattle.tile_join.proofs.Common.{all_told, ap, Archive, AreOnlyRead, arith, drop, drop_all, Err, FindCauses, find_reads, found, gather_reads, GatherCauses, gathered, gathered_from, gathered_of, get_or, IfSome}
use Rattle.tile_join.proofs.Common.{InOrder, IsAdded, JoinError, length, length-map, List, map, Ok, Option, OutOfMemory, Piece, ReadCauses, ReaderState, ReadsOnly, refl, Refuses, Result, set, slice_index}
use Rattle.tile_join.proofs.Common.{chain, Some, SourceStands, subst, sym, TooManyTiles, total, with_source, ℕ, [], ◌+◌, ◌<◌, ◌∙◌, ◌∷◌, ◌≡◌, ◌≤◌}
use Rattle.pm_format.specs.declared.error.PmtError.TheVariants as errors
use Rattle.pm_format.specs.declared.error.ReadCause.TheVariants as causes
use Rattle.tile_join.proofs.Common.{AreOrdered, Entry, header_of, map-append, SourcesStandAt, None, numbered, over, ◌++◌}
use Rattle.tile_join.proofs.OverLemmas.{over_ordered}
use Rattle.tile_join.proofs.SourceLemmas.{all_then, as_many, as_told, if_told, mapped_at, mapped_now, none_read, one_read, reads_grow, sources_at, tells_at, told_at, told_long, where_told}

-- what follows for a refusal
pub refuses_on : {A B : Type 0} (due : Result A JoinError) (on : Result B JoinError) (x : JoinError) → ((y : JoinError) → due ≡ Err y → on ≡ Err y) → Refuses due x → Refuses on x
refuses_on due on (Archive k (errors.Reading causes.Fault)) f h = tt
refuses_on due on (Archive k (errors.UnexpectedNumberOfBytesReturned asked got)) f h = h
refuses_on due on (Archive k errors.OutOfMemory) f h = h
refuses_on due on (Archive k e) f h = f (Archive k e) h
refuses_on due on OutOfMemory f h = tt
refuses_on due on x f h = f x h

-- after so many sources
pub record GatheredSoFar {B V : Type 0} (tells : B → Option (List ℕ)) (texts : B → V) (failed reads : B → ℕ) (steady : B → Type 0) (most : ℕ) (old now : List B) (n : ℕ) (readers : List ReaderState) (pieces : List Piece) : Type 0 where
  pub read : AreOnlyRead tells texts failed steady old now
  pub still : map failed now ≡ map failed old
  pub rest : IfSome (all_told (map tells old)) (λ bs. gathered_from most n (gathered_of readers pieces) (drop n bs) ≡ gathered most bs)
  pub count : IfSome (all_told (map tells old)) (λ bs. total (map reads now) + gather_reads (drop n bs) ≤ total (map reads old) + gather_reads bs)
  pub many : length readers ≡ n
  pub ordered : InOrder n 0 pieces

module _ {B V : Type 0} (tells : B → Option (List ℕ)) (texts : B → V) (failed reads : B → ℕ) (steady : B → Type 0) (most : ℕ) where
  nothing_gathered : (old : List B) → GatheredSoFar tells texts failed reads steady most old old 0 [] []
  nothing_gathered old = record {
    read = none_read tells texts failed steady old;
    still = refl;
    rest = where_told (λ bs. gathered_from most 0 (gathered_of [] []) (drop 0 bs) ≡ gathered most bs) (all_told (map tells old)) (λ bs is. refl);
    count = where_told (λ bs. total (map reads old) + gather_reads (drop 0 bs) ≤ total (map reads old) + gather_reads bs) (all_told (map tells old)) (λ bs is. omega arith);
    many = refl;
    ordered = omega arith;
  }

  pub gathered_none : (old : List B) (readers : List ReaderState) (pieces : List Piece) → readers ≡ [] → pieces ≡ [] → GatheredSoFar tells texts failed reads steady most old old 0 readers pieces
  gathered_none old readers pieces r p =
      subst (λ l. GatheredSoFar tells texts failed reads steady most old old 0 l pieces) (sym r) (subst (GatheredSoFar tells texts failed reads steady most old old 0 []) (sym p) (nothing_gathered old))

  module _ (old now : List B) (n : ℕ) (readers : List ReaderState) (pieces : List Piece) (so : GatheredSoFar tells texts failed reads steady most old now n readers pieces) (x y : B) (low : n < length now) (is : x ≡ get_or now n x) (kept : ReadsOnly tells texts failed steady x y) where
    abbrev after : List B
    after = set now n y

    pub gather_read : AreOnlyRead tells texts failed steady old after
    gather_read = all_then tells texts failed steady old now after so.read (one_read tells texts failed reads steady now n x y low is kept)

    -- the bytes of the source, where all tell
    at : (bs : List (List ℕ)) → all_told (map tells old) ≡ Some bs → tells x ≡ Some (get_or bs n [])
    at bs told = tells_at tells texts failed reads steady now n x y low is bs (ap all_told so.read.told ∙ told)

    rest_at : (bs : List (List ℕ)) → all_told (map tells old) ≡ Some bs → drop n bs ≡ get_or bs n [] ∷ drop (n + 1) bs
    rest_at bs told = (told_at (map tells old) bs n (tells x) (omega (arith, low, length-map old tells, as_many tells old now so.read.told)) told).rest

    goes : (bs : List (List ℕ)) → all_told (map tells old) ≡ Some bs → gathered_from most n (gathered_of readers pieces) (drop n bs) ≡ gathered most bs
        → gathered most bs ≡ chain (found most n (get_or bs n [])) (λ f. gathered_from most (n + 1) (with_source (gathered_of readers pieces) n f) (drop (n + 1) bs))
    goes bs told rest = sym rest ∙ ap (gathered_from most n (gathered_of readers pieces)) (rest_at bs told)

    pub gather_count : IfSome (tells x) (λ b. reads y ≤ reads x + find_reads b) → IfSome (all_told (map tells old)) (λ bs. total (map reads after) + gather_reads (drop (n + 1) bs) ≤ total (map reads old) + gather_reads bs)
    gather_count one =
        if_told (λ bs. total (map reads now) + gather_reads (drop n bs) ≤ total (map reads old) + gather_reads bs) (λ bs. total (map reads after) + gather_reads (drop (n + 1) bs) ≤ total (map reads old) + gather_reads bs) (all_told (map tells old))
        (λ bs told count.
        let b = get_or bs n [] in
        let grow = reads_grow tells texts failed reads steady now n x y low is (find_reads b) (as_told (λ b. reads y ≤ reads x + find_reads b) (tells x) b (at bs told) one) in
        omega (arith, grow, count, ap gather_reads (rest_at bs told))) so.count

    pub gather_more : (more : List ReaderState) (laid : List Piece) → failed y ≡ failed x → IfSome (tells x) (λ b. IsAdded most (length readers) b (gathered_of readers pieces) (gathered_of more laid)) → IfSome (tells x) (λ b. reads y ≤ reads x + find_reads b)
        → length more ≡ length readers + 1 → InOrder (length readers + 1) 0 laid → GatheredSoFar tells texts failed reads steady most old after (n + 1) more laid
    gather_more more laid stands added count many ordered = record {
      read = gather_read;
      still = sources_at tells texts failed reads steady now n x y low is {A = ℕ} (Ok 0) (λ k e is. absurd (cc)) stands ∙ so.still;
      rest =
          if_told (λ bs. gathered_from most n (gathered_of readers pieces) (drop n bs) ≡ gathered most bs) (λ bs. gathered_from most (n + 1) (gathered_of more laid) (drop (n + 1) bs) ≡ gathered most bs) (all_told (map tells old))
          (λ bs told rest.
          let a = as_told (λ b. IsAdded most (length readers) b (gathered_of readers pieces) (gathered_of more laid)) (tells x) (get_or bs n []) (at bs told) added in
          let one : found most n (get_or bs n []) ≡ Ok a.source = ap (λ k. found most k (get_or bs n [])) (sym so.many) ∙ a.found in
          ap (λ g. gathered_from most (n + 1) g (drop (n + 1) bs)) (a.with ∙ ap (λ k. with_source (gathered_of readers pieces) k a.source) so.many)
          ∙ sym (goes bs told rest ∙ ap (λ r. chain r (λ f. gathered_from most (n + 1) (with_source (gathered_of readers pieces) n f) (drop (n + 1) bs))) one)) so.rest;
      count = gather_count count;
      many = omega (arith, many, so.many);
      ordered = subst (λ k. InOrder (k + 1) 0 laid) so.many ordered;
    }

    pub gather_refused : (e : JoinError) → IfSome (tells x) (λ b. Refuses (found most (length readers) b) e) → IfSome (all_told (map tells old)) (λ bs. Refuses (gathered most bs) e)
    gather_refused e refused =
        if_told (λ bs. gathered_from most n (gathered_of readers pieces) (drop n bs) ≡ gathered most bs) (λ bs. Refuses (gathered most bs) e) (all_told (map tells old))
        (λ bs told rest.
        refuses_on (found most n (get_or bs n [])) (gathered most bs) e
        (λ z no. goes bs told rest ∙ ap (λ r. chain r (λ f. gathered_from most (n + 1) (with_source (gathered_of readers pieces) n f) (drop (n + 1) bs))) no)
        (subst (λ k. Refuses (found most k (get_or bs n [])) e) so.many (as_told (λ b. Refuses (found most (length readers) b) e) (tells x) (get_or bs n []) (at bs told) refused))) so.rest

    first_at : slice_index (map failed old) n ≡ failed x
    first_at = ap (λ l. slice_index l n) (sym so.still) ∙ mapped_at tells texts failed reads steady now n x y low is failed

    pub gather_causes : (e : JoinError) → FindCauses most (length readers) (failed x) (failed y) e → GatherCauses most (map failed old) (map failed after) e
    gather_causes (Archive k e) c =
        let same : k ≡ n = c.0 ∙ so.many in (
          omega (arith, same, low, length-map old failed, as_many tells old now so.read.told),
          subst (λ j. ReadCauses (slice_index (map failed old) j) (slice_index (map failed after) j) e) (sym same)
              (subst (λ m. ReadCauses m (slice_index (map failed after) n) e) (sym first_at) (subst (λ m. ReadCauses (failed x) m e) (sym (mapped_now tells texts failed reads steady now n x y low is failed)) c.1)),
        )
    gather_causes (TooManyTiles m) c = c
    gather_causes OutOfMemory c = tt
    gather_causes e c = absurd c

    number_is : (e : JoinError) → FindCauses most (length readers) (failed x) (failed y) e → (k : ℕ) (z : _) → ◌≡◌ {A = Result ℕ JoinError} (Err e) (Err (Archive k z)) → k ≡ n
    number_is e c k z same = let at : e ≡ Archive k z = cc in (subst (FindCauses most (length readers) (failed x) (failed y)) at c).0 ∙ so.many

    pub gather_stands : (e : JoinError) → FindCauses most (length readers) (failed x) (failed y) e → SourceStands {A = ℕ} (failed x) (failed y) (Err e) → SourcesStandAt (map failed old) (map failed after) e
    gather_stands e c stands = subst (λ l. SourcesStandAt l (map failed after) e) so.still (sources_at tells texts failed reads steady now n x y low is (Err e) (number_is e c) stands)

-- all of them
module _ {B V : Type 0} (tells : B → Option (List ℕ)) (texts : B → V) (failed reads : B → ℕ) (steady : B → Type 0) (most : ℕ) (old now : List B) (n : ℕ) (readers : List ReaderState) (pieces : List Piece) (so : GatheredSoFar tells texts failed reads steady most old now n readers pieces) (far : length now ≤ n) where
  none_left : (bs : List (List ℕ)) → all_told (map tells old) ≡ Some bs → drop n bs ≡ []
  none_left bs told = drop_all n bs (omega (arith, far, told_long (map tells old) bs told, length-map old tells, as_many tells old now so.read.told))

  pub gathered_all : IfSome (all_told (map tells old)) (λ bs. gathered most bs ≡ Ok (gathered_of readers pieces))
  gathered_all =
      if_told (λ bs. gathered_from most n (gathered_of readers pieces) (drop n bs) ≡ gathered most bs) (λ bs. gathered most bs ≡ Ok (gathered_of readers pieces)) (all_told (map tells old))
      (λ bs told rest. sym rest ∙ ap (gathered_from most n (gathered_of readers pieces)) (none_left bs told)) so.rest

-- reads so far, where no more follow
pub no_more_reads : {B : Type 0} (tells : B → Option (List ℕ)) (reads : B → ℕ) (old now : List B) (n : ℕ) → IfSome (all_told (map tells old)) (λ bs. total (map reads now) + gather_reads (drop n bs) ≤ total (map reads old) + gather_reads bs)
    → IfSome (all_told (map tells old)) (λ bs. total (map reads now) ≤ total (map reads old) + gather_reads bs)
no_more_reads tells reads old now n count =
    if_told (λ bs. total (map reads now) + gather_reads (drop n bs) ≤ total (map reads old) + gather_reads bs) (λ bs. total (map reads now) ≤ total (map reads old) + gather_reads bs) (all_told (map tells old))
    (λ bs told c. omega (arith, c)) count

-- one more source, in the words of the code
pub told_added : (most n k : ℕ) (told : Option (List ℕ)) (readers more : List ReaderState) (pieces laid : List Piece) (s : ReaderState) (es items : List Entry) → k ≡ n → more ≡ readers ++ s ∷ [] → items ≡ es → laid ≡ over 0 (numbered k items) pieces → IfSome told (λ b. found most k b ≡ Ok (header_of s, es))
    → IfSome told (λ b. IsAdded most n b (gathered_of readers pieces) (gathered_of more laid))
told_added most n k None readers more pieces laid s es items number pushed same is one = tt
told_added most n k (Some b) readers more pieces laid s es items number pushed same is one = record {
  source = (header_of s, es);
  found = ap (λ j. found most j b) (sym number) ∙ one;
  with = λ i. record {
    headers = (ap (map header_of) pushed ∙ map-append header_of readers (s ∷ [])) i;
    pieces = (is ∙ ap (λ l. over 0 (numbered k l) pieces) same ∙ ap (λ j. over 0 (numbered j es) pieces) number) i;
  };
}

pub laid_ordered : (n k : ℕ) (es items : List Entry) (pieces laid : List Piece) → k ≡ n → items ≡ es → laid ≡ over 0 (numbered k items) pieces → AreOrdered 0 es None → InOrder n 0 pieces → InOrder (n + 1) 0 laid
laid_ordered n k es items pieces laid number same is order below =
    subst (InOrder (n + 1) 0) (sym (is ∙ ap (λ l. over 0 (numbered k l) pieces) same ∙ ap (λ j. over 0 (numbered j es) pieces) number)) (over_ordered n 0 0 es pieces (omega arith) order below)
