-- Tile entries that are put into batches one after another.
use Rattle.set_import.proofs.Common.{ap, arith, Bool, empty, Err, Held, IfSome, ImportError, is_some, length, List, MbtError, None, of_store_error, Ok, Option, PmtError, refl, Result, Some, subst, sym, Tables}
use Rattle.set_import.proofs.Common.{TileSet, true, true≢false, false≢true, ℕ, [], ◌+◌, ◌∙◌, ◌∷◌, ◌≡◌, ◌≤◌}
use Rattle.std.proofs.Common.{map, suc, ◌++◌}
use Rattle.std.proofs.lemmas.List.{append_assoc, length-append}
use Rattle.std.specs.Prelude.{IsErrOf, unwrap_or}
use Rattle.base_values.specs.Counts.{Rose}
use Rattle.mb_load.specs.Committing.{MakesChanges}
use Rattle.mb_tables.specs.Refusals as tests
use Rattle.mb_tables.specs.declared.error.MbtError.TheVariants as stores
use Rattle.pm_format.specs.Directory.{Entry}
use Rattle.pm_format.specs.LookUp.{range_of}
use Rattle.pm_format.specs.declared.error.PmtError.TheVariants as errors
use Rattle.pm_format.specs.declared.error.ReadCause.TheVariants as causes
use Rattle.pm_format.specs.declared.header.Header.{Header}
use Rattle.pm_reader.specs.Answers.{Gives, range_read, RangeCauses}
use Rattle.pm_walk.specs.Collecting.{AreContentsOf, AreOrdered, contents_of}
use Rattle.set_import.proofs.StreamLemmas.{all_put_into, later_part, later_stream, part_run, started_stream}
use Rattle.set_import.specs.Batches.{ArePutInto, end_of, IsPart, IsStream, IsThere, PutsEntries, PutsEntry, StopAnswers, StopCauses}
use Rattle.set_import.specs.Streaming.{empty_flat}
use Rattle.tile_import.specs.Putting.{ids_of, with_contents, with_ids}
use Rattle.tile_import.specs.Refusals.{is_free, of_read_error}

-- some contents of an entry, and of each of some
pub some_bytes : (told : Option (List ℕ)) (h : Header) (e : Entry) → (bytes : List ℕ) × IfSome told (λ b. bytes ≡ contents_of h b e)
some_bytes None h e = ([], tt)
some_bytes (Some b) h e = (contents_of h b e, refl)

some_contents : (told : Option (List ℕ)) (h : Header) (es : List Entry) → (cs : List (List ℕ)) × (length cs ≡ length es) × IfSome told (λ b. cs ≡ map (contents_of h b) es)
some_contents None h [] = ([], refl, tt)
some_contents None h (e ∷ es) = let r = some_contents None h es in ([] ∷ r.0, ap suc r.1, tt)
some_contents (Some b) h [] = ([], refl, refl)
some_contents (Some b) h (e ∷ es) = let r = some_contents (Some b) h es in (contents_of h b e ∷ r.0, ap suc r.1, ap (λ cs. contents_of h b e ∷ cs) r.2)

-- an entry whose contents can't be read stops behind what was put before
pub entry_stopped : {E : Type 0} (told : Option (List ℕ)) (h : Header) (tells : Bool) (made now : Tables) (batch : Held) (all : TileSet) (e : Entry) (x : E) → e.tile_id + e.run_length ≤ 6148914691236517205 → IsPart tells made now all e.tile_id → PutsEntry {A = Unit {0}} told h tells made now batch all e (Err x)
entry_stopped told h tells made now batch all e x le part =
    let bytes = some_bytes told h e in
    record { bytes = bytes.0; are = bytes.1; streams = part_run tells made now all bytes.0 e.tile_id e.run_length (omega (arith, le)) part }

-- what was read are its contents
pub entry_read : (told : Option (List ℕ)) (h : Header) (e : Entry) (off len : ℕ) (bytes : List ℕ) → off ≡ e.offset → len ≡ e.length → IfSome told (λ b. Gives (range_read b (h.data_offset + off) len) (Ok bytes)) → IfSome told (λ b. bytes ≡ contents_of h b e)
entry_read None h e off len bytes o l g = tt
entry_read (Some b) h e off len bytes o l g = by (range_of b (h.data_offset + e.offset) e.length) refl (subst (λ n. Gives (range_read b (h.data_offset + e.offset) n) (Ok bytes)) l (subst (λ n. Gives (range_read b (h.data_offset + n) len) (Ok bytes)) o g))
  where
    by : (r : Option (List ℕ)) → range_of b (h.data_offset + e.offset) e.length ≡ r → elim r as (λ _. Result (List ℕ) PmtError) [ None ↦ Err (errors.Reading causes.PastEnd) | Some bytes ↦ Ok bytes ] ≡ Ok bytes → bytes ≡ contents_of h b e
    by None is g = absurd (cc)
    by (Some found) is g = let same : found ≡ bytes = cc in sym (ap (λ (o : Option (List ℕ)). unwrap_or o []) is ∙ same)

-- why it can't be read
pub read_stops : (A : Type 0) (before now old new : ℕ) (e : PmtError) → RangeCauses {A = A} before now (Err e) → StopCauses before now old new (of_read_error e)
read_stops A before now old new errors.OutOfMemory c = tt
read_stops A before now old new (errors.Reading causes.PastEnd) c = tt
read_stops A before now old new (errors.Reading causes.Fault) c = c
read_stops A before now old new (errors.UnexpectedNumberOfBytesReturned asked got) c = c
read_stops A before now old new errors.InvalidEntry c = absurd c
read_stops A before now old new e c = absurd c

pub read_free : (told : Option (List ℕ)) (h : Header) (e : Entry) (off len : ℕ) (x : PmtError) → off ≡ e.offset → len ≡ e.length → IsThere told h e → IfSome told (λ b. Gives (range_read b (h.data_offset + off) len) (Err x)) → StopAnswers told (of_read_error x)
read_free None h e off len x o l there g = tt
read_free (Some b) h e off len x o l there g = by x (range_of b (h.data_offset + e.offset) e.length) there (subst (λ n. Gives (range_read b (h.data_offset + e.offset) n) (Err x)) l (subst (λ n. Gives (range_read b (h.data_offset + n) len) (Err x)) o g))
  where
    by : (x : PmtError) (r : Option (List ℕ)) → is_some r ≡ true → Gives (elim r as (λ _. Result (List ℕ) PmtError) [ None ↦ Err (errors.Reading causes.PastEnd) | Some bytes ↦ Ok bytes ]) (Err x) → is_free (of_read_error x) ≡ true
    by errors.OutOfMemory r there g = refl
    by (errors.Reading causes.Fault) r there g = refl
    by (errors.UnexpectedNumberOfBytesReturned asked got) r there g = absurd g
    by x None there g = absurd (false≢true there)
    by x (Some bytes) there g = absurd (cc)

-- why a commit stops
pub store_stops : {T : Type 0} (before now m old new : ℕ) (e : MbtError) → old ≤ m → tests.is_free e ≡ true → (IsErrOf {T = T} (Err e) stores.StoreFault → Rose m new) → StopCauses before now old new (of_store_error e)
store_stops before now m old new stores.StoreFault le free fault = let rose = fault refl in omega (arith, le, rose)
store_stops before now m old new stores.OutOfMemory le free fault = tt
store_stops before now m old new e le free fault = absurd (true≢false (sym free))

pub store_free : (told : Option (List ℕ)) (e : MbtError) → tests.is_free e ≡ true → StopAnswers told (of_store_error e)
store_free None e free = tt
store_free (Some b) stores.StoreFault free = refl
store_free (Some b) stores.OutOfMemory free = refl
store_free (Some b) e free = absurd (true≢false (sym free))

-- entries of which some were put
pub record EntriesSoFar (told : Option (List ℕ)) (h : Header) (tells : Bool) (made now : Tables) (batch : Held) (es rest : List Entry) : Type 0 where
  pub next : ℕ
  pub all : TileSet
  pub read : List (List ℕ)
  pub stream : IsStream tells made now batch all next
  pub ordered : AreOrdered next rest None
  pub each : length read + length rest ≡ length es
  pub left : (cs : List (List ℕ)) → with_contents all rest cs ≡ with_contents empty es (read ++ cs)
  pub are : IfSome told (λ b. read ++ map (contents_of h b) rest ≡ map (contents_of h b) es)
  pub end : end_of next rest ≡ end_of 0 es

if_refl : (told : Option (List ℕ)) (h : Header) (es : List Entry) → IfSome told (λ b. [] ++ map (contents_of h b) es ≡ map (contents_of h b) es)
if_refl None h es = tt
if_refl (Some b) h es = refl

pub entries_begun : (told : Option (List ℕ)) (h : Header) (tells : Bool) (made : Tables) (batch : Held) (es : List Entry) → batch ≡ empty_flat → AreOrdered 0 es None → EntriesSoFar told h tells made made batch es es
entries_begun told h tells made batch es none ordered = record {
  next = 0;
  all = empty;
  read = [];
  stream = subst (λ (b : Held). IsStream tells made made b empty 0) (sym none) (started_stream tells made);
  ordered = ordered;
  each = omega arith;
  left = λ cs. refl;
  are = if_refl told h es;
  end = refl;
}

-- the stream at the next entry
pub at_entry : (told : Option (List ℕ)) (h : Header) (tells : Bool) (made now : Tables) (batch : Held) (es rest : List Entry) (e : Entry) (others : List Entry) → rest ≡ e ∷ others → (s : EntriesSoFar told h tells made now batch es rest) → IsStream tells made now batch s.all e.tile_id
at_entry told h tells made now batch es rest e others first s =
    later_stream tells made now batch s.all s.next e.tile_id (subst (λ l. AreOrdered s.next l None) first s.ordered).0 s.stream

read_more : (told : Option (List ℕ)) (h : Header) (es : List Entry) (e : Entry) (others : List Entry) (read : List (List ℕ)) (bytes : List ℕ) → IfSome told (λ b. read ++ map (contents_of h b) (e ∷ others) ≡ map (contents_of h b) es) → IfSome told (λ b. bytes ≡ contents_of h b e)
    → IfSome told (λ b. (read ++ bytes ∷ []) ++ map (contents_of h b) others ≡ map (contents_of h b) es)
read_more None h es e others read bytes are is = tt
read_more (Some b) h es e others read bytes are is = append_assoc read (bytes ∷ []) (map (contents_of h b) others) ∙ (ap (λ x. read ++ x ∷ map (contents_of h b) others) is ∙ are)

pub entries_more : (told : Option (List ℕ)) (h : Header) (tells : Bool) (made now new : Tables) (batch next : Held) (es rest : List Entry) (e : Entry) (others : List Entry) → rest ≡ e ∷ others → (s : EntriesSoFar told h tells made now batch es rest)
    → PutsEntry {A = Unit {0}} {E = ImportError} told h tells made new next s.all e (Ok tt) → EntriesSoFar told h tells made new next es others
entries_more told h tells made now new batch next es rest e others first s put = record {
  next = e.tile_id + e.run_length;
  all = with_ids s.all put.bytes (ids_of e);
  read = s.read ++ put.bytes ∷ [];
  stream = put.streams;
  ordered = (subst (λ l. AreOrdered s.next l None) first s.ordered).3;
  each =
      let all = s.each in
      let one : length (s.read ++ put.bytes ∷ []) ≡ length s.read + 1 = length-append s.read (put.bytes ∷ []) in
      let n : length rest ≡ suc (length others) = ap length first in
      omega (arith, all, one, n);
  left = λ cs.
      ap (λ l. with_contents s.all l (put.bytes ∷ cs)) (sym first)
      ∙ (s.left (put.bytes ∷ cs)
      ∙ ap (with_contents empty es) (sym (append_assoc s.read (put.bytes ∷ []) cs)));
  are = read_more told h es e others s.read put.bytes (subst (λ l. IfSome told (λ b. s.read ++ map (contents_of h b) l ≡ map (contents_of h b) es)) first s.are) put.are;
  end = ap (end_of s.next) (sym first) ∙ s.end;
}

-- entries that stop behind others
part_rest : (tells : Bool) (made now : Tables) (all : TileSet) (next : ℕ) (es : List Entry) (cs : List (List ℕ)) → length cs ≡ length es → AreOrdered next es None → IsPart tells made now all next → IsPart tells made now (with_contents all es cs) (end_of next es)
part_rest tells made now all next [] cs same ordered part = part
part_rest tells made now all next (e ∷ es) [] same ordered part = absurd (omega (arith, same))
part_rest tells made now all next (e ∷ es) (c ∷ cs) same ordered part =
    part_rest tells made now (with_ids all c (ids_of e)) (e.tile_id + e.run_length) es cs (omega (arith, same)) ordered.3
    (part_run tells made now all c e.tile_id e.run_length ordered.2 (later_part tells made now all next e.tile_id ordered.0 part))

all_contents : (told : Option (List ℕ)) (h : Header) (es rest : List Entry) (read cs : List (List ℕ)) → length cs ≡ length rest → length read + length rest ≡ length es → IfSome told (λ b. read ++ map (contents_of h b) rest ≡ map (contents_of h b) es) → IfSome told (λ b. cs ≡ map (contents_of h b) rest) → AreContentsOf told h es (read ++ cs)
all_contents told h es rest read cs same each are is = (length-append read cs ∙ (ap (λ n. length read + n) same ∙ each), by told are is)
  where
    by : (o : Option (List ℕ)) → IfSome o (λ b. read ++ map (contents_of h b) rest ≡ map (contents_of h b) es) → IfSome o (λ b. cs ≡ map (contents_of h b) rest) → IfSome o (λ b. read ++ cs ≡ map (contents_of h b) es)
    by None are is = tt
    by (Some b) are is = ap (λ l. read ++ l) is ∙ are

pub entries_stopped : (told : Option (List ℕ)) (h : Header) (tells : Bool) (made now new : Tables) (batch next : Held) (es rest : List Entry) (e : Entry) (others : List Entry) (x : ImportError) → rest ≡ e ∷ others → (s : EntriesSoFar told h tells made now batch es rest)
    → PutsEntry {A = Unit {0}} told h tells made new next s.all e (Err x) → PutsEntries {A = Unit {0}} told h tells made new es (Err x)
entries_stopped told h tells made now new batch next es rest e others x first s put =
    let more = some_contents told h others in
    let o : AreOrdered (e.tile_id + e.run_length) others None = (subst (λ l. AreOrdered s.next l None) first s.ordered).3 in
    let n : length rest ≡ suc (length others) = ap length first in
    let same : length (put.bytes ∷ more.0) ≡ length rest = ap suc more.1 ∙ sym n in
    record {
      contents = s.read ++ put.bytes ∷ more.0;
      are = all_contents told h es rest s.read (put.bytes ∷ more.0) same s.each s.are (by told put.are more.2);
      settled =
          subst (λ m. IsPart tells made new (with_contents empty es (s.read ++ put.bytes ∷ more.0)) m) (ap (end_of s.next) (sym first) ∙ s.end)
          (subst (λ m. IsPart tells made new m (end_of (e.tile_id + e.run_length) others)) (ap (λ l. with_contents s.all l (put.bytes ∷ more.0)) (sym first) ∙ s.left (put.bytes ∷ more.0))
          (part_rest tells made new (with_ids s.all put.bytes (ids_of e)) (e.tile_id + e.run_length) others more.0 more.1 o put.streams));
    }
  where
    by : (o : Option (List ℕ)) → IfSome o (λ b. put.bytes ≡ contents_of h b e) → IfSome o (λ b. (some_contents told h others).0 ≡ map (contents_of h b) others) → IfSome o (λ b. put.bytes ∷ (some_contents told h others).0 ≡ map (contents_of h b) rest)
    by None a c = tt
    by (Some b) a c = ap (λ z. z ∷ (some_contents told h others).0) a ∙ (ap (λ l. contents_of h b e ∷ l) c ∙ ap (map (contents_of h b)) (sym first))

-- at their end the last batch is committed
pub entries_done : (told : Option (List ℕ)) (h : Header) (tells : Bool) (made now new : Tables) (batch : Held) (es rest : List Entry) → rest ≡ [] → (s : EntriesSoFar told h tells made now batch es rest)
    → (tells ≡ true → MakesChanges batch now new) → PutsEntries {A = Unit {0}} {E = ImportError} told h tells made new es (Ok tt)
entries_done told h tells made now new batch es rest none s done =
    let all : s.all ≡ with_contents empty es (s.read ++ []) = ap (λ l. with_contents s.all l []) (sym none) ∙ s.left [] in
    record {
      contents = s.read ++ [];
      are = all_contents told h es rest s.read [] (sym (ap length none)) s.each s.are (by told);
      settled = λ t. subst (λ m. ArePutInto made new m) all (all_put_into tells made now batch s.all s.next s.stream new t (done t));
    }
  where
    by : (o : Option (List ℕ)) → IfSome o (λ b. [] ≡ map (contents_of h b) rest)
    by None = tt
    by (Some b) = ap (map (contents_of h b)) (sym none)

pub entries_unsettled : (told : Option (List ℕ)) (h : Header) (tells : Bool) (made now new : Tables) (batch : Held) (es rest : List Entry) (x : ImportError) → rest ≡ [] → (s : EntriesSoFar told h tells made now batch es rest)
    → new ≡ now → PutsEntries {A = Unit {0}} told h tells made new es (Err x)
entries_unsettled told h tells made now new batch es rest x none s kept =
    let all : s.all ≡ with_contents empty es (s.read ++ []) = ap (λ l. with_contents s.all l []) (sym none) ∙ s.left [] in
    record {
      contents = s.read ++ [];
      are = all_contents told h es rest s.read [] (sym (ap length none)) s.each s.are (by told);
      settled =
          subst (λ (t : Tables). IsPart tells made t (with_contents empty es (s.read ++ [])) (end_of 0 es)) (sym kept)
          (subst (λ n. IsPart tells made now (with_contents empty es (s.read ++ [])) n) (ap (end_of s.next) (sym none) ∙ s.end)
          (subst (λ m. IsPart tells made now m s.next) all s.stream.part));
    }
  where
    by : (o : Option (List ℕ)) → IfSome o (λ b. [] ≡ map (contents_of h b) rest)
    by None = tt
    by (Some b) = ap (map (contents_of h b)) (sym none)

pub some_contents_of : (told : Option (List ℕ)) (h : Header) (es : List Entry) → (cs : List (List ℕ)) × AreContentsOf told h es cs
some_contents_of told h es = let s = some_contents told h es in (s.0, (s.1, s.2))
