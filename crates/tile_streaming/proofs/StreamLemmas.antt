-- What a conversion of marks answers and leaves.
use Rattle.tile_streaming.proofs.Common.{adds_of, All, ArchivePlaces, AreAddsOf, AreMarksOf, AreRead, as_report, Bool, CanBeWritten, ConvertError, ConvertOptions, Coord, entries, Err, false, false≢true, HasWritten, HasBytes, HaveLengths, HidesRest, IfSome, inl, inr, is_some, IsDue, IsEmpty, IsHeldOf, IsHeldWith, IsHidden, IsMarkedAs, IsOfRead, IsPlain, IsStored, length, List}
use Rattle.tile_streaming.proofs.Common.{map, Mark, MarkedSet, None, Ok, Option, Options, OptionsFit, overflow_of, overflows, PartLeaves, PmtError, refl, Result, Rose, RoseAt, SetLeaves, Some, State, StepCauses, Stored, StreamCauses, StreamEnds, StreamError, StreamReport, subst, sym, tested_due, TileSet, true, WrittenLeaves, ℕ, [], ◌<◌, ◌^◌, ◌∙◌, ◌∷◌, ◌≡◌, ◌⊎◌}
unfoldable use Rattle.tile_streaming.proofs.Common.{archive}
use Rattle.pm_format.specs.LookUp.{archive_map}
use Rattle.pm_format.specs.declared.error.PmtError.TheVariants as errors
use Rattle.pm_format.specs.declared.error.ReadCause.TheVariants as causes
use Rattle.pm_format.specs.WellFormed.{WellFormed}
use Rattle.tile_bridge.proofs.ConvertLemmas.{leaves_all, leaves_whole, read_refused}
use Rattle.tile_bridge.proofs.OutcomeLemmas.{set_causes}
use Rattle.tile_bridge.specs.Convert.{SetCauses}
use Rattle.tile_bridge.specs.ReadingBack.{IsHindered, of_read_error, ReadBackCauses}
use Rattle.tile_bridge.specs.declared.error.ConvertError.TheVariants.{MediumFault, OutOfMemory, ReadBack, StoreFault}
use Rattle.tile_ids.specs.Hilbert.{id_of}
use Rattle.tile_streaming.specs.Hashing.{HasHash, IsHashOf, IsRight}
use Rattle.tile_streaming.specs.Part.{marks_of_part, part_of}
use Rattle.tile_streaming.specs.declared.error.StreamError.TheVariants.{Convert, StoreChanged}
use Rattle.tile_streaming.proofs.DueLemmas.{state_due}
use Rattle.tile_streaming.proofs.MarkLemmas.{all_ranged, AllRanged, can_write, ranged_all}
use Rattle.tile_streaming.proofs.PartLemmas.{part_fits, part_has, part_marks, part_ranged, whole_of}
use Rattle.tile_streaming.proofs.ReadLemmas.{lengths_read}
use Rattle.tile_streaming.proofs.SizeLemmas.{overflow_same}
use Rattle.tile_streaming.proofs.StoredLemmas.{all_stored, bytes_there}
use Rattle.tile_streaming.proofs.TileLemmas.{read_adds, read_marks, read_ranged, read_tiles, told_adds}

-- the state of marks with other tiles
abbrev with_tiles : State → TileSet → State
with_tiles s tiles = record { layout = s.layout; algorithm = s.algorithm; patch_type = s.patch_type; tiles = tiles; metadata = s.metadata; ids = s.ids; contents = s.contents; dates = s.dates }

-- which count rose at a step's fault
pub store_rose : (A : Type 0) (tells : Bool) (s sn m mn : ℕ) (e : StreamError) (place : ℕ) → StepCauses {A = A} (tells ≡ false) s sn m mn (Err e) → e ≡ Convert (StoreFault place) → RoseAt place (s ∷ []) (sn ∷ [])
store_rose A tells s sn m mn e place c is =
    let rose : (place ≡ 0) × Rose s sn = subst (λ x. StepCauses {A = A} (tells ≡ false) s sn m mn (Err x)) is c in
    subst (λ p. RoseAt p (s ∷ []) (sn ∷ [])) (sym rose.0) rose.1

pub medium_rose : (A : Type 0) (tells : Bool) (s sn m mn : ℕ) (e : StreamError) → StepCauses {A = A} (tells ≡ false) s sn m mn (Err e) → e ≡ Convert MediumFault → Rose m mn
medium_rose A tells s sn m mn e c is = subst (λ x. StepCauses {A = A} (tells ≡ false) s sn m mn (Err x)) is c

-- the error of a result
pub error_of : {A : Type 0} (e x : StreamError) → ◌≡◌ {A = Result A StreamError} (Err e) (Err x) → e ≡ x
error_of e x h = cc

-- the word of the conversion, in that of this one
pub same_word : (e x : ConvertError) → Convert e ≡ Convert x → e ≡ x
same_word e x h = cc

-- reading back has no fault of a store
pub no_store : (e : PmtError) (place : ℕ) → of_read_error e ≡ StoreFault place → ⊥
no_store errors.OutOfMemory place h = absurd (cc)
no_store (errors.Reading causes.Fault) place h = absurd (cc)
no_store e place h = absurd (cc)

no_rest : (new : Option (List ℕ)) (e : PmtError) → HidesRest new (Err (Convert (of_read_error e)))
no_rest new errors.OutOfMemory = tt
no_rest new (errors.Reading causes.Fault) = tt
no_rest new e = tt

-- a step of the writing that ends in an error
pub step_ends : (A : Type 0) (tells : Bool) (told : Option (List ℕ)) (s sn m mn : ℕ) (e : StreamError) → StepCauses {A = A} (tells ≡ false) s sn m mn (Err e) → StreamEnds tells told (Err e)
step_ends A tells told s sn m mn StoreChanged c = c
step_ends A tells told s sn m mn (Convert (StoreFault place)) c = tt
step_ends A tells told s sn m mn (Convert MediumFault) c = tt
step_ends A tells told s sn m mn (Convert OutOfMemory) c = tt
step_ends A tells told s sn m mn (Convert _) c = absurd c

pub step_causes : (A : Type 0) (w : Options) (due : Option (Result State ConvertError)) (tells : Bool) (told : Option (List ℕ)) (s sn m mn : ℕ) (e : StreamError) → IsEmpty told → IsPlain w → StepCauses {A = A} (tells ≡ false) s sn m mn (Err e) → StreamCauses w due tells told (Err e)
step_causes A w due tells told s sn m mn StoreChanged empty plain c = (c, empty, plain)
step_causes A w due tells told s sn m mn (Convert (StoreFault place)) empty plain c = (empty, plain)
step_causes A w due tells told s sn m mn (Convert MediumFault) empty plain c = tt
step_causes A w due tells told s sn m mn (Convert OutOfMemory) empty plain c = tt
step_causes A w due tells told s sn m mn (Convert _) empty plain c = absurd c

-- the options that are held are those that are given
pub given_leaves : (part : Option (List (ℕ × ℕ))) (m : MarkedSet) (w : Options) (gives : State → Options → Type 0) → ((s : State) → IsMarkedAs s m → gives s w) → (due : Option (Result State ConvertError)) (tells : Bool) (coords : List Coord) (r : Result StreamReport StreamError) (old new : Option (List ℕ)) → PartLeaves part (IsHeldWith m w) due tells coords r old new → PartLeaves part gives due tells coords r old new
given_leaves part m w gives given due tells coords r old new (inl u) = inl u
given_leaves part m w gives given due tells coords r old new (inr s) = inr (record {
  state = s.state;
  options = s.options;
  is_due = s.is_due;
  given = subst (gives s.state) (sym s.given.1) (given s.state s.given.0);
  empty = s.empty;
  ended = s.ended;
  medium = s.medium;
  hidden = s.hidden;
  aggregate_is = s.aggregate_is;
  places = s.places;
})

-- an error of reading back
pub set_ends : (tells : Bool) (told : Option (List ℕ)) (e : ConvertError) → SetCauses told (Err e) → StreamEnds tells told (Err (Convert e))
set_ends tells told MediumFault c = tt
set_ends tells told (ReadBack e) c = c
set_ends tells told OutOfMemory c = tt
set_ends tells told _ c = absurd c

module _ (part : Option (List (ℕ × ℕ))) (tells : Bool) (t : Stored) (o : ConvertOptions) (w : Options) (m : MarkedSet) (begun : Option (Result State ConvertError)) (from : IsHeldOf begun tells t m) (right : IsRight o.verify tells t m) (size : overflow_of m.marks.items ≡ false) (fit : OptionsFit w) (metadata : length w.metadata < 2 ^ 63) where
  abbrev due : Option (Result State ConvertError)
  due = tested_due o.verify begun

  -- all marks, and those of the part
  abbrev all : List Mark
  all = m.marks.items

  abbrev marks : List Mark
  marks = marks_of_part part all

  abbrev first : State
  first = from.state

  few : overflows first.tiles ≡ false
  few = sym (overflow_same first.tiles all from.held.marks) ∙ size

  first_due : IsDue due first
  first_due = state_due o.verify begun first from.is_due (λ b. let u = from.told b in right u first from.held (from.has u)) few

  first_ranged : AllRanged (entries first.tiles)
  first_ranged = ranged_all (entries first.tiles) from.held.ranged

  -- the tiles of the part
  abbrev tiles : TileSet
  tiles = part_of part first.tiles

  are : AreMarksOf tiles marks
  are = part_marks part first.tiles all from.held.marks

  ranged : AllRanged (entries tiles)
  ranged = part_ranged part first.tiles first_ranged

  fits : overflow_of marks ≡ false
  fits = part_fits part all size

  has : tells ≡ true → HasBytes t tiles
  has u p c there = from.has u p c (part_has part first.tiles p c there)

  pub can : (contents : List (List ℕ)) → HaveLengths marks contents → CanBeWritten w (adds_of marks contents)
  can contents lengths = can_write tiles marks are ranged w fit metadata fits contents lengths

  pub stored_all : tells ≡ true → All (IsStored t) marks
  stored_all u = all_stored t tiles marks are (has u)

  -- the state whose tiles were read
  record StateOfRead (contents : List (List ℕ)) : Type 0 where
    pub state : State
    pub is_due : IsDue due state
    pub held : IsMarkedAs state m
    pub has : tells ≡ true → HasBytes t state.tiles
    pub adds : AreAddsOf (adds_of marks contents) (part_of part state.tiles)

  -- nothing is due of a store that tells nothing
  none_due : tells ≡ false → (s : State) → IsDue due s
  none_due u s = by begun from.told
    where
      by : (b : Option (Result State ConvertError)) → (is_some b ≡ true → tells ≡ true) → IsDue (tested_due o.verify b) s
      by None told = tt
      by (Some d) told = absurd (false≢true (sym u ∙ told refl))

  state_for : (contents : List (List ℕ)) → AreRead tells t marks contents → StateOfRead contents
  state_for contents read = by tells refl
    where
      by : (b : Bool) → tells ≡ b → StateOfRead contents
      by true u = record {
        state = first;
        is_due = first_due;
        held = from.held;
        has = from.has;
        adds = told_adds tells t tiles marks are ranged fits contents read u (bytes_there t tiles (has u));
      }
      by false u =
          let found = read_tiles tells t tiles marks are ranged fits contents read in
          let whole = whole_of part first.tiles all from.held.marks first_ranged found (read_ranged tells t tiles marks are ranged fits contents read) (read_marks tells t tiles marks are ranged fits contents read) in
          record {
            state = with_tiles first whole.whole;
            is_due = none_due u (with_tiles first whole.whole);
            held = record {
              layout = from.held.layout;
              algorithm = from.held.algorithm;
              names = from.held.names;
              ranged = all_ranged (entries whole.whole) whole.ranged;
              marks = whole.marks;
            };
            has = λ v. absurd (false≢true (sym u ∙ v));
            adds = subst (AreAddsOf (adds_of marks contents)) (sym whole.is) (read_adds tells t tiles marks are ranged fits contents read);
          }

  module _ (coords : List Coord) (old new : Option (List ℕ)) (empty : IsEmpty old) (same : is_some new ≡ is_some old) where
    abbrev LeavesAll : Result StreamReport StreamError → Type 0
    LeavesAll r = PartLeaves part (IsHeldWith m w) due tells coords r old new

    -- an error: what is left of either kind
    of_error : (s : State) (e : StreamError) → IsMarkedAs s m → IsDue due s → StreamEnds tells old (Err e) → HidesRest new (Err e) → ((x : ConvertError) → SetLeaves w (part_of part s.tiles) coords (Err x) old new) → LeavesAll (Err e)
    of_error s (Convert x) held is ended hides leaves = inr (record { state = s; options = w; is_due = is; given = (held, refl); empty = empty; ended = ended; medium = leaves x; hidden = hides; aggregate_is = tt; places = tt })
    of_error s StoreChanged held is ended hides leaves = inr (record { state = s; options = w; is_due = is; given = (held, refl); empty = empty; ended = ended; medium = leaves OutOfMemory; hidden = hides; aggregate_is = tt; places = tt })

    hidden_leaves : (told : Option (List ℕ)) → is_some told ≡ is_some old → IfSome told IsHidden → (x : ConvertError) → SetLeaves w tiles coords (Err x) old told
    hidden_leaves told same h x = by old told same h
      where
        by : (a b : Option (List ℕ)) → is_some b ≡ is_some a → IfSome b IsHidden → SetLeaves w tiles coords (Err x) a b
        by None None same h = tt
        by None (Some b) same h = absurd (cc)
        by (Some a) None same h = absurd (cc)
        by (Some a) (Some b) same h = inl h

    -- the archive wasn't written, or not wholly
    left_hidden : (e : StreamError) → StreamEnds tells old (Err e) → HidesRest new (Err e) → IfSome new IsHidden → LeavesAll (Err e)
    left_hidden e ended hides h = of_error first e from.held first_due ended hides (hidden_leaves new same h)

    left_part : (e : StreamError) → StreamEnds tells old (Err e) → HidesRest new (Err e) → IfSome new (λ b. IsHidden b ⊎ IsOfRead w tells t marks b) → LeavesAll (Err e)
    left_part e ended hides h = by new refl h
      where
        by : (told : Option (List ℕ)) → new ≡ told → IfSome told (λ b. IsHidden b ⊎ IsOfRead w tells t marks b) → LeavesAll (Err e)
        by None is h = left_hidden e ended hides (subst (λ x. IfSome x IsHidden) (sym is) tt)
        by (Some b) is (inl hidden) = left_hidden e ended hides (subst (λ x. IfSome x IsHidden) (sym is) hidden)
        by (Some b) is (inr r) =
            let s = state_for r.contents r.read in
            let adds = adds_of marks r.contents in
            of_error s.state e s.held s.is_due ended hides (λ x. leaves_whole w adds (can r.contents (lengths_read tells t marks r.contents r.read)) (part_of part s.state.tiles) coords x old new s.adds same (subst (λ x. IfSome x (λ b. b ≡ archive w adds)) (sym is) r.whole))

    pub part_left : (e : StreamError) → StreamEnds tells old (Err e) → WrittenLeaves w tells t marks old new (Err e) → LeavesAll (Err e)
    part_left StoreChanged ended h = left_hidden StoreChanged ended h h
    part_left (Convert (StoreFault place)) ended h = left_hidden (Convert (StoreFault place)) ended h h
    part_left (Convert MediumFault) ended h = left_part (Convert MediumFault) ended tt h
    part_left (Convert OutOfMemory) ended h = left_part (Convert OutOfMemory) ended tt h
    part_left (Convert (ReadBack e)) ended h = left_part (Convert (ReadBack e)) ended tt h
    part_left (Convert _) ended h = absurd ended

    -- the archive was written
    module _ (p : ArchivePlaces) (h : HasWritten w tells t marks old new p) where
      abbrev adds : List (ℕ × List ℕ)
      adds = adds_of marks h.contents

      written : CanBeWritten w adds
      written = can h.contents (lengths_read tells t marks h.contents h.read)

      state : StateOfRead h.contents
      state = state_for h.contents h.read

      -- and read
      hash_held : (hash : Option (List ℕ)) → IfSome hash (IsHashOf tells t m) → IfSome hash (HasHash tells state.state)
      hash_held None is = tt
      hash_held (Some text) is = is state.state state.held state.has

      pub whole_left : (r : StreamReport) → r.places ≡ p → IfSome r.aggregate (IsHashOf tells t m) → IfSome new (λ b. (q : Options) → WellFormed b q true → r.answers ≡ map (λ c. archive_map b (id_of c)) coords) → LeavesAll (Ok r)
      whole_left r places hash read = inr (record {
        state = state.state;
        options = w;
        is_due = state.is_due;
        given = (state.held, refl);
        empty = empty;
        ended = tt;
        medium = leaves_all w adds written (part_of part state.state.tiles) coords (as_report r) old new state.adds (h.taken, h.took, places ∙ h.places) same h.whole read;
        hidden = tt;
        aggregate_is = hash_held r.aggregate hash;
        places = record { adds = adds; are = state.adds; taken = h.taken; took = h.took; places = places ∙ h.places };
      })

      pub whole_causes : (r : StreamReport) → IsPlain o.writer → StreamCauses o.writer due tells old (Ok r)
      whole_causes r plain = set_causes o.writer due state.state state.is_due old (Ok (as_report r)) empty plain tt

      -- or not
      module _ (before now : ℕ) (e : PmtError) (hindered : IfSome new (λ b. (q : Options) → WellFormed b q true → IsHindered e)) (cause : ReadBackCauses {A = Unit {0}} before now (Err e)) where
        refused : SetCauses old (Err (of_read_error e))
        refused = read_refused w adds written before now e (of_read_error e) old new refl same h.whole hindered cause

        pub unread_left : LeavesAll (Err (Convert (of_read_error e)))
        unread_left = of_error state.state (Convert (of_read_error e)) state.held state.is_due (set_ends tells old (of_read_error e) refused) (no_rest new e) (λ x. leaves_whole w adds written (part_of part state.state.tiles) coords x old new state.adds same h.whole)

        pub unread_causes : IsPlain o.writer → StreamCauses o.writer due tells old (Err (Convert (of_read_error e)))
        unread_causes plain = set_causes o.writer due state.state state.is_due old (Err (of_read_error e)) empty plain refused
