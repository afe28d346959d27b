-- What the tests of a tile entry make of what was collected.
use Rattle.pm_walk.proofs.Common.{AddsParts, ap, append-nil, Archive, AreContentsOf, arith, Bool, Collected, Collects, contents_of, Entry, Err, Extent, false, false≢true, full, full_of, HasRoom}
use Rattle.pm_walk.proofs.Common.{Header, Holds, IfErr, IfSome, if◌then◌else◌, is_some, IsTaken, IsTrue, Kept, length, length-append, List, map, map-append, MAX_TILE_ID, nat_eq, nat_le, nat_tests}
use Rattle.pm_walk.proofs.Common.{None, Ok, OnOk, Option, parts_of, refl, Refuses, Result, room_after, Some, StopsWith, subst, sym, taken, Takes, TakesTile, tile_by, tile_refusal, tile_walk}
use Rattle.pm_walk.proofs.Common.{TooManyTiles, true, WalkError, Walks, Whole, with_part, Within, ℕ, [], ◌++◌, ◌+◌, ◌↔◌, ◌∙◌, ◌∷◌, ◌≡◌, ◌≢◌, ◌≤◌}
use Rattle.std.specs.Prelude.{unwrap_or}
use Rattle.pm_format.specs.declared.error.PmtError.TheVariants as errors
use Rattle.pm_format.specs.declared.error.ReadCause.TheVariants as causes
use Rattle.pm_walk.proofs.CollectingLemmas.{collects_nothing, ordered_later}
use Rattle.pm_walk.proofs.LyingLemmas.{keeps_more, parts_lie}
use Rattle.pm_walk.proofs.TakerLemmas.{part_collects, part_ordered, part_there}
use Rattle.pm_walk.proofs.ToldLemmas.{any_told, one_told}

-- Nothing more was collected.
on_ok : {A E P : Type 0} (r : Result A E) → P → OnOk r P
on_ok (Ok x) p = p
on_ok (Err e) p = tt

pub same_kept : {A : Type 0} (k : Extent) (told : Option (List ℕ)) (h : Header) (is : List (ℕ × ℕ)) (c : Collected) (r : Result A WalkError) → (HasRoom k c.room → IfErr r (StopsWith k c.room)) → Kept k told h is c c r
same_kept k told h is c r stop = record { keeps = λ most kept. on_ok r kept; contents = λ kept. on_ok r kept; room = λ has. on_ok r has; stop = stop }

pub stops_room : (k : Extent) (room : Option ℕ) (x : WalkError) → HasRoom k room → StopsWith k room x
stops_room k room (Archive errors.OutOfMemory) has = tt
stops_room k room TooManyTiles has = tt
stops_room k room x has = has

-- Memory was wanting: what has taken some of the parts isn't looked at again.
pub want_kept : {A : Type 0} (k : Extent) (told : Option (List ℕ)) (h : Header) (is : List (ℕ × ℕ)) (old new : Collected) → Kept {A = A} k told h is old new (Err (Archive errors.OutOfMemory))
want_kept k told h is old new = record { keeps = λ most kept. tt; contents = λ kept. tt; room = λ has. tt; stop = λ has. tt }

abbrev pub in_want : Collected → Option ℕ → Collected
in_want c room = record { parts = c.parts; contents = c.contents; room = room }

pub want_tile : {T : Type 0} (holds : T → List Entry → List (List ℕ) → Type 0) (k : Extent) (told : Option (List ℕ)) (h : Header) (is : List (ℕ × ℕ)) (e : Entry) (c : Collected) (taker : T) (room : Option ℕ) → TakesTile holds k told h is e c taker room (Err (Archive errors.OutOfMemory))
want_tile holds k told h is e c taker room = record {
  new = in_want c room;
  leaves = (refl, tt);
  answer = any_told (λ b. Walks k (tile_walk k h b e) is c (in_want c room) (Err (Archive errors.OutOfMemory))) told (λ b. tt);
  ordered = λ apart before. tt;
  kept = want_kept k told h is c (in_want c room);
}

-- An entry of the whole that passes its tests.
full_one : (e : Entry) (l : List Entry) → full_of e ≡ l → (full_of e ++ []) ≡ l
full_one e l is = append-nil (full_of e) ∙ is

empty_of : (e : Entry) → e.length ≡ 0 → full_of e ≡ []
empty_of e none = ap (λ n. if nat_eq n 0 then [] else e ∷ []) none

some_of : (e : Entry) → e.length ≢ 0 → full_of e ≡ e ∷ []
some_of e some = let test : nat_eq e.length 0 ≡ false = grind (arith, nat_tests) in ap (λ t. if t then [] else e ∷ []) test

walks_whole : (h : Header) (b : List ℕ) (e : Entry) (old new : Collected) (ps : List Entry) → tile_refusal Whole h b e ≡ None → full_of e ≡ ps → Collects old ps new → Walks Whole (tile_walk Whole h b e) [] old new (Ok tt)
walks_whole h b e old new ps fine are c =
    subst (λ o. Walks Whole (tile_by 1 e o) [] old new (Ok tt)) (sym fine) (refl, subst (λ l. Collects old l new) (sym (full_one e ps are)) c)

pub empty_taken : {T : Type 0} (holds : T → List Entry → List (List ℕ) → Type 0) (told : Option (List ℕ)) (h : Header) (e : Entry) (c : Collected) (taker : T) (room : Option ℕ) → e.length ≡ 0 → IfSome told (λ b. Takes room h b e (Ok None)) → Holds holds taker room c
    → TakesTile holds Whole told h [] e c taker room (Ok tt)
empty_taken holds told h e c taker room none takes held = record {
  new = c;
  leaves = (held.1, held.0);
  answer = one_told (λ b. Takes room h b e (Ok None)) (λ b. Walks Whole (tile_walk Whole h b e) [] c c (Ok tt)) told (λ b fine. walks_whole h b e c c [] fine (empty_of e none) (collects_nothing c)) takes;
  ordered = λ apart before. ordered_later 0 c.parts e.tile_id (e.tile_id + e.run_length) (omega arith) before;
  kept = same_kept Whole told h [] c (Ok tt) (λ has. tt);
}

has_contents : (told : Option (List ℕ)) (h : Header) (e : Entry) (bytes : List ℕ) (room : Option ℕ) (es new : List Entry) (cs now : List (List ℕ)) → IfSome told (λ b. Takes room h b e (Ok (Some bytes))) → new ≡ es ++ e ∷ [] → now ≡ cs ++ bytes ∷ []
    → AreContentsOf told h es cs → AreContentsOf told h new now
has_contents None h e bytes room es new cs now takes parts more are =
    (ap length more ∙ length-append cs (bytes ∷ []) ∙ ap (λ n. n + 1) are.0 ∙ sym (length-append es (e ∷ [])) ∙ sym (ap length parts), tt)
has_contents (Some b) h e bytes room es new cs now takes parts more are = (
  ap length more ∙ length-append cs (bytes ∷ []) ∙ ap (λ n. n + 1) are.0 ∙ sym (length-append es (e ∷ [])) ∙ sym (ap length parts),
  more
      ∙ ap (λ l. l ++ bytes ∷ []) are.1
      ∙ ap (λ x. map (contents_of h b) es ++ x ∷ []) (sym (ap (λ o. unwrap_or o []) takes.1))
      ∙ sym (map-append (contents_of h b) es (e ∷ []))
      ∙ sym (ap (map (contents_of h b)) parts),
)

pub whole_taken : {T : Type 0} (holds : T → List Entry → List (List ℕ) → Type 0) (told : Option (List ℕ)) (h : Header) (e : Entry) (c : Collected) (taker : T) (first room : Option ℕ) (bytes : List ℕ)
    → e.run_length ≢ 0 → e.tile_id + e.run_length ≤ MAX_TILE_ID + 1 → first ≡ c.room → IsTaken first e (Some bytes) → IfSome told (λ b. Takes first h b e (Ok (Some bytes))) → Holds holds taker room (with_part c e bytes)
    → TakesTile holds Whole told h [] e c taker room (Ok tt)
whole_taken holds told h e c taker first room bytes run within same is takes held =
    let fits : is_some (taken c.room e.run_length) ≡ true = ap (λ o. is_some (taken o e.run_length)) (sym same) ∙ is.2 in
    let there = part_there c e bytes fits in
    record {
      new = with_part c e bytes;
      leaves = (held.1, held.0);
      answer = one_told (λ b. Takes first h b e (Ok (Some bytes))) (λ b. Walks Whole (tile_walk Whole h b e) [] c (with_part c e bytes) (Ok tt)) told
          (λ b t. walks_whole h b e c (with_part c e bytes) (e ∷ []) t.0 (some_of e is.0) (part_collects c e bytes)) takes;
      ordered = λ apart before. part_ordered c e bytes run within before;
      kept = record {
        keeps = λ most kept. keeps_more Whole [] most c (with_part c e bytes) (e ∷ []) (is.1, tt) (part_collects c e bytes) kept;
        contents = λ kept. has_contents told h e bytes first c.parts (with_part c e bytes).parts c.contents (with_part c e bytes).contents takes there.0 there.1 kept;
        room = λ has. there.2;
        stop = λ has. tt;
      };
    }

-- and one that is refused
refused_one : (h : Header) (b : List ℕ) (e : Entry) (c : Collected) (x : WalkError) → tile_refusal Whole h b e ≡ Some x → ((tile_walk Whole h b e).refusal ≡ Some x) × (c.room ≡ room_after c.room (full (tile_walk Whole h b e).entries))
refused_one h b e c x is = subst (λ o. ((tile_by 1 e o).refusal ≡ Some x) × (c.room ≡ room_after c.room (full (tile_by 1 e o).entries))) (sym is) (refl, refl)

no_room : (h : Header) (b : List ℕ) (e : Entry) (c : Collected) → tile_refusal Whole h b e ≡ None → e.length ≢ 0 → taken c.room e.run_length ≡ None → room_after c.room (full (tile_walk Whole h b e).entries) ≡ None
no_room h b e c fine some none =
    subst (λ o. room_after c.room (full (tile_by 1 e o).entries) ≡ None) (sym fine) (ap (room_after c.room) (full_one e (e ∷ []) (some_of e some)) ∙ none)

refused_by : (h : Header) (b : List ℕ) (e : Entry) (c : Collected) (x : WalkError) → Takes c.room h b e (Err x) → Refuses Whole (tile_walk Whole h b e) [] c c x
refused_by h b e c (Archive errors.OutOfMemory) t = tt
refused_by h b e c (Archive (errors.Reading causes.Fault)) t = tt
refused_by h b e c (Archive (errors.UnexpectedNumberOfBytesReturned asked got)) t = absurd t
refused_by h b e c TooManyTiles t = no_room h b e c t.0 t.1 t.2
refused_by h b e c x t = refused_one h b e c x t

pub whole_refused : {T : Type 0} (holds : T → List Entry → List (List ℕ) → Type 0) (told : Option (List ℕ)) (h : Header) (e : Entry) (c : Collected) (taker : T) (room : Option ℕ) (x : WalkError) → IfSome told (λ b. Takes room h b e (Err x)) → Holds holds taker room c
    → TakesTile holds Whole told h [] e c taker room (Err x)
whole_refused holds told h e c taker room x takes held = record {
  new = c;
  leaves = (held.1, tt);
  answer = one_told (λ b. Takes room h b e (Err x)) (λ b. Refuses Whole (tile_walk Whole h b e) [] c c x) told (λ b t. refused_by h b e c x (subst (λ o. Takes o h b e (Err x)) held.1 t)) takes;
  ordered = λ apart before. tt;
  kept = same_kept Whole told h [] c (Err x) (λ has. stops_room Whole c.room x has);
}

-- An entry where a part is walked.
walks_part : (h : Header) (b : List ℕ) (is : List (ℕ × ℕ)) (e : Entry) (old new : Collected) → e.tile_id + e.run_length ≤ MAX_TILE_ID + 1 → Collects old (parts_of is e) new → Walks Within (tile_walk Within h b e) is old new (Ok tt)
walks_part h b is e old new within c =
    let test : nat_le (e.tile_id + e.run_length) (MAX_TILE_ID + 1) ≡ true = grind (arith, nat_tests) in
    let fine : tile_refusal Within h b e ≡ None = ap (λ t. if t then None else Some (Archive errors.InvalidEntry)) test in
    subst (λ o. Walks Within (tile_by 0 e o) is old new (Ok tt)) (sym fine) (refl, subst (λ l. Collects old l new) (sym (append-nil (parts_of is e))) c)

pub parts_taken : {T : Type 0} (holds : T → List Entry → List (List ℕ) → Type 0) (told : Option (List ℕ)) (h : Header) (is : List (ℕ × ℕ)) (e : Entry) (c : Collected) (taker : T) (room : Option ℕ) → e.tile_id + e.run_length ≤ MAX_TILE_ID + 1 → AddsParts holds is e c taker room
    → TakesTile holds Within told h is e c taker room (Ok tt)
parts_taken holds told h is e c taker room within a = record {
  new = a.new;
  leaves = (a.held.1, a.held.0);
  answer = any_told (λ b. Walks Within (tile_walk Within h b e) is c a.new (Ok tt)) told (λ b. walks_part h b is e c a.new within a.collects);
  ordered = a.ordered;
  kept = record {
    keeps = λ most kept. keeps_more Within is most c a.new (parts_of is e) (parts_lie is e) a.collects kept;
    contents = λ kept. tt;
    room = λ has. tt;
    stop = λ has. tt;
  };
}

past_test : (n m : ℕ) (t : Bool) → (IsTrue t ↔ (n ≤ m)) → t ≡ false → nat_le n m ≡ false
past_test n m true iff is = absurd (cc)
past_test n m false iff is = by (nat_le n m) refl
  where
    by : (x : Bool) → nat_le n m ≡ x → x ≡ false
    by false test = refl
    by true test = let le : n ≤ m = grind (arith, nat_tests) in absurd (false≢true (iff.1 le))

pub within_test : (n m : ℕ) (t : Bool) → (IsTrue t ↔ (n ≤ m)) → t ≡ true → n ≤ m
within_test n m t iff is = iff.0 is

pub past_ids : {T : Type 0} (holds : T → List Entry → List (List ℕ) → Type 0) (told : Option (List ℕ)) (h : Header) (is : List (ℕ × ℕ)) (e : Entry) (c : Collected) (taker : T) (room : Option ℕ) (test : Bool) → (IsTrue test ↔ (e.tile_id + e.run_length ≤ MAX_TILE_ID + 1)) → test ≡ false → Holds holds taker room c
    → TakesTile holds Within told h is e c taker room (Err (Archive errors.InvalidEntry))
past_ids holds told h is e c taker room test iff over held =
    let past = past_test (e.tile_id + e.run_length) (MAX_TILE_ID + 1) test iff over in
    let due : (b : List ℕ) → tile_refusal Within h b e ≡ Some (Archive errors.InvalidEntry) = λ b. ap (λ t. if t then None else Some (Archive errors.InvalidEntry)) past in
    record {
      new = c;
      leaves = (held.1, tt);
      answer = any_told (λ b. Refuses Within (tile_walk Within h b e) is c c (Archive errors.InvalidEntry)) told
          (λ b. subst (λ o. Refuses Within (tile_by 0 e o) is c c (Archive errors.InvalidEntry)) (sym (due b)) (refl, refl));
      ordered = λ apart before. tt;
      kept = same_kept Within told h is c (Err (Archive errors.InvalidEntry)) (λ has. tt);
    }

-- the whole has no look at intervals
pub whole_as : {T : Type 0} (holds : T → List Entry → List (List ℕ) → Type 0) (k : Extent) (told : Option (List ℕ)) (h : Header) (is : List (ℕ × ℕ)) (e : Entry) (c : Collected) (taker : T) (room : Option ℕ) (r : Result Unit WalkError) → k ≡ Whole → TakesTile holds Whole told h [] e c taker room r
    → TakesTile holds k told h is e c taker room r
whole_as holds k told h is e c taker room r whole t = subst (λ x. TakesTile holds x told h is e c taker room r) (sym whole) record {
  new = t.new;
  leaves = t.leaves;
  answer = any_walk told r t.answer;
  ordered = λ apart before. t.ordered tt before;
  kept = record { keeps = t.kept.keeps; contents = t.kept.contents; room = t.kept.room; stop = t.kept.stop };
}
  where
    any_walk : (told : Option (List ℕ)) (r : Result Unit WalkError) → IfSome told (λ b. Walks Whole (tile_walk Whole h b e) [] c t.new r) → IfSome told (λ b. Walks Whole (tile_walk Whole h b e) is c t.new r)
    any_walk None r w = tt
    any_walk (Some b) (Ok x) w = w
    any_walk (Some b) (Err x) w = any_refusal x w
      where
        any_refusal : (x : WalkError) → Refuses Whole (tile_walk Whole h b e) [] c t.new x → Refuses Whole (tile_walk Whole h b e) is c t.new x
        any_refusal (Archive errors.OutOfMemory) w = tt
        any_refusal (Archive (errors.Reading causes.Fault)) w = tt
        any_refusal (Archive (errors.UnexpectedNumberOfBytesReturned asked got)) w = absurd w
        any_refusal TooManyTiles w = w
        any_refusal x w = w
