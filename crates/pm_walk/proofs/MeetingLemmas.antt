-- What an entry that is met makes of what was collected.
use Rattle.pm_walk.proofs.Common.{ap, Archive, arith, below, Bool, Collected, Collects, directory_at, Entry, entry_walk, Err, Extent, false, false≢true, fits_depth, Header, Holds, IfSome}
use Rattle.pm_walk.proofs.Common.{if◌then◌else◌, IsTrue, leaf_of, leaf_walk, List, Meets, meets, MeetsEntry, nat_eq, nat_tests, None, not, Ok, Option, pieces, PmtError, refl, Refuses, Result}
use Rattle.pm_walk.proofs.Common.{room_after, Some, subst, suc, sym, TakesTile, tile_walk, true, Walked, walked, WalkError, Walks, zero, ℕ, ◌+◌, ◌↔◌, ◌∙◌, ◌≡◌, ◌≢◌}
use Rattle.pm_format.specs.declared.error.PmtError.TheVariants as errors
use Rattle.pm_format.specs.declared.error.ReadCause.TheVariants as causes
use Rattle.pm_reader.specs.Answers.{Gives}
use Rattle.pm_walk.proofs.CollectingLemmas.{collects_nothing, ordered_end, starts_within}
use Rattle.pm_walk.proofs.TakingLemmas.{same_kept, stops_room}
use Rattle.pm_walk.proofs.ToldLemmas.{any_told, one_told}
use Rattle.pm_walk.proofs.WalkingLemmas.{met_goes, pieces_none, tile_goes, unmet_goes}

-- whether an entry leads to a leaf
pub leaf_run : (n : ℕ) (t : Bool) → (IsTrue t ↔ (n ≡ 0)) → t ≡ true → n ≡ 0
leaf_run n t iff is = iff.0 is

pub tile_run : (n : ℕ) (t : Bool) → (IsTrue t ↔ (n ≡ 0)) → t ≡ false → nat_eq n 0 ≡ false
tile_run n t iff is =
    let some : n ≢ 0 = λ none. false≢true (sym is ∙ iff.1 none) in
    grind (arith, nat_tests)

pub leaf_left : (left : ℕ) (e : Entry) → fits_depth left e ≡ true → e.run_length ≡ 0 → left ≡ 0 → ⊥
leaf_left left e fits run none =
    false≢true (subst (λ n. not (nat_eq n 0) ≡ true) none (subst (λ n. (if nat_eq n 0 then not (nat_eq left 0) else true) ≡ true) run fits))

-- a tile
pub tile_met : {T : Type 0} (holds : T → List Entry → List (List ℕ) → Type 0) (k : Extent) (told : Option (List ℕ)) (h : Header) (is : List (ℕ × ℕ)) (left : ℕ) (e : Entry) (end : Option ℕ) (c : Collected) (taker : T) (room : Option ℕ)
    → nat_eq e.run_length 0 ≡ false → TakesTile holds k told h is e c taker room (Ok tt) → MeetsEntry holds k told h is left e end c taker room (Ok None)
tile_met holds k told h is left e end c taker room run t = record {
  new = t.new;
  leaves = t.leaves;
  answer = one_told (λ b. Walks k (tile_walk k h b e) is c t.new (Ok tt)) (λ b. Walks k (entry_walk k (below k left h b is) h b is e end) is c t.new (Ok tt)) told
      (λ b w. subst (λ v. Walks k v is c t.new (Ok tt)) (sym (tile_goes k h b is left e end run)) w) t.answer;
  ordered = λ apart before within. ordered_end 0 t.new.parts (e.tile_id + e.run_length) end within (t.ordered apart before);
  kept = record { keeps = t.kept.keeps; contents = t.kept.contents; room = t.kept.room; stop = t.kept.stop };
  below = tt;
}

pub tile_refused : {T : Type 0} (holds : T → List Entry → List (List ℕ) → Type 0) (k : Extent) (told : Option (List ℕ)) (h : Header) (is : List (ℕ × ℕ)) (left : ℕ) (e : Entry) (end : Option ℕ) (c : Collected) (taker : T) (room : Option ℕ) (x : WalkError)
    → nat_eq e.run_length 0 ≡ false → TakesTile holds k told h is e c taker room (Err x) → MeetsEntry holds k told h is left e end c taker room (Err x)
tile_refused holds k told h is left e end c taker room x run t = record {
  new = t.new;
  leaves = t.leaves;
  answer = one_told (λ b. Refuses k (tile_walk k h b e) is c t.new x) (λ b. Refuses k (entry_walk k (below k left h b is) h b is e end) is c t.new x) told
      (λ b w. subst (λ v. Refuses k v is c t.new x) (sym (tile_goes k h b is left e end run)) w) t.answer;
  ordered = λ apart before within. tt;
  kept = record { keeps = t.kept.keeps; contents = t.kept.contents; room = t.kept.room; stop = t.kept.stop };
  below = tt;
}

-- a leaf that isn't met
walks_unmet : (k : Extent) (h : Header) (b : List ℕ) (is : List (ℕ × ℕ)) (left : ℕ) (e : Entry) (end : Option ℕ) (c : Collected) → e.run_length ≡ 0 → meets k is e.tile_id end ≡ false → Walks k (entry_walk k (below k left h b is) h b is e end) is c c (Ok tt)
walks_unmet k h b is left e end c run unmet =
    subst (λ w. Walks k w is c c (Ok tt)) (sym (unmet_goes k h b is left e end run unmet)) (refl, subst (λ l. Collects c l c) (sym (pieces_none k is)) (collects_nothing c))

pub leaf_unmet : {T : Type 0} (holds : T → List Entry → List (List ℕ) → Type 0) (k : Extent) (told : Option (List ℕ)) (h : Header) (is : List (ℕ × ℕ)) (left : ℕ) (e : Entry) (end : Option ℕ) (c : Collected) (taker : T) (room : Option ℕ) (met : Bool)
    → Holds holds taker room c → e.run_length ≡ 0 → met ≡ meets k is e.tile_id end → met ≡ false → MeetsEntry holds k told h is left e end c taker room (Ok None)
leaf_unmet holds k told h is left e end c taker room met held run tested unmet = record {
  new = c;
  leaves = (held.1, held.0);
  answer = any_told (λ b. Walks k (entry_walk k (below k left h b is) h b is e end) is c c (Ok tt)) told (λ b. walks_unmet k h b is left e end c run (sym tested ∙ unmet));
  ordered = λ apart before within. ordered_end 0 c.parts e.tile_id end (starts_within end e.tile_id e.run_length within) before;
  kept = same_kept k told h is c (Ok None) (λ has. tt);
  below = tt;
}

-- one that is still to be walked
pub leaf_met : {T : Type 0} (holds : T → List Entry → List (List ℕ) → Type 0) (k : Extent) (told : Option (List ℕ)) (h : Header) (is : List (ℕ × ℕ)) (left : ℕ) (e : Entry) (end : Option ℕ) (c : Collected) (taker : T) (room : Option ℕ) (met : Bool) (leaf : List Entry)
    → Holds holds taker room c → fits_depth left e ≡ true → e.run_length ≡ 0 → met ≡ meets k is e.tile_id end → met ≡ true → (offset size : ℕ) → offset ≡ e.offset → size ≡ e.length → IfSome told (λ b. directory_at h b offset size ≡ Ok leaf) → MeetsEntry holds k told h is left e end c taker room (Ok (Some leaf))
leaf_met holds k told h is left e end c taker room met leaf held fits run tested is_met offset size at_is size_is found = record {
  new = c;
  leaves = (held.1, held.0);
  answer = one_told (λ b. leaf_of h b e ≡ Ok leaf) (λ b. Meets k h b is left e end c c (Ok (Some leaf))) told (λ b at. (run, sym tested ∙ is_met, at, refl))
      (subst (λ n. IfSome told (λ b. directory_at h b e.offset n ≡ Ok leaf)) size_is (subst (λ n. IfSome told (λ b. directory_at h b n size ≡ Ok leaf)) at_is found));
  ordered = λ apart before within. ordered_end 0 c.parts e.tile_id end (starts_within end e.tile_id e.run_length within) before;
  kept = same_kept k told h is c (Ok (Some leaf)) (λ has. tt);
  below = record { deep = leaf_left left e fits run; met = sym tested ∙ is_met; kept = refl };
}

-- and one that isn't read
refuses_by : (k : Extent) (is : List (ℕ × ℕ)) (w : Walked) (inner : List Entry → Walked) (c : Collected) (found : Result (List Entry) PmtError) (x : PmtError) → w ≡ leaf_walk inner found → Gives found (Err x) → Refuses k w is c c (Archive x)
refuses_by k is w inner c found errors.OutOfMemory at g = tt
refuses_by k is w inner c found (errors.Reading causes.Fault) at g = tt
refuses_by k is w inner c found (errors.UnexpectedNumberOfBytesReturned asked got) at g = absurd g
refuses_by k is w inner c found x at g =
    let same = at ∙ ap (leaf_walk inner) g in
    (ap (λ v. v.refusal) same, sym (ap (λ v. room_after c.room (pieces k is v.entries)) same ∙ ap (room_after c.room) (pieces_none k is)))

refuses_met : (k : Extent) (h : Header) (b : List ℕ) (is : List (ℕ × ℕ)) (left : ℕ) (e : Entry) (end : Option ℕ) (c : Collected) (x : PmtError) → (left ≡ 0 → ⊥) → e.run_length ≡ 0 → meets k is e.tile_id end ≡ true → Gives (leaf_of h b e) (Err x)
    → Refuses k (entry_walk k (below k left h b is) h b is e end) is c c (Archive x)
refuses_met k h b is zero e end c x deep run met g = absurd (deep refl)
refuses_met k h b is (suc n) e end c x deep run met g =
    refuses_by k is (entry_walk k (below k (suc n) h b is) h b is e end) (walked k n h b is e.tile_id end) c (leaf_of h b e) x (met_goes k h b is n e end run met) g

pub leaf_refused : {T : Type 0} (holds : T → List Entry → List (List ℕ) → Type 0) (k : Extent) (told : Option (List ℕ)) (h : Header) (is : List (ℕ × ℕ)) (left : ℕ) (e : Entry) (end : Option ℕ) (c : Collected) (taker : T) (room : Option ℕ) (met : Bool) (x : PmtError)
    → Holds holds taker room c → fits_depth left e ≡ true → e.run_length ≡ 0 → met ≡ meets k is e.tile_id end → met ≡ true → (offset size : ℕ) → offset ≡ e.offset → size ≡ e.length → IfSome told (λ b. Gives (directory_at h b offset size) (Err x)) → MeetsEntry holds k told h is left e end c taker room (Err (Archive x))
leaf_refused holds k told h is left e end c taker room met x held fits run tested is_met offset size at_is size_is gives = record {
  new = c;
  leaves = (held.1, tt);
  answer = one_told (λ b. Gives (leaf_of h b e) (Err x)) (λ b. Refuses k (entry_walk k (below k left h b is) h b is e end) is c c (Archive x)) told
      (λ b g. refuses_met k h b is left e end c x (leaf_left left e fits run) run (sym tested ∙ is_met) g)
      (subst (λ n. IfSome told (λ b. Gives (directory_at h b e.offset n) (Err x))) size_is (subst (λ n. IfSome told (λ b. Gives (directory_at h b n size) (Err x))) at_is gives));
  ordered = λ apart before within. tt;
  kept = same_kept k told h is c (Err (Archive x)) (λ has. stops_room k c.room (Archive x) has);
  below = tt;
}
