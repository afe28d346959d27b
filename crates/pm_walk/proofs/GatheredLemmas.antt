-- What a walk from the root has given.
use Rattle.pm_walk.proofs.Common.{ap, Collected, Entry, Err, Extent, Gathers, Header, Holds, IfSome, is_some, List, None, nothing, Ok, Option, refl, Result, Some, subst, sym, TooManyTiles, true}
use Rattle.pm_walk.proofs.Common.{walked, WalkError, WalksAll, Whole, ℕ, [], ◌+◌, ◌∙◌, ◌≡◌, ◌≤◌}
use Rattle.pm_walk.specs.Gathered.{HoldsGiven, IsGathered}
use Rattle.pm_walk.proofs.ContentsLemmas.{contents_first}
use Rattle.pm_walk.proofs.GatheringLemmas.{RootWalk, all_gathered, none_left, room_first, told_root, walk_refused}
use Rattle.pm_walk.proofs.LyingLemmas.{kept_all}

-- a walk from the root on, by what takes the parts, to which none was given before
abbrev pub FromRoot : {T : Type 0} → (T → List Entry → List (List ℕ) → Type 0) → Extent → Option (List ℕ) → Header → List (ℕ × ℕ) → List Entry → ℕ → T → T → Option ℕ → ℕ → ℕ → Result Unit WalkError → Type 0
FromRoot holds k told h is es most first taker room before now r = (c : Collected) → Holds holds first (Some most) c → WalksAll holds k told h is 6 0 None es c taker room before now r

pub root_gathered : {T : Type 0} (holds : T → List Entry → List (List ℕ) → Type 0) (k : Extent) (told : Option (List ℕ)) (h : Header) (is : List (ℕ × ℕ)) (es root : List Entry) (most : ℕ) (first taker last : T) (room : Option ℕ) (before now : ℕ)
    → es ≡ root → holds first [] [] → FromRoot holds k told h is es most first taker room before now (Ok tt) → (last ≡ taker) × (is_some room ≡ true) → IsGathered holds k told h root is most last
root_gathered holds k told h is es root most first taker last room before now same begun walks all =
    let w = walks (nothing most) (begun, refl) in
    let some : is_some w.new.room ≡ true = sym (ap is_some w.leaves.0) ∙ all.1 in
    let kept = kept_all k is most (nothing most) w.new w.new.parts (refl, refl) w.kept.keeps (refl, some) in
    record {
      all = w.new;
      held = subst (λ t. holds t w.new.parts w.new.contents) (sym all.0) w.leaves.1;
      gathered = told_root told k h is es root most (nothing most) w.new (Ok tt) (Ok w.new.parts) same (λ b v. all_gathered k (RootWalk k h is es b) is most (nothing most) w.new w.new.parts (refl, refl) v (refl, some)) w.answer;
      ordered = λ apart. w.ordered apart refl refl;
      few = kept.0;
      within = kept.1;
      contents = w.kept.contents (contents_first k told h (nothing most) refl refl);
    }

pub root_too_many : {T : Type 0} (holds : T → List Entry → List (List ℕ) → Type 0) (k : Extent) (told : Option (List ℕ)) (h : Header) (is : List (ℕ × ℕ)) (es root : List Entry) (most : ℕ) (first taker : T) (room : Option ℕ) (before now : ℕ) (x : WalkError)
    → es ≡ root → holds first [] [] → FromRoot holds k told h is es most first taker room before now (Ok tt) → (x ≡ TooManyTiles) × (room ≡ None) → IfSome told (λ b. Gathers k (walked k 6 h b is 0 None root) is most (Err x))
root_too_many holds k told h is es root most first taker room before now x same begun walks none =
    let w = walks (nothing most) (begun, refl) in
    told_root told k h is es root most (nothing most) w.new (Ok tt) (Err x) same (λ b v. none_left k (RootWalk k h is es b) is most (nothing most) w.new x refl v (none.0, sym w.leaves.0 ∙ none.1)) w.answer

pub root_refused : {T : Type 0} (holds : T → List Entry → List (List ℕ) → Type 0) (k : Extent) (told : Option (List ℕ)) (h : Header) (is : List (ℕ × ℕ)) (es root : List Entry) (most : ℕ) (first taker : T) (room : Option ℕ) (before now : ℕ) (x : WalkError)
    → es ≡ root → holds first [] [] → FromRoot holds k told h is es most first taker room before now (Err x) → IfSome told (λ b. Gathers k (walked k 6 h b is 0 None root) is most (Err x))
root_refused holds k told h is es root most first taker room before now x same begun walks =
    let w = walks (nothing most) (begun, refl) in
    told_root told k h is es root most (nothing most) w.new (Err x) (Err x) same (λ b v. walk_refused k (RootWalk k h is es b) is most (nothing most) w.new x refl v (w.kept.stop (room_first k (nothing most).room most refl))) w.answer

pub root_reads : {T : Type 0} (holds : T → List Entry → List (List ℕ) → Type 0) (k : Extent) (told : Option (List ℕ)) (h : Header) (is : List (ℕ × ℕ)) (es root : List Entry) (most : ℕ) (first taker : T) (room : Option ℕ) (before now : ℕ) (r : Result Unit WalkError)
    → es ≡ root → holds first [] [] → FromRoot holds k told h is es most first taker room before now r → IfSome told (λ b. now ≤ before + (walked k 6 h b is 0 None root).reads)
root_reads holds k told h is es root most first taker room before now r same begun walks =
    let w = walks (nothing most) (begun, refl) in
    subst (λ l. IfSome told (λ b. now ≤ before + (walked k 6 h b is 0 None l).reads)) same w.reads

-- all of the whole
pub all_given : {T : Type 0} (holds : T → List Entry → List (List ℕ) → Type 0) (told : Option (List ℕ)) (h : Header) (root : List Entry) (most : ℕ) (taker : T) → IsGathered holds Whole told h root [] most taker → HoldsGiven holds told h root most taker
all_given holds told h root most taker g = record {
  entries = g.all.parts;
  contents = g.all.contents;
  given = record { gathered = g.gathered; contents = g.contents; ordered = g.ordered tt; few = g.few; shallow = g.within };
  held = g.held;
}
