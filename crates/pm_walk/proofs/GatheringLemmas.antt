-- What a walk from the root comes to.
use Rattle.pm_walk.proofs.Common.{ap, Archive, Collected, Entry, Err, Extent, full, Gathers, HasRoom, Header, IfSome, is_some, IsFew, IsFine, List, None, Ok, Option, pieces, refl, Refuses, Result}
use Rattle.pm_walk.proofs.Common.{room_after, Some, Stops, StopsWith, subst, sym, tile_count, TooManyTiles, true, Walked, walked, WalkError, Walks, Whole, Within, ℕ, [], ◌++◌, ◌<◌, ◌∙◌, ◌≡◌}
use Rattle.pm_format.specs.declared.error.PmtError.TheVariants as errors
use Rattle.pm_format.specs.declared.error.ReadCause.TheVariants as causes
use Rattle.pm_walk.proofs.CollectLemmas.{enough, too_many}
use Rattle.pm_walk.proofs.ToldLemmas.{one_told}

some_of : (o : Option ℕ) → is_some o ≡ true → (x : ℕ) × (o ≡ Some x)
some_of None is = absurd (cc)
some_of (Some x) is = (x, refl)

-- all of it is there where there was room for it, and too much where there was none
pub all_gathered : (ext : Extent) (w : Walked) (is : List (ℕ × ℕ)) (most : ℕ) (old new : Collected) (ps : List Entry) → (old.parts ≡ []) × (old.room ≡ Some most) → Walks ext w is old new (Ok tt) → (ps ≡ new.parts) × (is_some new.room ≡ true)
    → Gathers ext w is most (Ok ps)
all_gathered ext w is most old new ps begun walks all =
    let c = walks.1 in
    let x = some_of new.room all.1 in (
      walks.0,
      all.0 ∙ subst (λ o. IfSome o (λ _. new.parts ≡ old.parts ++ pieces ext is w.entries)) x.1 c.parts ∙ ap (λ l. l ++ pieces ext is w.entries) begun.0,
      enough most (pieces ext is w.entries) x.0 (sym (ap (λ r. room_after r (pieces ext is w.entries)) begun.1) ∙ sym c.room ∙ x.1),
    )

fine_by : (ext : Extent) (w : Walked) → w.refusal ≡ None → IsFine ext w
fine_by Within w fine = fine
fine_by Whole w fine = tt

pub none_left : (ext : Extent) (w : Walked) (is : List (ℕ × ℕ)) (most : ℕ) (old new : Collected) (x : WalkError) → old.room ≡ Some most → Walks ext w is old new (Ok tt) → (x ≡ TooManyTiles) × (new.room ≡ None) → Gathers ext w is most (Err x)
none_left ext w is most old new x room walks none =
    subst (λ y. Gathers ext w is most (Err y)) (sym none.0)
    (fine_by ext w walks.0, too_many most (pieces ext is w.entries) (sym (ap (λ r. room_after r (pieces ext is w.entries)) room) ∙ sym walks.1.room ∙ none.1))

few_by : (ext : Extent) (is : List (ℕ × ℕ)) (most : ℕ) (old new : Collected) (es : List Entry) → old.room ≡ Some most → new.room ≡ room_after old.room (pieces ext is es) → HasRoom ext new.room → IsFew ext most (pieces ext is es)
few_by Within is most old new es room at has = tt
few_by Whole is most old new es room at has = let x = some_of new.room has in enough most (full es) x.0 (sym (ap (λ r. room_after r (full es)) room) ∙ sym at ∙ x.1)

stopped_by : (ext : Extent) (w : Walked) (is : List (ℕ × ℕ)) (most : ℕ) (old : Option ℕ) → old ≡ Some most → Stops ext (room_after old (pieces ext is w.entries)) → IsFine ext w × (most < tile_count (pieces ext is w.entries))
stopped_by Within w is most old room stops = absurd stops
stopped_by Whole w is most old room stops = (tt, too_many most (full w.entries) (sym (ap (λ r. room_after r (full w.entries)) room) ∙ stops))

-- a refusal
pub walk_refused : (ext : Extent) (w : Walked) (is : List (ℕ × ℕ)) (most : ℕ) (old new : Collected) (x : WalkError) → old.room ≡ Some most → Refuses ext w is old new x → StopsWith ext new.room x → Gathers ext w is most (Err x)
walk_refused ext w is most old new (Archive errors.OutOfMemory) room r has = tt
walk_refused ext w is most old new (Archive (errors.Reading causes.Fault)) room r has = tt
walk_refused ext w is most old new (Archive (errors.UnexpectedNumberOfBytesReturned asked got)) room r has = absurd r
walk_refused ext w is most old new TooManyTiles room r has = stopped_by ext w is most old.room room r
walk_refused ext w is most old new x room r has = (r.0, few_by ext is most old new w.entries room r.1 has)

-- there is room at first
pub room_first : (ext : Extent) (room : Option ℕ) (most : ℕ) → room ≡ Some most → HasRoom ext room
room_first Within room most is = tt
room_first Whole room most is = ap is_some is

-- the same over told bytes, with the root in the words of the code
abbrev pub RootWalk : Extent → Header → List (ℕ × ℕ) → List Entry → List ℕ → Walked
RootWalk ext h is es b = walked ext 6 h b is 0 None es

pub told_root : (told : Option (List ℕ)) (ext : Extent) (h : Header) (is : List (ℕ × ℕ)) (es root : List Entry) (most : ℕ) (old new : Collected) (r : Result Unit WalkError) (all : Result (List Entry) WalkError) → es ≡ root
    → ((b : List ℕ) → Walks ext (RootWalk ext h is es b) is old new r → Gathers ext (RootWalk ext h is es b) is most all) → IfSome told (λ b. Walks ext (RootWalk ext h is es b) is old new r) → IfSome told (λ b. Gathers ext (RootWalk ext h is root b) is most all)
told_root told ext h is es root most old new r all same gathers walks =
    one_told (λ b. Walks ext (RootWalk ext h is es b) is old new r) (λ b. Gathers ext (RootWalk ext h is root b) is most all) told (λ b w. subst (λ l. Gathers ext (RootWalk ext h is l b) is most all) same (gathers b w)) walks
