-- What the steps of a walk make of what was collected.
use Rattle.std.specs.Prelude.{◌≡◌, ℕ, ◌+◌, ◌≤◌, true, List, Option, Some, Result, IfErr, IfOk, IfSome, OnOk}
use Rattle.pm_walk.specs.Common.{Entry, Header}
use Rattle.pm_walk.specs.Collected.{Collected}
use Rattle.pm_walk.specs.Collecting.{AreOrdered, Collects, HasRoom, IsMetLeaf, KeepsContents, KeepsTo, Meets, StopsWith, Walks}
use Rattle.pm_walk.specs.Intervals.{AreApart, stays_within}
use Rattle.pm_walk.specs.Parts.{parts_of}
use Rattle.pm_walk.specs.Taker.{Holds, Leaves}
use Rattle.pm_walk.specs.Walk.{tile_walk, walked}
use Rattle.pm_walk.specs.declared.error.WalkError.{WalkError}
use Rattle.pm_walk.specs.declared.extent.Extent.{Extent}

-- told or not: what holds before a step holds behind it, and where it ends for another cause than running
-- out of memory or room, there is room
pub record Kept {A : Type 0} (k : Extent) (told : Option (List ℕ)) (h : Header) (is : List (ℕ × ℕ)) (old new : Collected) (r : Result A WalkError) : Type 0 where
  pub keeps : (most : ℕ) → KeepsTo k is most old → OnOk r (KeepsTo k is most new)
  pub contents : KeepsContents k told h old → OnOk r (KeepsContents k told h new)
  pub room : HasRoom k old.room → OnOk r (HasRoom k new.room)
  pub stop : HasRoom k old.room → IfErr r (StopsWith k new.room)

-- the parts of an entry were collected
pub record AddsParts {T : Type 0} (holds : T → List Entry → List (List ℕ) → Type 0) (is : List (ℕ × ℕ)) (e : Entry) (old : Collected) (taker : T) (room : Option ℕ) : Type 0 where
  pub new : Collected
  pub held : Holds holds taker room new
  pub collects : Collects old (parts_of is e) new
  pub ordered : AreApart 0 is → AreOrdered 0 old.parts (Some e.tile_id) → AreOrdered 0 new.parts (Some (e.tile_id + e.run_length))

-- a tile entry was tested and collected, or is refused
pub record TakesTile {T : Type 0} (holds : T → List Entry → List (List ℕ) → Type 0) (k : Extent) (told : Option (List ℕ)) (h : Header) (is : List (ℕ × ℕ)) (e : Entry) (old : Collected) (taker : T) (room : Option ℕ) (r : Result Unit WalkError) : Type 0 where
  pub new : Collected
  pub leaves : Leaves holds taker room new r
  pub answer : IfSome told (λ b. Walks k (tile_walk k h b e) is old new r)
  pub ordered : AreApart 0 is → AreOrdered 0 old.parts (Some e.tile_id) → OnOk r (AreOrdered 0 new.parts (Some (e.tile_id + e.run_length)))
  pub kept : Kept k told h is old new r

-- an entry was met
pub record MeetsEntry {T : Type 0} (holds : T → List Entry → List (List ℕ) → Type 0) (k : Extent) (told : Option (List ℕ)) (h : Header) (is : List (ℕ × ℕ)) (left : ℕ) (e : Entry) (end : Option ℕ) (old : Collected) (taker : T) (room : Option ℕ)
    (r : Result (Option (List Entry)) WalkError) : Type 0 where
  pub new : Collected
  pub leaves : Leaves holds taker room new r
  pub answer : IfSome told (λ b. Meets k h b is left e end old new r)
  pub ordered : AreApart 0 is → AreOrdered 0 old.parts (Some e.tile_id) → stays_within end (e.tile_id + e.run_length) ≡ true → OnOk r (AreOrdered 0 new.parts end)
  pub kept : Kept k told h is old new r
  pub below : IfOk r (λ leaf. IfSome leaf (λ _. IsMetLeaf k is left e end old new))

-- a directory was walked, and the archive read so often
pub record WalksAll {T : Type 0} (holds : T → List Entry → List (List ℕ) → Type 0) (k : Extent) (told : Option (List ℕ)) (h : Header) (is : List (ℕ × ℕ)) (left low : ℕ) (limit : Option ℕ) (es : List Entry) (old : Collected) (taker : T) (room : Option ℕ)
    (before now : ℕ) (r : Result Unit WalkError) : Type 0 where
  pub new : Collected
  pub leaves : Leaves holds taker room new r
  pub answer : IfSome told (λ b. Walks k (walked k left h b is low limit es) is old new r)
  pub ordered : AreApart 0 is → AreOrdered 0 old.parts (Some low) → stays_within limit low ≡ true → OnOk r (AreOrdered 0 new.parts limit)
  pub kept : Kept k told h is old new r
  pub reads : IfSome told (λ b. now ≤ before + (walked k left h b is low limit es).reads)
