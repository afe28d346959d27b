-- What was given of an archive's tile entries.
use Rattle.std.specs.Prelude.{◌≤◌, ℕ, List, [], Option, None, Ok, IfSome}
use Rattle.pm_walk.specs.Common.{Entry, Header}
use Rattle.pm_walk.specs.Collected.{Collected}
use Rattle.pm_walk.specs.Collecting.{AllShallow, AreContentsOf, AreOrdered, KeepWithin, KeepsContents}
use Rattle.pm_walk.specs.Gathering.{Gathers}
use Rattle.pm_walk.specs.Intervals.{AreApart}
use Rattle.pm_walk.specs.Parts.{tile_count}
use Rattle.pm_walk.specs.Walk.{all_walked, walked}
use Rattle.pm_walk.specs.declared.extent.Extent.{Extent}
use Rattle.pm_walk.specs.declared.extent.Extent.TheVariants.{Whole}

-- a walk from the root that isn't refused: all of it was collected
pub record IsGathered {T : Type 0} (holds : T → List Entry → List (List ℕ) → Type 0) (k : Extent) (told : Option (List ℕ)) (h : Header) (root : List Entry) (is : List (ℕ × ℕ)) (most : ℕ) (taker : T) : Type 0 where
  pub all : Collected
  pub held : holds taker all.parts all.contents
  pub gathered : IfSome told (λ b. Gathers k (walked k 6 h b is 0 None root) is most (Ok all.parts))
  pub ordered : AreApart 0 is → AreOrdered 0 all.parts None
  pub few : tile_count all.parts ≤ most
  pub within : KeepWithin k is all.parts
  pub contents : KeepsContents k told h all

-- These entries, with these contents beside them, are what was given: over told bytes all tile entries of the archive
-- that have bytes, and what it has in the range of each; in any case entries in order with no tile of zoom 31, no more
-- tiles than the limit, and contents for each.
pub record AreGiven (told : Option (List ℕ)) (h : Header) (root : List Entry) (most : ℕ) (es : List Entry) (cs : List (List ℕ)) : Type 0 where
  pub gathered : IfSome told (λ b. Gathers Whole (all_walked b (h, root)) [] most (Ok es))
  pub contents : AreContentsOf told h es cs
  pub ordered : AreOrdered 0 es None
  pub few : tile_count es ≤ most
  pub shallow : AllShallow es

-- what was given is held
pub record HoldsGiven {T : Type 0} (holds : T → List Entry → List (List ℕ) → Type 0) (told : Option (List ℕ)) (h : Header) (root : List Entry) (most : ℕ) (taker : T) : Type 0 where
  pub entries : List Entry
  pub contents : List (List ℕ)
  pub given : AreGiven told h root most entries contents
  pub held : holds taker entries contents
