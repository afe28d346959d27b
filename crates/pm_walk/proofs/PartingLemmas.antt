-- The parts of a tile entry that were given to what takes them.
use Rattle.pm_walk.proofs.Common.{AddsParts, AreApart, AreOrdered, arith, clip, Collected, Entry, Holds, length, List, MAX_TILE_ID, Option, Some, subst, with_part, ℕ, [], ◌+◌, ◌∷◌, ◌≡◌, ◌≢◌, ◌≤◌}
use Rattle.pm_walk.proofs.ClippingLemmas.{Clipping, Reached, all_clipped, all_reached, clipping, is_clip, nothing_clipped, past_none, past_one, reach_none, reach_one, reaching}
use Rattle.pm_walk.proofs.CollectingLemmas.{ordered_later}
use Rattle.pm_walk.proofs.TakerLemmas.{part_collects, part_ordered}

-- those in some intervals, others being left
pub record Parting {T : Type 0} (holds : T → List Entry → List (List ℕ) → Type 0) (e : Entry) (is rest : List (ℕ × ℕ)) (old : Collected) (taker : T) (room : Option ℕ) : Type 0 where
  pub now : Collected
  pub held : Holds holds taker room now
  pub clipped : Clipping e is rest old now
  pub reached : AreApart 0 is → AreOrdered 0 old.parts (Some e.tile_id) → Reached e rest now

pub none_parted : {T : Type 0} (holds : T → List Entry → List (List ℕ) → Type 0) (e : Entry) (is : List (ℕ × ℕ)) (c : Collected) (taker : T) (room : Option ℕ) → Holds holds taker room c → Parting holds e is is c taker room
none_parted holds e is c taker room held = record { now = c; held = held; clipped = clipping e is c; reached = λ apart before. reaching e is c apart before }

pub past_without : {T : Type 0} (holds : T → List Entry → List (List ℕ) → Type 0) (e : Entry) (is rest : List (ℕ × ℕ)) (i : ℕ × ℕ) (others : List (ℕ × ℕ)) (c : Collected) (taker : T) (room : Option ℕ) → rest ≡ i ∷ others → clip e i ≡ [] → Parting holds e is rest c taker room
    → Parting holds e is others c taker room
past_without holds e is rest i others c taker room first none s = record {
  now = s.now;
  held = s.held;
  clipped = past_none e is i others c s.now none (subst (λ l. Clipping e is l c s.now) first s.clipped);
  reached = λ apart before. reach_none e i others s.now (subst (λ l. Reached e l s.now) first (s.reached apart before));
}

pub past_part : {T : Type 0} (holds : T → List Entry → List (List ℕ) → Type 0) (e : Entry) (is rest : List (ℕ × ℕ)) (i : ℕ × ℕ) (others : List (ℕ × ℕ)) (c : Collected) (taker next : T) (room more : Option ℕ) (p : Entry) (bytes : List ℕ)
    → e.run_length ≢ 0 → e.tile_id + e.run_length ≤ MAX_TILE_ID + 1 → rest ≡ i ∷ others → clip e i ≡ p ∷ [] → Parting holds e is rest c taker room → ((m : Collected) → Holds holds taker room m → Holds holds next more (with_part m p bytes)) → Parting holds e is others c next more
past_part holds e is rest i others c taker next room more p bytes run within first one s adds =
    let a = is_clip e i p run one in
    record {
      now = with_part s.now p bytes;
      held = adds s.now s.held;
      clipped = past_one e is i others c s.now (with_part s.now p bytes) p one (subst (λ l. Clipping e is l c s.now) first s.clipped) (part_collects s.now p bytes);
      reached = λ apart before. reach_one e i others s.now (with_part s.now p bytes) p run one (subst (λ l. Reached e l s.now) first (s.reached apart before)) (λ ends. part_ordered s.now p bytes a.some (omega (arith, a.past, within)) ends);
    }

pub all_parted : {T : Type 0} (holds : T → List Entry → List (List ℕ) → Type 0) (e : Entry) (is rest : List (ℕ × ℕ)) (c : Collected) (taker : T) (room : Option ℕ) → e.length ≢ 0 → length rest ≡ 0 → Parting holds e is rest c taker room → AddsParts holds is e c taker room
all_parted holds e is rest c taker room some none s = record {
  new = s.now;
  held = s.held;
  collects = all_clipped e is rest c s.now some none s.clipped;
  ordered = λ apart before. all_reached e rest s.now (s.reached apart before);
}

-- an entry without a byte has none
pub empty_parted : {T : Type 0} (holds : T → List Entry → List (List ℕ) → Type 0) (e : Entry) (is : List (ℕ × ℕ)) (c : Collected) (taker : T) (room : Option ℕ) → e.length ≡ 0 → Holds holds taker room c → AddsParts holds is e c taker room
empty_parted holds e is c taker room none held = record {
  new = c;
  held = held;
  collects = nothing_clipped e is c none;
  ordered = λ apart before. ordered_later 0 c.parts e.tile_id (e.tile_id + e.run_length) (omega arith) before;
}
