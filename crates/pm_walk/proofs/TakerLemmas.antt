-- Parts that were given to what takes them.
use Rattle.pm_walk.proofs.Common.{AreOrdered, arith, beside, Collected, Collects, Entry, is_some, List, MAX_TILE_ID, None, Option, refl, Some, sym, taken, true, with_part, ℕ, [], ◌++◌, ◌+◌, ◌∷◌, ◌≡◌}
use Rattle.pm_walk.proofs.Common.{◌≢◌, ◌≤◌}
use Rattle.pm_walk.proofs.CollectingLemmas.{ordered_later, ordered_push}

-- one more part was collected
pub part_collects : (c : Collected) (p : Entry) (bytes : List ℕ) → Collects c (p ∷ []) (with_part c p bytes)
part_collects c p bytes = by (taken c.room p.run_length) refl
  where
    by : (room : Option ℕ) → taken c.room p.run_length ≡ room → Collects c (p ∷ []) (beside c p bytes room)
    by None is = record { room = sym is; parts = tt }
    by (Some n) is = record { room = sym is; parts = refl }

-- behind others that end by its id
pub part_ordered : (c : Collected) (p : Entry) (bytes : List ℕ) → p.run_length ≢ 0 → p.tile_id + p.run_length ≤ MAX_TILE_ID + 1 → AreOrdered 0 c.parts (Some p.tile_id) → AreOrdered 0 (with_part c p bytes).parts (Some (p.tile_id + p.run_length))
part_ordered c p bytes run within before = by (taken c.room p.run_length)
  where
    by : (room : Option ℕ) → AreOrdered 0 (beside c p bytes room).parts (Some (p.tile_id + p.run_length))
    by None = ordered_later 0 c.parts p.tile_id (p.tile_id + p.run_length) (omega arith) before
    by (Some n) = ordered_push 0 c.parts p (omega (arith, run)) within before

-- where there is room for it, it stands behind the others with its contents
pub part_there : (c : Collected) (p : Entry) (bytes : List ℕ) → is_some (taken c.room p.run_length) ≡ true
    → ((with_part c p bytes).parts ≡ c.parts ++ p ∷ []) × ((with_part c p bytes).contents ≡ c.contents ++ bytes ∷ []) × (is_some (with_part c p bytes).room ≡ true)
part_there c p bytes = by (taken c.room p.run_length)
  where
    by : (room : Option ℕ) → is_some room ≡ true → ((beside c p bytes room).parts ≡ c.parts ++ p ∷ []) × ((beside c p bytes room).contents ≡ c.contents ++ bytes ∷ []) × (is_some (beside c p bytes room).room ≡ true)
    by None is = absurd (cc)
    by (Some n) is = (refl, refl, refl)
