-- One more add, and a run of them.
use Rattle.std.specs.Prelude.{◌≡◌, ℕ, zero, suc, ◌+◌, ◌-◌, Bool, List, [], ◌∷◌, ◌++◌, min, nat_lt, nat_eq, ◌&&◌, if◌then◌else◌, refl}
use Rattle.pm_writer.specs.Common.{Entry, entry}

-- the entry is the one before the id, of the same contents, and its run isn't full
abbrev pub grows : ℕ → ℕ → ℕ → Entry → Bool
grows limit id offset e = nat_eq e.offset offset && (nat_eq (e.tile_id + e.run_length) id && nat_lt e.run_length limit)

-- the last entry grows, or a new one follows
abbrev pub put : ℕ → ℕ → ℕ → ℕ → List Entry → List Entry
put limit id offset len [] = entry id offset len 1 ∷ []
put limit id offset len (e ∷ []) = if grows limit id offset e then record e { run_length = e.run_length + 1 } ∷ [] else e ∷ entry id offset len 1 ∷ []
put limit id offset len (e ∷ f ∷ es) = e ∷ put limit id offset len (f ∷ es)

-- other bytes than the new ones lie at another place
abbrev pub Separates : (List ℕ → ℕ) → List (ℕ × List ℕ) → ℕ × List ℕ → Type 0
Separates place [] a = Unit {0}
Separates place (b ∷ bs) a = (place b.1 ≡ place a.1 → b.1 ≡ a.1) × Separates place bs a

-- how many ids of a run the last entry takes
abbrev pub taken_by : ℕ → ℕ → ℕ → ℕ → Entry → ℕ
taken_by limit id offset count e = if grows limit id offset e then min count (limit - e.run_length) else 0

-- an entry of the other ids, where there are any
abbrev pub rest_of : ℕ → ℕ → ℕ → ℕ → List Entry
rest_of id offset len zero = []
rest_of id offset len (suc n) = entry id offset len (suc n) ∷ []

-- a run of at most as many ids as an entry may have: the last entry grows until it is full, and what is left follows it
abbrev pub put_run : ℕ → ℕ → ℕ → ℕ → ℕ → List Entry → List Entry
put_run limit id offset len count [] = rest_of id offset len count
put_run limit id offset len count (e ∷ []) =
    let taken = taken_by limit id offset count e in
    record e { run_length = e.run_length + taken } ∷ rest_of (id + taken) offset len (count - taken)
put_run limit id offset len count (e ∷ f ∷ es) = e ∷ put_run limit id offset len count (f ∷ es)

-- a run of adds of the same bytes: its ids one after another
abbrev pub with_run : List (ℕ × List ℕ) → ℕ → ℕ → List ℕ → List (ℕ × List ℕ)
with_run adds id zero bytes = adds
with_run adds id (suc n) bytes = with_run (adds ++ (id, bytes) ∷ []) (id + 1) n bytes

-- a run that fits into the last entry, and one that doesn't
pub grown_run : put_run 9 7 3 2 4 (entry 5 3 2 2 ∷ []) ≡ entry 5 3 2 6 ∷ []
grown_run = refl

pub parted_run : put_run 4 7 3 2 4 (entry 5 3 2 2 ∷ []) ≡ entry 5 3 2 4 ∷ entry 9 3 2 2 ∷ []
parted_run = refl

pub three_ids : with_run ((1, 48 ∷ []) ∷ []) 5 3 (49 ∷ []) ≡ (1, 48 ∷ []) ∷ (5, 49 ∷ []) ∷ (6, 49 ∷ []) ∷ (7, 49 ∷ []) ∷ []
three_ids = refl
